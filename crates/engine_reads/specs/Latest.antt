-- A destination's latest number for a voice, by what is known of the destination and of the last block. Definitions
-- only.
use Rattle.std.specs.Prelude.{Bool, false, cond, ◌&&◌, List, ℕ, ◌-◌, ltb, get_or, Float, Option, Some, None}
use Rattle.std.specs.Float.{nan}
use Rattle.state.specs.declared.Block.{Block}
use Rattle.model.specs.Chunks.{chunk_total}
use Rattle.engine_reads.specs.declared.Spot.{Spot}
use Rattle.engine_reads.specs.declared.Last.{Last}
use Rattle.engine_reads.specs.Ramp.{row_number}

-- the last chunk of a block, where it made one
unfoldable pub last_of : Block → Option Last
unfolding chunk_total
last_of b = cond (ltb 0 (chunk_total b)) (Some (record { chunk = chunk_total b - 1; frame = b.end - 1 })) None

-- row k in the lane of v, where v is an active one of n voices
unfoldable pub lane_number : List Float → ℕ → Spot → ℕ → List Bool → ℕ → ℕ → Float
lane_number m a s k active n v = cond (ltb v n && get_or active v false) (row_number m a s k v) nan

unfoldable pub latest_by : List Float → List Float → Spot → Option Last → List Bool → ℕ → ℕ → Float
unfolding lane_number
latest_by values audio s None active n v = nan
latest_by values audio s (Some l) active n v =
    cond s.audio (lane_number audio s.rows s l.frame active n v)
    (cond s.control (lane_number values s.to s l.chunk active n v) nan)
