-- The numbers of a ramp, frame by frame. Definitions only.
use Rattle.std.specs.Prelude.{cond, List, ℕ, ◌+◌, ◌*◌, ◌/◌, ◌%◌, get_or, Float}
use Rattle.std.specs.Float.{nan}
use Rattle.config.specs.Sizes.{period}
use Rattle.model.specs.Outputs.{ramp_at}
use Rattle.engine_reads.specs.declared.Spot.{Spot}

-- row k of a destination, its rows from a on, in the lane of voice v
abbrev pub row_number : List Float → ℕ → Spot → ℕ → ℕ → Float
row_number m a s k v = get_or m (a + k * s.width + cond s.voice v 0) nan

-- t samples after the period's edge at or before the block's first frame
unfoldable pub ramp_number : List Float → Spot → ℕ → ℕ → Float
ramp_number m s v t = ramp_at (row_number m s.from s (t / period) v) (row_number m s.to s (t / period) v) (t % period)
