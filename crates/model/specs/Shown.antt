-- WHAT A BLOCK SHOWS OF ITS TICKS: after it, at each of its chunks that ticks, `to_part` hands back, of each control
-- destination in use and in each lane, the number that the tick left, of which `Claimed.rule` speaks (Claim.antt).
-- Definitions only; proved in proofs/Shown.antt.
use Rattle.std.specs.Prelude.{◌≡◌, List, [], ◌∷◌, ℕ, ◌+◌, ◌*◌, ◌<◌, Some}
use Rattle.feed.specs.Numbers.{In}
use Rattle.state.specs.declared.Chunk.{Chunk}
use Rattle.state.specs.Output as O
use Rattle.state.specs.declared.Wiring.{Wiring}
use Rattle.model.specs.Feeds.{controls}
use Rattle.model.specs.Counts.{at}
use Rattle.model.specs.Chunks.{chunk_total}
use Rattle.model.specs.World.{World}
use Rattle.model.specs.Outputs.{chunk_at, shape_of, to_part}
use Rattle.model.specs.Calls.{Call, block, other, Runner, called}
use Rattle.model.specs.Rule.{lanes_of}
use Rattle.model.specs.Claim.{Moment, call_ticks, stands, after, Named, Each}

-- after the block, v: its chunk list has the tick's chunk, and of each control destination in use `to_part` hands back,
-- in that chunk's row and in every lane, the number that the tick left
pub record Shown (x : Moment) (v : World) : Type 0 where
  -- which chunk it is, from 0 on
  pub number : ℕ
  -- that chunk
  pub chunk : Chunk
  -- it stands where the tick does
  pub stood : (chunk.start, chunk.phase) ≡ stands x
  -- it is there by its number
  pub there : chunk_at v.state number ≡ Some chunk
  -- the destination has a control plan, a row of its lanes a chunk
  pub shape : (d : ℕ) → In d (controls x.wiring)
      → shape_of v.state d ≡ O.Control (lanes_of x.wiring x.env d) (chunk_total v.state.block)
  -- its rows are handed back
  pub code : (d : ℕ) → (to_part v.state v.values d).code ≡ 0
  -- and hold the tick's numbers
  pub numbers : (d l : ℕ) → In d (controls x.wiring) → l < lanes_of x.wiring x.env d
      → at (to_part v.state v.values d).numbers (number * lanes_of x.wiring x.env d + l) ≡ (after x).to d l

-- each block shows its ticks
abbrev pub call_shows : (ℕ → Wiring) → Call → Runner → Type 0
call_shows names (block samples signals start end) r =
    Each (λ x. Shown x (called (block samples signals start end) r).world)
    (call_ticks names (block samples signals start end) r)
call_shows names (other o) r = Unit {0}

abbrev pub AllShown : (ℕ → Wiring) → List Call → Runner → Type 0
AllShown names [] r = Unit {0}
AllShown names (c ∷ cs) r = call_shows names c r × AllShown names cs (called c r)

-- over every list of calls, from every engine whose programs are what their names were compiled from
abbrev pub ShownClaim : Type 0
ShownClaim = (names : ℕ → Wiring) (cs : List Call) (r : Runner) → Named names r → AllShown names cs r
