-- The parts of a block, of a world, each under a name that stands for itself; proofs/Blocks says that they are model's. Definitions only.
use Rattle.std.specs.Prelude.{cond, ◌&&◌, List, ℕ, ◌-◌, eqb, ltb, Float}
use Rattle.state.specs.declared.Block.{Block}
use Rattle.state.specs.declared.Signals.{Signals}
use Rattle.model.specs.Counts.{route_total}
use Rattle.model.specs.Chunks.{chunk_total}
use Rattle.model.specs.World.{World}
use Rattle.model.specs.Process.{loaded, drawn, glided, chunk_steps, closed, block_of, no_block}

unfoldable pub loaded_world : World → World
loaded_world w = loaded w

unfoldable pub drawn_world : World → World
drawn_world w = drawn w

unfoldable pub closed_world : Block → ℕ → World → World
closed_world b len w = closed b len w

unfoldable pub routeless_world : ℕ → World → World
routeless_world len w = closed_world no_block len (glided len w)

-- the block b
unfoldable pub stepped_world : List Float → Signals → Block → ℕ → World → World
stepped_world samples signals b len w = closed_world b len (chunk_steps samples signals b (chunk_total b) (drawn_world (loaded_world w)))

unfoldable pub routed_world : List Float → Signals → ℕ → ℕ → World → World
routed_world samples signals start end w = stepped_world samples signals (block_of w.state start end) (end - start) w

unfoldable pub run_world : List Float → Signals → ℕ → ℕ → World → World
run_world samples signals start end w =
    cond (eqb (route_total w.state.program) 0) (routeless_world (end - start) w) (routed_world samples signals start end w)

-- a call with that number: a refused one, and an empty range, change nothing
unfoldable pub answered_world : ℕ → List Float → Signals → ℕ → ℕ → World → World
answered_world code samples signals start end w = cond (eqb code 0 && ltb start end) (run_world samples signals start end w) w
