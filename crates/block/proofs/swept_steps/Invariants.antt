-- `block::swept_steps` meets its contract. The invariant: the chunks before i are done.
use mathlib.Core.Path.{◌≡◌}
use mathlib.Core.Bool.{false}
use mathlib.Core.List.{List}
use Prim.Native.Nat.{◌-◌, ◌≤◌}
use lib.ListN.{length}
use lib.Ieee.{Float}
use Rattle.state.specs.declared.Signals.{Signals}
use Rattle.model.specs.World.{world_of}
use Rattle.model.specs.Process.{chunk_steps}
use Rattle.audio_rows.specs.Passes.{PreparedBy}
use Rattle.block.specs.Moves.{moved_by, whole_of}
use Rattle.block.specs.Scenes.{work_of}
use Rattle.block.proofs.swept_steps.Given as goal

abbrev pub invariant-loop-i : goal.invariant-loop-i
invariant-loop-i l =
    (l.i ≤ l.n) × (length l.held ≡ length l.initial.held) × (length l.audio ≡ length l.initial.audio)
    × ((signals : Signals) (v t : List Float) → PreparedBy (work_of l.state (whole_of l.block) false signals) (whole_of l.block) l.sweeping l.samples
    → world_of (moved_by l.state l.moving) l.held l.globals l.bases v l.audio t ≡ chunk_steps l.samples signals l.block l.i (world_of l.state l.initial.held l.globals l.bases v l.initial.audio t))

abbrev pub decreases-loop-i : goal.decreases-loop-i
decreases-loop-i l = l.n - l.i
