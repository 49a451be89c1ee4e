-- `block::each_step` meets its contract.
use mathlib.Core.Path.{◌≡◌}
use Prim.Native.Nat.{◌-◌, ◌≤◌}
use lib.ListN.{length}
use Rattle.model.specs.World.{world_of}
use Rattle.model.specs.Process.{chunk_steps}
use Rattle.block.specs.Room.{Keeps}
use Rattle.block.proofs.each_step.Given as goal

abbrev pub invariant-loop-i : goal.invariant-loop-i
invariant-loop-i l =
    (l.i ≤ l.n) × (length l.held ≡ length l.initial.held) × (length l.values ≡ length l.initial.values) × (length l.audio ≡ length l.initial.audio) × Keeps l.initial.next l.next
    × (world_of l.next l.held l.globals l.bases l.values l.audio l.tables ≡ chunk_steps l.samples l.signals l.block l.i (world_of l.initial.next l.initial.held l.globals l.bases l.initial.values l.initial.audio l.tables))

abbrev pub decreases-loop-i : goal.decreases-loop-i
decreases-loop-i l = l.n - l.i
