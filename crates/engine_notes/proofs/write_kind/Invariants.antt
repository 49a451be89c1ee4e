-- `engine_notes::write_kind` meets its contract. The invariant: the sources below i have taken x.
use mathlib.Core.Path.{◌≡◌}
use Prim.Native.Nat.{◌-◌, ◌≤◌}
use lib.ListN.{length}
use Rattle.engine_notes.specs.Noting.{held_in}
use Rattle.engine_notes.proofs.write_kind.Given as goal

abbrev pub invariant-loop-i : goal.invariant-loop-i
invariant-loop-i l = (l.i ≤ l.lane.sources) × (length l.mark ≡ 128) × (l.sources ≡ l.lane.sources) × (length l.held ≡ length l.initial.held) × (l.held ≡ held_in l.mark l.lane l.kind l.x l.i l.initial.held)

abbrev pub decreases-loop-i : goal.decreases-loop-i
decreases-loop-i l = l.sources - l.i
