-- `engine_notes::write_randoms` meets its contract. The invariant: the random sources below i have their draws, and the last is the state after them.
use mathlib.Core.Path.{◌≡◌}
use Prim.Native.Nat.{◌-◌, ◌≤◌}
use lib.ListN.{length}
use Rattle.engine_notes.specs.Noting.{draws_in, randoms_in}
use Rattle.engine_notes.proofs.write_randoms.Given as goal

abbrev pub invariant-loop-i : goal.invariant-loop-i
invariant-loop-i l = (l.i ≤ l.lane.sources) × (length l.mark ≡ 128) × (l.sources ≡ l.lane.sources) × (length l.held ≡ length l.initial.held) × (l.last ≡ draws_in l.mark l.draw l.i) × (l.held ≡ randoms_in l.mark l.lane l.draw l.i l.initial.held)

abbrev pub decreases-loop-i : goal.decreases-loop-i
decreases-loop-i l = l.sources - l.i
