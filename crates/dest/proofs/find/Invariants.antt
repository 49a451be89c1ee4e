-- `dest::find` meets its contract. The loop's invariant: what the registry holds of the target is what is found from entry i on.
-- The measure is what is left of the registered entries.
use Prim.Native.Nat.{◌≤◌, ◌-◌}
use Rattle.dest.proofs.Search.{SearchedTo}
use Rattle.dest.proofs.find.Given as goal

abbrev pub invariant-loop-i : goal.invariant-loop-i
invariant-loop-i l = (l.i ≤ l.n) × SearchedTo l.dests l.target l.i

abbrev pub decreases-loop-i : goal.decreases-loop-i
decreases-loop-i l = l.n - l.i
