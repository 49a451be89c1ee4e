-- `compile_candidates::verdicts` meets its contract. The loop's invariant: the first n places have the verdicts of the first n slots.
use Prim.Native.Nat.{◌≤◌, ◌-◌}
use Rattle.config.specs.Sizes.{slots}
use Rattle.compile_candidates.proofs.Turns.{Judged}
use Rattle.compile_candidates.proofs.verdicts.Given as goal

abbrev pub invariant-loop-n : goal.invariant-loop-n
invariant-loop-n l = (l.n ≤ slots) × Judged l.sources l.dests l.slot l.n l.out

abbrev pub decreases-loop-n : goal.decreases-loop-n
decreases-loop-n l = slots - l.n
