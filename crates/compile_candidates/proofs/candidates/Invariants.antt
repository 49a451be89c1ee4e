-- `compile_candidates::candidates` meets its contract. The loop's invariant: `out` and those of the verdicts left are all.
use mathlib.Core.Path.{◌≡◌}
use mathlib.Core.List.{◌++◌}
use Prim.Native.Nat.{◌≤◌}
use lib.ListN.{drop, length}
use Rattle.model.specs.Wiring.{taken_of}
use Rattle.compile_candidates.proofs.candidates.Given as goal

abbrev pub invariant-loop-v : goal.invariant-loop-v
invariant-loop-v l = (l.out.items ++ taken_of (drop l.v-index l.verdict) ≡ taken_of l.verdict) × (length l.out.items ≤ l.v-index)
