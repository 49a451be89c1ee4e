-- `voice::either` meets its contract. The invariant: the marks below v are joined.
use Prim.Native.Nat.{ℕ, ◌≤◌, ◌-◌}
use lib.ListN.{get_or}
use Rattle.list.proofs.Filled.{Filled}
use mathlib.Core.Bool.{false, ◌||◌}
use Rattle.config.specs.Sizes.{most_voices}
use Rattle.voice.proofs.either.Given as goal

abbrev pub invariant-loop-v : goal.invariant-loop-v
invariant-loop-v l = (l.v ≤ most_voices) × Filled l.initial.out (λ (i : ℕ). get_or l.initial.out i false || get_or l.others i false) l.v l.out

abbrev pub decreases-loop-v : goal.decreases-loop-v
decreases-loop-v l = most_voices - l.v
