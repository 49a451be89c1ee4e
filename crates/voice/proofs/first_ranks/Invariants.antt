-- `voice::first_ranks` meets its contract. The invariant: the elements below k are their numbers.
use Prim.Native.Nat.{ℕ, ◌≤◌, ◌-◌}
use Rattle.list.proofs.Filled.{Filled}
use Rattle.config.specs.Sizes.{most_voices}
use Rattle.voice.proofs.first_ranks.Given as goal

abbrev pub invariant-loop-k : goal.invariant-loop-k
invariant-loop-k l = (l.k ≤ most_voices) × Filled l.initial.out (λ (i : ℕ). i) l.k l.out

abbrev pub decreases-loop-k : goal.decreases-loop-k
decreases-loop-k l = most_voices - l.k
