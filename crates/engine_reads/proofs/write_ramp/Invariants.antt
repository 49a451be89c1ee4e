-- `engine_reads::write_ramp` meets its contract.
use Prim.Native.Nat.{ℕ, ◌+◌, ◌≤◌, ◌-◌}
use Rattle.list.proofs.Filled.{Filled}
use Rattle.engine_reads.specs.Ramp.{ramp_number}
use Rattle.engine_reads.proofs.write_ramp.Given as goal

abbrev pub invariant-loop-k : goal.invariant-loop-k
invariant-loop-k l = (l.k ≤ l.frames) × Filled l.initial.out (λ (i : ℕ). ramp_number l.values l.spot l.voice (l.phase + i)) l.k l.out

abbrev pub decreases-loop-k : goal.decreases-loop-k
decreases-loop-k l = l.frames - l.k
