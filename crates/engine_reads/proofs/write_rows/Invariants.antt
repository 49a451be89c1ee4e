-- `engine_reads::write_rows` meets its contract.
use Prim.Native.Nat.{◌≤◌, ◌-◌}
use Rattle.engine_reads.proofs.Latests.{Rows}
use Rattle.engine_reads.proofs.write_rows.Given as goal

abbrev pub invariant-loop-d : goal.invariant-loop-d
invariant-loop-d l = (l.d ≤ l.dests) × Rows l.state l.values l.audio l.n l.initial.out l.d l.out

abbrev pub decreases-loop-d : goal.decreases-loop-d
decreases-loop-d l = l.dests - l.d
