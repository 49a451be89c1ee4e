-- `engine_reads::write_lanes` meets its contract.
use Prim.Native.Nat.{◌≤◌, ◌-◌}
use lib.ListN.{length}
use Rattle.list.proofs.Filled.{Filled}
use Rattle.engine_reads.specs.Latest.{lane_number}
use Rattle.engine_reads.proofs.write_lanes.Given as goal

abbrev pub invariant-loop-v : goal.invariant-loop-v
invariant-loop-v l = (l.v ≤ length l.initial.out) × Filled l.initial.out (lane_number l.mem l.a l.spot l.k l.active l.voices) l.v l.out

abbrev pub decreases-loop-v : goal.decreases-loop-v
decreases-loop-v l = length l.initial.out - l.v
