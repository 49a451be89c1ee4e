-- `replay_leaves::replay_file` meets its contract: 64 blocks of 65,205 bytes are counted without wrapping.
use Prim.Native.Nat.{◌≤◌, ◌<◌, ◌-◌, ◌*◌}
use Rattle.replay_leaves.proofs.replay_file.Given as goal

abbrev pub invariant-loop-k : goal.invariant-loop-k
invariant-loop-k l = (l.k ≤ 64) × (l.bytes ≤ 65205 * l.k) × (l.differ ≤ 65205 * l.k) × (0 < l.w)

abbrev pub decreases-loop-k : goal.decreases-loop-k
decreases-loop-k l = 64 - l.k
