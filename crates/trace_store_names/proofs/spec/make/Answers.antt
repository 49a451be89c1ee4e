use Rattle.std.proofs.Common.{◌≡◌, ◌-◌, ◌<◌, ◌≤◌, length, arith, rules}
use Rattle.trace_store_names.proofs.spec.make.Goals as goal

pub loop-end-smaller : goal.loop-end-smaller
loop-end-smaller c = omega (arith, c.change_before-end.ensures (omega arith))
