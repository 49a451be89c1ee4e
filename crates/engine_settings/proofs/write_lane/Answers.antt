-- `engine_settings::write_lane` meets its contract.
use native.Mathlib.Omega.{arith}
use Rattle.engine_settings.proofs.write_lane.Goals as goal

pub overflow_mul-at : goal.overflow_mul-at
overflow_mul-at c = omega (arith, c.requires)

pub overflow_add-at : goal.overflow_add-at
overflow_add-at c = omega (arith, c.requires)
