-- `engine_notes::place` meets its contract.
use native.Mathlib.Omega.{arith}
use Rattle.engine_notes.proofs.Steps.{product-bound}
use Rattle.engine_notes.proofs.place.Goals as goal

pub overflow_mul-result : goal.overflow_mul-result
overflow_mul-result c = record { fits = omega (arith, product-bound c.args.i c.args.lane.stride 128 64 (omega arith) c.requires.0) }

pub overflow_add-result : goal.overflow_add-result
overflow_add-result c = record { fits = omega (arith, product-bound c.args.i c.args.lane.stride 128 64 (omega arith) c.requires.0) }
