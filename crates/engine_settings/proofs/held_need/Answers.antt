-- `engine_settings::held_need` meets its contract.
use Rattle.engine_settings.proofs.Bounds.{held-bound}
use native.Mathlib.Omega.{arith}
use borrow.Author.Rules.{rules}
use Rattle.engine_settings.proofs.held_need.Goals as goal

pub overflow_mul-result : goal.overflow_mul-result
overflow_mul-result c = omega (arith, held-bound c.args.config.voices c.args.n c.stride_of.result c.sources_of.result c.stride_of.ensures c.sources_of.ensures)

pub returns : goal.returns
returns c = rw (c.stride_of.ensures, c.sources_of.ensures)
