-- `source::standard_count` meets its contract. Assumes nothing.
use native.Mathlib.Omega.{arith}
use Rattle.source.specs.Standard.{standard_count}
use Rattle.source.proofs.standard_count.Goals as goal

pub overflow_add-result-2 : goal.overflow_add-result-2
overflow_add-result-2 c = omega (arith, c.one_if.ensures.1)

pub returns : goal.returns
unfolding standard_count
returns c = omega (arith, c.one_if.ensures.0)
