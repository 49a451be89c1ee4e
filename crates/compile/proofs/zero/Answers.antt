-- `compile::zero` meets its contract.
use mathlib.Core.Path.{◌∙◌}
use native.Mathlib.Numerals.{unary_clauses}
use lib.Ieee.{of_bits}
use Rattle.model.specs.Compile.{zeroed}
use Rattle.compile.proofs.zero.Goals as goal

pub returns : goal.returns
unfolding zeroed of_bits
returns c = c.fill_part.ensures ∙ simp unary_clauses
