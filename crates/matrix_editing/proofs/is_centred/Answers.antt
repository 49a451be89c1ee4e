-- `matrix_editing::is_centred` meets its contract.
use mathlib.Core.Path.{ap}
use lib.Ieee.{Float, le, of_bits}
use Rattle.matrix_editing.specs.Drag.{centre_tolerance, centred}
use Rattle.matrix_editing.proofs.is_centred.Goals as goal

pub returns : goal.returns
unfolding centred of_bits
returns c = ap (λ (x : Float). le x centre_tolerance) c.abs.ensures
