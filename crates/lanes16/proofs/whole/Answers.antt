-- `lanes16::whole` meets its contract. Cells.antt says what the digits of the sum's bit pattern are.
use mathlib.Core.Path.{◌≡◌}
use mathlib.Core.Bool.{true}
use native.Mathlib.Omega.{arith}
use lib.Ieee.{Float, le}
use Rattle.number.specs.Number.{zero32}
use Rattle.lanes16.specs.Cells.{last32}
use Rattle.lanes16.proofs.Cells.{Low, low_of, cells_is, no_nan, digits_le, digits-float, cut-back, kept}
use Rattle.lanes16.proofs.whole.Goals as goal

low : (x : Float) → (le zero32 x ≡ true) × (le x last32 ≡ true) → Low x
low x h = low_of x h.0 h.1

pub float_to_bits-bits : goal.float_to_bits-bits
float_to_bits-bits c = rw cells_is (no_nan c.args.x (low c.args.x c.requires))

pub int_to_float-n : goal.int_to_float-n
int_to_float-n c = rw cells_is (digits-float c.args.x (low c.args.x c.requires))

pub overflow_add-result : goal.overflow_add-result
overflow_add-result c = rw cells_is (omega (arith, digits_le c.args.x (low c.args.x c.requires)))

pub returns-then-n-x : goal.returns-then-n-x
returns-then-n-x c = rw cells_is (cut-back c.args.x (low c.args.x c.requires) (rw cells_is at c.if-n-x.true))

pub returns : goal.returns
returns c = rw cells_is (kept c.args.x (low c.args.x c.requires) (rw cells_is at c.if-n-x.false))
