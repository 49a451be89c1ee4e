-- `plan_sum::held_place` meets its contract.
use mathlib.Core.Bool.{not}
use mathlib.Core.Path.{refl, ap}
use native.Mathlib.Omega.{arith}
use borrow.Author.Tests.{leb-true}
use Rattle.lane_input.proofs.Tests.{was-true}
use Rattle.lane_input.proofs.Numbers.{product-bound}
use Rattle.plan_sum.proofs.held_place.Goals as goal

pub overflow_mul-start : goal.overflow_mul-start
overflow_mul-start c = let a = c.args in
    omega (arith, product-bound a.source a.stride 255 64 (omega arith) c.requires)

pub returns : goal.returns
returns c = λ i m. (leb-true _ _ (was-true c.fits.ensures (ap not c.if-not-fits.false)), λ z e l. e l (was-true refl (ap not c.if-not-voice.false)))
