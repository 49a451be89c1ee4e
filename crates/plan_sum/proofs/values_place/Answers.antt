-- `plan_sum::values_place` meets its contract.
use mathlib.Core.Bool.{not}
use mathlib.Core.Path.{refl, ap}
use borrow.Author.Tests.{leb-true}
use Rattle.lane_input.proofs.Tests.{was-true}
use Rattle.plan_sum.proofs.values_place.Goals as goal

pub returns : goal.returns
returns c = λ h i. (leb-true _ _ (was-true c.fits.ensures (ap not c.if-not-fits.false)), λ z e l k. e l k (was-true refl (ap not c.if-not-voice.false)))
