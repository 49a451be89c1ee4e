-- `plan_slews::put_part` meets its contract.
use mathlib.Core.Path.{ap}
use mathlib.Core.Bool.{not}
use borrow.Author.Tests.{leb-true}
use Rattle.lane_input.proofs.Tests.{was-true}
use Rattle.plan_slews.proofs.put_part.Goals as goal

pub put_whole-requires : goal.put_whole-requires
put_whole-requires c = (leb-true _ _ (was-true c.fits.ensures (ap not c.if-not-fits.false)), leb-true _ _ (was-true c.fits-2.ensures (ap not c.if-not-fits-2.false)))
