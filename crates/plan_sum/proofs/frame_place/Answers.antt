-- `plan_sum::frame_place` meets its contract.
use mathlib.Core.Bool.{not}
use mathlib.Core.Path.{◌≡◌, ap}
use Prim.Native.Nat.{◌+◌}
use native.Mathlib.Omega.{arith}
use borrow.Author.Tests.{leb-true}
use lib.ListN.{length}
use Rattle.lane_input.proofs.Tests.{was-true}
use Rattle.plan_sum.proofs.frame_place.Goals as goal

pub overflow_add-start : goal.overflow_add-start
overflow_add-start c = let a = c.args in omega (arith, leb-true (a.from + a.row) (length a.samples.now) (was-true c.fits.ensures (ap not c.if-not-fits.false)))

pub returns : goal.returns
returns c = λ h m.
    let a = c.args in
    (leb-true _ _ (was-true c.fits-2.ensures (ap not c.if-not-fits-2.false)), λ z e l k. let q : a.from + (a.row + l) ≡ a.from + a.row + l = omega arith in rw q at (e l k))
