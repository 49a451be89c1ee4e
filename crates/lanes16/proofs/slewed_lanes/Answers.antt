-- `lanes16::slewed_lanes` meets its contract.
use Prim.Native.Nat.{◌+◌}
use native.Mathlib.Omega.{arith}
use borrow.Author.Tests.{lt-ltb}
use Rattle.lanes16.proofs.slewed_lanes.Goals as goal

pub returns-in-None : goal.returns-in-None
returns-in-None c = λ t s j a w e l h. rw c.in-None.is

pub returns-in-Some : goal.returns-in-Some
returns-in-Some c = λ t s j a w e l h. let z = c.args in rw (c.in-Some.is, a, ← c.reach.ensures, ← c.reach-in-Some.ensures, w, lt-ltb (z.lane + l) z.view.point.stride (omega (arith, c.requires.2)), ← c.own_lanes.ensures s j e l h) (c.step_lanes.ensures l h)
