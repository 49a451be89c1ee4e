-- `plan_sum::route_or` meets its contract.
use Prim.Native.Nat.{◌+◌}
use native.Mathlib.Omega.{arith}
use borrow.Author.Tests.{lt-ltb, le-ltb}
use Rattle.config.specs.Sizes.{slots}
use Rattle.plan_sum.proofs.route_or.Goals as goal

pub returns-then-first-ge-SLOTS : goal.returns-then-first-ge-SLOTS
returns-then-first-ge-SLOTS c = let a = c.args in rw (le-ltb (a.first + a.j) slots (omega arith)) c.no_route.ensures

pub returns-then-first-j : goal.returns-then-first-j
returns-then-first-j c = let a = c.args in rw (le-ltb (a.first + a.j) slots (omega arith)) c.no_route-then-first-j.ensures

pub returns : goal.returns
returns c = let a = c.args in rw (lt-ltb (a.first + a.j) slots (omega arith))
