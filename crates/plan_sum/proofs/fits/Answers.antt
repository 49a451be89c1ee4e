-- `plan_sum::fits` meets its contract.
use mathlib.Core.Path.{sym}
use Prim.Native.Nat.{◌+◌}
use native.Mathlib.Omega.{arith}
use borrow.Author.Tests.{lt-leb}
use Rattle.plan_sum.proofs.Places.{fits-is}
use Rattle.plan_sum.proofs.fits.Goals as goal

pub returns-then-len-start : goal.returns-then-len-start
returns-then-len-start c = let a = c.args in sym (lt-leb (a.start + a.n) a.len (omega arith))

pub returns : goal.returns
returns c = let a = c.args in fits-is a.len a.start a.n (omega arith)
