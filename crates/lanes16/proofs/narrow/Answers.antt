-- `lanes16::narrow` meets its contract.
use native.Mathlib.Omega.{arith}
use lib.Ieee.{of_bits}
use borrow.Author.Tests.{lt-ltb, le-ltb}
use Rattle.lanes16.proofs.narrow.Goals as goal

pub returns-then-p-wide : goal.returns-then-p-wide
returns-then-p-wide c = let a = c.args in rw (lt-ltb a.p a.wide (omega arith))

pub returns : goal.returns
unfolding of_bits
returns c = let a = c.args in rw (le-ltb a.p a.wide (omega arith))
