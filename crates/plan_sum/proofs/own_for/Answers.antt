-- `plan_sum::own_for` meets its contract.
use Prim.Native.Nat.{◌+◌}
use native.Mathlib.Omega.{arith}
use Rattle.plan_sum.proofs.Found.{own-none, own-some}
use Rattle.plan_sum.proofs.own_for.Goals as goal

pub returns-then-first-ge-SLOTS : goal.returns-then-first-ge-SLOTS
returns-then-first-ge-SLOTS c = let a = c.args in (own-none (a.ground.first + a.j) _ (omega arith), omega arith)

pub returns-then-first-j : goal.returns-then-first-j
returns-then-first-j c = let a = c.args in (own-none (a.ground.first + a.j) _ (omega arith), omega arith)

pub returns : goal.returns
returns c = let a = c.args in (own-some (a.ground.first + a.j) (omega arith) c.own_start.ensures.0, c.own_start.ensures.1)
