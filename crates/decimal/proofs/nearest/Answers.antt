-- `decimal::nearest` meets its contract. Assumes nothing.
use native.Mathlib.Omega.{arith}
use native.Mathlib.Nat.{mod-lt}
use Rattle.decimal.proofs.Rounding.{closest-down, closest-up, closest-tie, div_below}
use Rattle.decimal.proofs.nearest.Goals as goal

pub overflow_mul-twice : goal.overflow_mul-twice
overflow_mul-twice c = omega (arith, mod-lt c.args.a {m = c.args.b} (omega arith))

pub returns-then-twice-b : goal.returns-then-twice-b
returns-then-twice-b c = closest-down _ _ c.if-twice-b.true

pub overflow_add-result : goal.overflow_add-result
overflow_add-result c = omega (arith, div_below c.args.a c.args.b (omega arith))

pub returns-then-b-twice : goal.returns-then-b-twice
returns-then-b-twice c = closest-up _ _ c.if-b-twice.true

pub overflow_add-result-2 : goal.overflow_add-result-2
overflow_add-result-2 c = omega (arith, div_below c.args.a c.args.b (omega arith))

pub returns : goal.returns
returns c = closest-tie _ _ (omega arith)
