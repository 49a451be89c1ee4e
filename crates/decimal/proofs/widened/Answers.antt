use mathlib.Core.Path.{sym, ap, ◌∙◌}
use Prim.Native.Nat.{ℕ, ◌*◌}
use native.Mathlib.Omega.{arith}
use native.Mathlib.Nat.{mul-one}
use Rattle.decimal.proofs.Values.{next-two}
use Rattle.decimal.proofs.widened.Goals as goal

pub loop-value-init : goal.loop-value-init
loop-value-init c = (sym (mul-one _), omega arith, omega arith)

pub loop-value-preserved : goal.loop-value-preserved
loop-value-preserved c = (ap (λ (z : ℕ). z * 2) c.loop-value.invariant.0 ∙ next-two _ _, omega arith, omega arith)

pub returns : goal.returns
returns c = (c.loop-value.invariant.0, omega arith, omega arith)
