-- `decimal::more` meets its contract. Assumes nothing.
use native.Mathlib.Omega.{arith}
use Rattle.decimal.proofs.Rows.{digit_low}
use Rattle.decimal.proofs.more.Goals as goal

pub overflow_sub-next : goal.overflow_sub-next
overflow_sub-next c = omega (arith, digit_low _ c.requires.2)
