-- `decimal::is_digit` meets its contract. Assumes nothing.
use Rattle.std.proofs.Math.Dec.{leb-suc-suc}
use Rattle.decimal.specs.Decimal.{is_digit}
use Rattle.decimal.proofs.is_digit.Goals as goal

pub returns : goal.returns
unfolding is_digit
returns c = rw (leb-suc-suc c.args.b 57) c.is_ascii_digit.ensures.value
