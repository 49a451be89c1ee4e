-- `decimal::signed` meets its contract. Assumes nothing.
use Rattle.decimal.proofs.signed.Goals as goal

pub returns-then-s : goal.returns-then-s
returns-then-s c = simp c.if-s.true
