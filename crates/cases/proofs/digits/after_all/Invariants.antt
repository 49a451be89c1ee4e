-- `cases::digits::after_all` meets its contract. The loop's invariant: the bytes make of what was seen what those left make of
-- what is seen now. Assumes nothing.
use Rattle.std.proofs.Common.{◌≡◌}
use lib.ListN.{drop}
use Rattle.cases.specs.Numbers.{after_all}
use Rattle.cases.proofs.digits.after_all.Given as goal

abbrev pub invariant-loop-b : goal.invariant-loop-b
invariant-loop-b l = after_all l.initial.s l.bytes ≡ after_all l.s (drop l.b-index l.bytes)
