-- `lane_input::lane_from` meets its contract. Past the slice there is a NaN.
use mathlib.Core.Path.{sym, ◌∙◌}
use lib.Ieee.{nan}
use Rattle.lane_input.proofs.Numbers.{past-start, past-rest}
use Rattle.lane_input.proofs.lane_from.Goals as goal

pub returns-then-len-start : goal.returns-then-len-start
returns-then-len-start c = let a = c.args in
    c.not_a_number.ensures ∙ sym (past-start a.values.now a.start a.lane nan c.if-len-start.true)

pub returns-then-len-start-2 : goal.returns-then-len-start-2
returns-then-len-start-2 c = let a = c.args in
    c.not_a_number-then-len-start-2.ensures ∙ sym (past-rest a.values.now a.start a.lane nan c.if-len-start-2.true)
