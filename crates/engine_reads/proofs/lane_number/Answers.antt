-- `engine_reads::lane_number` meets its contract.
use mathlib.Core.Path.{sym, ◌∙◌}
use native.Mathlib.Omega.{arith}
use Rattle.engine_reads.specs.Latest.{lane_number}
use Rattle.engine_reads.proofs.Latests.{on_below}
use Rattle.engine_reads.proofs.lane_number.Goals as goal

pub number_of-requires : goal.number_of-requires
number_of-requires c =
    let a = c.args in
    let h = on_below a.v a.voices _ (sym c.is_on.ensures ∙ c.if-is_on.true) in
    (omega arith, c.requires.1, omega arith)

pub returns-then-is_on : goal.returns-then-is_on
unfolding lane_number
returns-then-is_on c = c.number_of.ensures ∙ rw (sym c.is_on.ensures ∙ c.if-is_on.true)

pub returns : goal.returns
unfolding lane_number
returns c = c.not_a_number.ensures ∙ rw (sym c.is_on.ensures ∙ c.if-is_on.false)
