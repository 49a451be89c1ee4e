-- `plan_sum::one_row` meets its contract.
use borrow.Author.Rules.{rules}
use mathlib.Core.Path.{◌≡◌, ap, ◌∙◌}
use native.Mathlib.Omega.{arith}
use lib.ListN.{length}
use lib.Seq.{get_or-set_same}
use lib.Ieee.{nan}
use Rattle.model.specs.Counts.{at}
use Rattle.model.specs.Sums.{add_lane}
use Rattle.plan_sum.proofs.one_row.Goals as goal

pub returns : goal.returns
returns c = λ t f s j re v.
    let a = c.args in
    let long : length a.row ≡ 64 = search (rules, c.well_formed.1.1.1.0) in
    get_or-set_same a.row 0 _ nan (omega arith) ∙ c.add_lane.ensures t f s j re.snap re.fresh v ∙ ap (add_lane t f s j a.route (at a.row 0)) (c.addend-found.ensures t re.voices)
