-- `curve_table::check_curve` meets its contract: its one row.
use mathlib.Core.Path.{◌∙◌}
use Rattle.refusal.specs.Judge.{judged}
use Rattle.curve_table.specs.Curve.{curve_code}
use Rattle.curve_table.proofs.check_curve.Goals as goal

pub returns : goal.returns
unfolding curve_code judged
returns c = c.when.ensures ∙ rw c.seconds_finite.ensures
