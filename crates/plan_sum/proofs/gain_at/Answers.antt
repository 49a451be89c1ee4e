-- `plan_sum::gain_at` meets its contract.
use borrow.Author.Rules.{rules}
use mathlib.Core.Path.{◌≡◌, sym, ◌∙◌}
use native.Mathlib.Omega.{arith}
use lib.ListN.{length}
use lib.Ieee.{nan}
use Rattle.list.proofs.Elements.{get_or_past}
use Rattle.plan_sum.proofs.gain_at.Goals as goal

pub returns : goal.returns
returns c = let a = c.args in
    let long : length a.gains ≡ 64 = search rules in
    c.not_a_number.ensures ∙ sym (get_or_past a.gains a.slot nan (omega arith))
