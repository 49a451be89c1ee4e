-- `plan_slews::fresh_at` meets its contract.
use borrow.Author.Rules.{rules}
use mathlib.Core.Path.{◌≡◌, sym}
use mathlib.Core.Bool.{false}
use native.Mathlib.Omega.{arith}
use lib.ListN.{length}
use Rattle.list.proofs.Elements.{get_or_past}
use Rattle.plan_slews.proofs.fresh_at.Goals as goal

pub returns : goal.returns
returns c = let a = c.args in
    let long : length a.fresh ≡ 64 = search rules in
    sym (get_or_past a.fresh a.lane false (omega arith))
