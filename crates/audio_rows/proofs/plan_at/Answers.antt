-- `audio_rows::plan_at` meets its contract.
use borrow.Author.Rules.{rules}
use mathlib.Core.Path.{◌≡◌}
use native.Mathlib.Omega.{arith}
use lib.ListN.{length}
use Rattle.list.proofs.Elements.{get_or-inside, length-mapped}
use Rattle.audio_rows.proofs.plan_at.Goals as goal

pub returns : goal.returns
returns c = let a = c.args in
    let long : length a.plans ≡ 64 = search (rules, length-mapped) in
    get_or-inside a.plans a.d _ _ (omega arith)
