-- `block_opening::any_outside` meets its contract.
use mathlib.Core.Path.{◌∙◌}
use Rattle.std.proofs.Common.{tests}
use Rattle.std.proofs.lemmas.Iterator.{YieldsList-from_slice}
use Rattle.std.proofs.lemmas.Iterator.Search.{any_from_yields_List}
use borrow.Author.Rules.{rules}
use Rattle.block_opening.specs.Codes.{outside}
use Rattle.block_opening.proofs.Codes.{any_outside_any}
use Rattle.block_opening.proofs.any_outside.Goals as goal

pub returns : goal.returns
returns c =
    let ps = c.args.part in
    any_from_yields_List (outside c.args.n) _ _ _ c.any.ensures.ran (YieldsList-from_slice ps cc) (λ x b q k. search (rules, tests))
    ∙ any_outside_any c.args.n ps
