-- `block_opening::any_stride` meets its contract.
use mathlib.Core.Path.{◌∙◌}
use Rattle.std.proofs.Common.{tests}
use Rattle.std.proofs.lemmas.Iterator.{YieldsList-from_slice}
use Rattle.std.proofs.lemmas.Iterator.Search.{any_from_yields_List}
use borrow.Author.Rules.{rules}
use Rattle.block_opening.specs.Codes.{over_stride}
use Rattle.block_opening.proofs.Codes.{any_stride_any}
use Rattle.block_opening.proofs.any_stride.Goals as goal

pub returns : goal.returns
returns c =
    let ps = c.args.part in
    any_from_yields_List over_stride _ _ _ c.any.ensures.ran (YieldsList-from_slice ps cc) (λ x b q k. search (rules, tests))
    ∙ any_stride_any ps
