-- `slots::all_finite` meets its contract.
use mathlib.Core.Path.{◌∙◌}
use Rattle.std.proofs.Common.{tests}
use Rattle.std.proofs.lemmas.Iterator.{YieldsList-from_slice}
use Rattle.std.proofs.lemmas.Iterator.Search.{all_from_yields_List}
use borrow.Author.Rules.{rules}
use Rattle.slots.specs.Slots.{numbers_finite}
use Rattle.slots.proofs.Laws.{all_finite_all}
use Rattle.slots.proofs.all_finite.Goals as goal

pub returns : goal.returns
returns c =
    let l = c.args.slot in
    all_from_yields_List numbers_finite _ _ _ c.all.ensures.ran (YieldsList-from_slice l cc) (λ x b q k. search (rules, tests))
    ∙ all_finite_all l
