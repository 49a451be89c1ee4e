-- `slots::first_empty` meets its contract.
use mathlib.Core.Path.{◌∙◌}
use Rattle.std.proofs.Common.{tests}
use Rattle.std.proofs.lemmas.Iterator.{YieldsList-from_slice}
use Rattle.std.proofs.lemmas.Iterator.Search.{position_from_yields_List}
use borrow.Author.Rules.{rules}
use Rattle.list.proofs.Places.{place_is}
use Rattle.slots.specs.Slots.{is_empty_slot, first_empty}
use Rattle.slots.proofs.Laws.{empty-none, empty-more}
use Rattle.slots.proofs.first_empty.Goals as goal

pub returns : goal.returns
returns c =
    let l = c.args.slot in
    c.unwrap_or.ensures
    ∙ place_is is_empty_slot l first_empty empty-none empty-more _ _ (search rules)
    (position_from_yields_List is_empty_slot _ _ _ c.position.ensures.ran (YieldsList-from_slice l cc) (λ x b q k. search (rules, tests)))
