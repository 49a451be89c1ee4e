-- `voice::any` meets its contract.
use mathlib.Core.Path.{◌∙◌}
use mathlib.Core.Bool.{Bool}
use Rattle.std.proofs.Common.{tests}
use Rattle.std.proofs.lemmas.Iterator.{YieldsList-from_slice}
use Rattle.std.proofs.lemmas.Iterator.Search.{any_from_yields_List}
use Rattle.voice.proofs.Counted.{any_of_any}
use borrow.Author.Rules.{rules}
use Rattle.voice.proofs.any.Goals as goal

pub returns : goal.returns
returns c =
    let bs = c.args.marks in
    any_from_yields_List (λ (b : Bool). b) _ _ _ c.any.ensures.ran (YieldsList-from_slice bs cc) (λ x b q k. search (rules, tests))
    ∙ any_of_any bs
