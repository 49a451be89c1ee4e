-- `voice::any_moving` meets its contract.
use mathlib.Core.Path.{◌∙◌}
use Rattle.std.proofs.Common.{tests}
use Rattle.std.proofs.lemmas.Iterator.{YieldsList-from_slice}
use Rattle.std.proofs.lemmas.Iterator.Search.{any_from_yields_List}
use Rattle.voice.specs.Notes.{moving}
use Rattle.voice.proofs.Glides.{any_moving_any}
use borrow.Author.Rules.{rules}
use Rattle.voice.proofs.any_moving.Goals as goal

pub returns : goal.returns
returns c =
    let gs = c.args.glide in
    any_from_yields_List moving _ _ _ c.any.ensures.ran (YieldsList-from_slice gs cc) (λ x b q k. search (rules, tests))
    ∙ any_moving_any gs
