-- `source::any_long` meets its contract. Assumes nothing.
use Rattle.std.proofs.Common.{ltb, rules, tests, ◌∙◌}
use Rattle.std.proofs.lemmas.Iterator.{YieldsList-from_slice}
use Rattle.std.proofs.lemmas.Iterator.Search.{any_from_yields_List}
use Rattle.source.specs.Keys.{most_key_bytes}
use Rattle.source.proofs.Audio.{long-any}
use Rattle.source.proofs.any_long.Goals as goal

pub returns : goal.returns
returns c =
    let xs = c.args.lengths.now in
    any_from_yields_List (ltb most_key_bytes) _ _ _ c.any.ensures.ran (YieldsList-from_slice xs cc) (λ x b q k. search (rules, tests))
    ∙ long-any xs
