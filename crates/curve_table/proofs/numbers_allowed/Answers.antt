-- `curve_table::numbers_allowed` meets its contract.
use Rattle.std.proofs.Common.{rules, tests, ◌∙◌}
use Rattle.std.proofs.lemmas.Iterator.{YieldsList-from_slice}
use Rattle.std.proofs.lemmas.Iterator.Search.{all_from_yields_List}
use Rattle.curve_table.specs.Table.{allowed}
use Rattle.curve_table.proofs.Laws.{allowed-all}
use Rattle.curve_table.proofs.numbers_allowed.Goals as goal

pub returns : goal.returns
returns c =
    let xs = c.args.table.now in
    all_from_yields_List allowed _ _ _ c.all.ensures.ran (YieldsList-from_slice xs cc) (λ x b q k. search (rules, tests))
    ∙ allowed-all xs
