-- `trace_input_session::all_hex` meets its contract. Assumes nothing.
use Rattle.std.proofs.Common.{rules, tests, ◌∙◌}
use Rattle.std.proofs.lemmas.Iterator.{YieldsList-from_slice}
use Rattle.std.proofs.lemmas.Iterator.Search.{all_from_yields_List}
use Rattle.trace_input_session.specs.Words.{is_hex}
use Rattle.trace_input_session.proofs.Laws.{hex-all}
use Rattle.trace_input_session.proofs.all_hex.Goals as goal

pub returns : goal.returns
returns c =
    all_from_yields_List is_hex _ _ c.all.result c.all.ensures.ran (YieldsList-from_slice c.args.w.now c.iter.ensures.rest) (λ x b q k. search (rules, tests)) ∙ hex-all c.args.w.now
