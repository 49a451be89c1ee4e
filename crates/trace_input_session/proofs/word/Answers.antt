-- `trace_input_session::word` meets its contract. Assumes nothing.
use mathlib.Core.Path.{◌∙◌}
use Rattle.trace_input_session.specs.Lines.{words_of}
use Rattle.trace_input_session.proofs.Walks.{word_of}
use Rattle.trace_input_session.proofs.word.Goals as goal

pub returns : goal.returns
returns c =
    let l = c.args.line.now in
    c.word_at.ensures ∙ word_of l (words_of l) c.place.result c.args.n c.place.ensures.begun c.place.ensures.within c.place.ensures.rest
