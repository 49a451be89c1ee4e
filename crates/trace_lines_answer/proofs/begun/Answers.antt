-- `trace_lines_answer::begun` meets its contract. Assumes nothing.
use Rattle.trace_lines_answer.proofs.Begins.{begun-so}
use Rattle.trace_lines_answer.proofs.begun.Goals as goal

pub returns : goal.returns
returns c =
    begun-so _ _ _ _ _ c.line_of-said.ensures c.stop_of-words.ensures c.after-stop.ensures
