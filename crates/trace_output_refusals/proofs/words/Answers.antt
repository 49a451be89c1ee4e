-- `trace_output_refusals::words` meets its contract. Assumes nothing.
use borrow.Author.Rules.{rules}
use Rattle.trace_output_refusals.proofs.Refusals.{row_word}
use Rattle.trace_output_refusals.proofs.words.Goals as goal

pub returns : goal.returns
returns c = search (rules, row_word)
