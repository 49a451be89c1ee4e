-- `engine_notes::ended` meets its contract.
use mathlib.Core.Path.{sym, ◌∙◌}
use borrow.Author.Tests.{ne_eqb}
use Rattle.refusal.proofs.Laws.{err-taken, ok-none}
use Rattle.engine_notes.proofs.ended.Goals as goal

pub returns-then-is_err : goal.returns-then-is_err
returns-then-is_err c = rw (ne_eqb _ 0 (err-taken c.args.judged (sym c.is_err.ensures.value ∙ c.if-is_err.true)))

pub returns : goal.returns
returns c = rw (ok-none c.args.judged (sym c.is_err.ensures.value ∙ c.if-is_err.false)) c.stopped.ensures
