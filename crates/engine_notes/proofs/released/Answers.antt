-- `engine_notes::released` meets its contract.
use mathlib.Core.Path.{sym, ◌∙◌}
use borrow.Author.Tests.{ne_eqb}
use Rattle.refusal.proofs.Laws.{err-taken, ok-none}
use Rattle.engine_notes.proofs.released.Goals as goal

pub returns-then-is_err : goal.returns-then-is_err
returns-then-is_err c = rw (ne_eqb _ 0 (err-taken c.args.judged (sym c.is_err.ensures.value ∙ c.if-is_err.true)))

pub write_kind-requires : goal.write_kind-requires
write_kind-requires c = c.requires (ok-none c.args.judged (sym c.is_err.ensures.value ∙ c.if-is_err.false))

pub returns : goal.returns
returns c = rw (ok-none c.args.judged (sym c.is_err.ensures.value ∙ c.if-is_err.false)) c.write_kind.ensures
