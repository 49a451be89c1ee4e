-- `refusal::when` meets its contract: one row that applies, or does not. Assumes nothing.
use mathlib.Core.Path.{sym, ◌∙◌}
use mathlib.Core.List.{[]}
use Rattle.refusal.specs.Judge.{◌when◌}
use Rattle.refusal.specs.Refusal.{number_of}
use Rattle.refusal.proofs.Laws.{judged-none, judged-taken, judged-passed}
use Rattle.refusal.proofs.when.Goals as goal

pub returns-then-applies : goal.returns-then-applies
returns-then-applies c = sym (judged-taken (number_of c.args.refusal when c.args.applies) [] c.if-applies.true)

pub returns : goal.returns
returns c = sym (judged-passed (number_of c.args.refusal when c.args.applies) [] c.if-applies.false ∙ judged-none)
