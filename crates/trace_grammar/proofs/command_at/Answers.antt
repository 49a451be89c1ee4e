-- `trace_grammar::command_at` meets its contract. Assumes nothing.
use mathlib.Core.Path.{sym}
use lib.ListN.{get_or-eq_default}
use Rattle.std.proofs.lemmas.List.{get_or_default}
use Rattle.trace_grammar.specs.Commands.{command_list}
use Rattle.trace_grammar.specs.declared.Command.TheVariants.{Standard}
use Rattle.trace_grammar.proofs.command_at.Goals as goal

pub returns-then-row-lt39 : goal.returns-then-row-lt39
unfolding command_list
returns-then-row-lt39 c = get_or_default command_list c.args.row _ Standard c.if-row-lt39.true

pub returns-else-row-lt39 : goal.returns-else-row-lt39
unfolding command_list
returns-else-row-lt39 c = sym (get_or-eq_default command_list Standard c.if-row-lt39.false)
