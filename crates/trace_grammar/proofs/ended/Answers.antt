-- `trace_grammar::ended` meets its contract. Assumes nothing.
use mathlib.Core.Path.{◌≡◌, ap, sym, ◌∙◌}
use Prim.Native.Nat.{ℕ, ◌+◌, ◌-◌, ◌*◌, ◌<◌, ◌≤◌}
use Rattle.trace_grammar_kinds.specs.declared.Kind.{Kind}
use Rattle.trace_grammar_kinds.specs.Kinds.{class_of, is_of}
use Rattle.trace_grammar.specs.declared.Line.TheVariants.{Call, Missing}
use Rattle.trace_grammar.specs.declared.Command as command
use Rattle.trace_grammar.specs.Grammar.{rest_of, ends_class, kind_at}
use borrow.Author.Rules.{rules}
use Rattle.trace_grammar.proofs.ended.Goals as goal

pub returns-then-may_end : goal.returns-then-may_end
unfolding rest_of
returns-then-may_end c =
    rw (ap (λ (k : Kind). ends_class (class_of k)) (sym c.kind_at-kind.ensures) ∙ ap ends_class (sym c.class_of.ensures) ∙ sym c.may_end.ensures ∙ c.if-may_end.true) (ap (λ (x : command.Command). Call x c.args.k) c.command_at.ensures)

pub returns : goal.returns
unfolding rest_of
returns c =
    rw (ap (λ (k : Kind). ends_class (class_of k)) (sym c.kind_at-kind.ensures) ∙ ap ends_class (sym c.class_of.ensures) ∙ sym c.may_end.ensures ∙ c.if-may_end.false) (ap (λ (x : Kind). Missing c.args.k x) c.kind_at-kind.ensures)
