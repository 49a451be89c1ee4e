use mathlib.Core.Path.{◌≡◌, refl, ap, sym, ◌∙◌}
use mathlib.Core.Bool.{true, false}
use Prim.Native.Nat.{ℕ, ◌+◌, ◌-◌, ◌*◌, ◌<◌, ◌≤◌}
use native.Mathlib.Omega.{arith}
use borrow.Author.Tests.{not-true, not-false, lt-ltb, le-ltb, eq-eqb, ne_eqb}
use lib.ListN.{length, drop, get_or}
use Rattle.trace_input_session.specs.Lines.{is_blank, words_of}
use Rattle.trace_grammar_kinds.specs.declared.Class as class
use Rattle.trace_grammar.specs.Grammar.{rest_of, after_class}
use Rattle.trace_grammar.specs.Commands.{command_at}
use Rattle.trace_grammar.proofs.Laws.{rest-on, rest-wrong, rest-ends, inside}
use borrow.Author.Rules.{rules}
use Rattle.trace_grammar.proofs.rest.Goals as goal

pub loop-p-init : goal.loop-p-init
loop-p-init c = (c.requires.2, omega arith, c.requires.3, refl)

pub returns-then-not-is_fit : goal.returns-then-not-is_fit
returns-then-not-is_fit c =
    let l = c.args.line.now in
    rest-wrong l c.loop-p.s c.loop-p.k c.loop-p.p (command_at c.args.row) c.kind_at-kind.result c.word_at-w.result.now _ c.loop-p-test.true c.loop-p.invariant.2 c.word_at-w.ensures c.kind_at-kind.ensures (sym c.is_fit.ensures ∙ c.if-not-is_fit.true) c.loop-p.invariant.3

pub after-s-requires : goal.after-s-requires
after-s-requires c =
    inside c.loop-p.s c.kind_at-kind.result c.word_at-w.result.now c.kind_at-kind.ensures (sym c.is_fit.ensures ∙ c.if-not-is_fit.false)

pub loop-p-smaller : goal.loop-p-smaller
loop-p-smaller c =
    let on = c.next-p.ensures.onward c.loop-p-test.true in
    let in-line = c.next-p.ensures.within in
    omega arith

pub loop-p-preserved : goal.loop-p-preserved
loop-p-preserved c =
    let l = c.args.line.now in
    let h = c.loop-p-test.true in
    let on = c.next-p.ensures.onward h in
    let w = c.word_at-w.result.now in
    let fit = sym c.is_fit.ensures ∙ c.if-not-is_fit.false in
    let place = c.after-s.ensures ∙ ap (λ (n : class.Class). after_class n c.loop-p.s w) c.class_of.ensures in
    (c.next-p.ensures.within, omega arith, c.next-p.ensures.begun, rest-on l c.loop-p.s c.loop-p.k c.loop-p.p c.next-p.result c.after-s.result (command_at c.args.row) c.kind_at-kind.result w _ h c.loop-p.invariant.2 c.word_at-w.ensures c.kind_at-kind.ensures fit place c.next-p.ensures c.loop-p.invariant.3)

pub returns : goal.returns
returns c =
    let l = c.args.line.now in
    let past : length l ≤ c.loop-p.p = omega arith in
    rest-ends l c.loop-p.s c.loop-p.k c.loop-p.p (command_at c.args.row) _ _ past c.ended.ensures c.loop-p.invariant.3
