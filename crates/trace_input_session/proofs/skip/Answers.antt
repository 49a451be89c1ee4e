use mathlib.Core.Path.{sym, ◌∙◌}
use mathlib.Core.Bool.{false}
use native.Mathlib.Omega.{arith}
use lib.ListN.{length}
use Rattle.trace_input_session.proofs.Walks.{blank-at, words-past}
use borrow.Author.Rules.{rules}
use Rattle.trace_input_session.proofs.skip.Goals as goal

pub returns-then-not-is_blank : goal.returns-then-not-is_blank
returns-then-not-is_blank c =
    let l = c.args.line.now in
    let i = c.loop-i.i in
    let from = c.args.from in
    let h = c.loop-i-test.true in
    let here = sym c.is_blank.ensures ∙ c.if-not-is_blank.true in
    record { within = omega arith; onward = λ k. omega arith; begun = λ k. here; rest = c.loop-i.invariant.1 }

pub loop-i-preserved : goal.loop-i-preserved
loop-i-preserved c =
    let l = c.args.line.now in
    let i = c.loop-i.i in
    let from = c.args.from in
    let h = c.loop-i-test.true in
    let here = sym c.is_blank.ensures ∙ c.if-not-is_blank.false in
    (search rules, sym (blank-at l i false h here) ∙ c.loop-i.invariant.1)

pub returns : goal.returns
returns c =
    let l = c.args.line.now in
    record { within = omega arith; onward = λ k. k; begun = λ k. absurd (omega arith); rest = words-past l (length l) false (omega arith) ∙ sym (words-past l c.loop-i.i false (omega arith)) ∙ c.loop-i.invariant.1 }
