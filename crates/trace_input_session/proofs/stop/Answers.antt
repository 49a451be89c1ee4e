use mathlib.Core.Path.{sym, ◌∙◌}
use mathlib.Core.Bool.{true, false}
use Prim.Native.Nat.{◌≤◌}
use native.Mathlib.Omega.{arith}
use lib.ListN.{length}
use Rattle.trace_input_session.proofs.Walks.{blank-at, inside-at, words-past, word_more, word-stops, word-ends, word-starts}
use borrow.Author.Rules.{rules}
use Rattle.trace_input_session.proofs.stop.Goals as goal

pub loop-i-init : goal.loop-i-init
loop-i-init c =
    (search rules, search rules, word-starts c.args.line.now c.args.from)

pub returns-then-is_blank : goal.returns-then-is_blank
returns-then-is_blank c =
    let l = c.args.line.now in
    let i = c.loop-i.i in
    let from = c.args.from in
    let h = c.loop-i-test.true in
    let here = sym c.is_blank.ensures ∙ c.if-is_blank.true in
    record { within = omega arith; onward = λ k. omega arith; ended = λ k. here; word = word-stops l from i _ h here c.loop-i.invariant.2; rest = blank-at l i false h here ∙ sym (blank-at l i true h here) ∙ c.loop-i.invariant.1 }

pub loop-i-preserved : goal.loop-i-preserved
loop-i-preserved c =
    let l = c.args.line.now in
    let i = c.loop-i.i in
    let from = c.args.from in
    let h = c.loop-i-test.true in
    let here = sym c.is_blank.ensures ∙ c.if-is_blank.false in
    (search rules, sym (inside-at l i h here) ∙ c.loop-i.invariant.1, word_more l from i _ c.loop-i.invariant.0 h here c.loop-i.invariant.2)

pub returns : goal.returns
returns c =
    let l = c.args.line.now in
    let i = c.loop-i.i in
    let from = c.args.from in
    let past : length l ≤ i = omega arith in
    record { within = omega arith; onward = λ k. k; ended = λ k. absurd (omega arith); word = word-ends l from i _ c.loop-i.invariant.0 past c.loop-i.invariant.2; rest = words-past l (length l) false (omega arith) ∙ sym (words-past l i true past) ∙ c.loop-i.invariant.1 }
