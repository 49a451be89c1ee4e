-- `trace_input_session::whole` meets its contract. Assumes nothing.
use mathlib.Core.Path.{sym, ◌∙◌}
use Prim.Native.Nat.{◌≤◌, ◌+◌, ◌*◌, ◌^◌}
use native.Mathlib.Omega.{arith}
use Rattle.std.proofs.Common.{rules, tests}
use Rattle.trace_input_session.proofs.Laws.{digits-past, digits-other, digits-over, digits-more, no-word, word-digits}
use Rattle.trace_input_session.proofs.whole.Goals as goal

pub returns-then-is_empty : goal.returns-then-is_empty
returns-then-is_empty c = no-word _ (search (rules, tests))

pub loop-b-init : goal.loop-b-init
loop-b-init c = word-digits _ (λ h. search (rules, tests))

pub returns-in_err-d : goal.returns-in_err-d
returns-in_err-d c =
    let l = c.loop-b in
    c.from_residual.ensures ∙ sym (digits-other c.args.w.now l.value l.b-index c.loop-b-test.true c.in_err-d.ensures) ∙ l.invariant

pub returns-in_err-checked_mul : goal.returns-in_err-checked_mul
returns-in_err-checked_mul c =
    let l = c.loop-b in
    let over : 2 ^ 64 ≤ l.value * 10 + c.in_ok-d.d = omega (arith, c.in_err-checked_mul.ensures) in
    c.from_residual-in_err-checked_mul.ensures
    ∙ sym (digits-over c.args.w.now l.value l.b-index c.in_ok-d.d c.loop-b-test.true c.in_ok-d.ensures.1 (omega (arith, c.in_ok-d.ensures.0, c.in_ok-d.ensures.1)) over) ∙ l.invariant

pub returns-in_err-value : goal.returns-in_err-value
returns-in_err-value c =
    let l = c.loop-b in
    let over : 2 ^ 64 ≤ l.value * 10 + c.in_ok-d.d = omega (arith, c.in_err-value.ensures, c.in_ok-checked_mul.ensures.1) in
    c.from_residual-in_err-value.ensures
    ∙ sym (digits-over c.args.w.now l.value l.b-index c.in_ok-d.d c.loop-b-test.true c.in_ok-d.ensures.1 (omega (arith, c.in_ok-d.ensures.0, c.in_ok-d.ensures.1)) over) ∙ l.invariant

pub loop-b-preserved : goal.loop-b-preserved
loop-b-preserved c =
    let l = c.loop-b in
    digits-more c.args.w.now l.value l.b-index c.in_ok-d.d _ c.loop-b-test.true c.in_ok-d.ensures.1 (omega (arith, c.in_ok-d.ensures.0, c.in_ok-d.ensures.1))
    (omega (arith, c.in_ok-value.ensures.1, c.in_ok-checked_mul.ensures.1)) (omega (arith, c.in_ok-value.ensures.0, c.in_ok-value.ensures.1))
    ∙ l.invariant

pub returns : goal.returns
returns c = sym (digits-past c.args.w.now c.loop-b.value c.loop-b.b-index (omega arith)) ∙ c.loop-b.invariant
