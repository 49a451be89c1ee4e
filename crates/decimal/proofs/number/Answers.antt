use mathlib.Core.Path.{sym, ap, ◌∙◌}
use Prim.Native.Nat.{ℕ, ◌+◌, ◌-◌, ◌*◌, min}
use native.Mathlib.Omega.{arith}
use lib.ListN.{get_or, drop}
use Rattle.decimal.specs.Decimal.{number}
use Rattle.decimal.proofs.Rows.{number-digit, number-other, number_past, capped}
use borrow.Author.Rules.{rules}
use Rattle.decimal.proofs.number.Goals as goal

pub returns-then-not-is_digit : goal.returns-then-not-is_digit
returns-then-not-is_digit c =
    let s = c.args.s.now in
    let e = number-other s c.loop-b.value c.loop-b.b-index c.loop-b-test.true (sym c.is_digit.ensures ∙ c.if-not-is_digit.true) in
    omega (arith, e, c.loop-b.invariant.1, c.loop-b.invariant.0)

pub more-value-requires : goal.more-value-requires
more-value-requires c = (search rules, search rules, sym c.is_digit.ensures ∙ c.if-not-is_digit.false)

pub loop-b-preserved : goal.loop-b-preserved
loop-b-preserved c =
    let s = c.args.s.now in
    let most = c.args.most in
    let v = c.loop-b.value in
    let i = c.loop-b.b-index in
    let e = number-digit s v i c.loop-b-test.true (sym c.is_digit.ensures ∙ c.if-not-is_digit.false) in (
      omega (arith, c.more-value.ensures),
      ap (λ (z : ℕ). min (number z (drop (i + 1) s)) most) c.more-value.ensures ∙ capped (drop (i + 1) s) (v * 10 + (get_or s i 0 - 48)) most ∙ sym (ap (λ (z : ℕ). min z most) e) ∙ c.loop-b.invariant.1,
    )

pub returns : goal.returns
returns c =
    omega (arith, number_past c.args.s.now c.loop-b.value c.loop-b.b-index (omega arith), c.loop-b.invariant.1, c.loop-b.invariant.0)
