use mathlib.Core.Path.{◌≡◌, refl, sym, ap, ◌∙◌}
use mathlib.Core.Bool.{true, false}
use mathlib.Core.List.{List}
use Prim.Native.Nat.{ℕ, ◌+◌, ◌<◌}
use native.Mathlib.Omega.{arith}
use lib.ListN.{length, get_or, drop}
use borrow.Author.Tests.{ltb-true, ltb-false}
use Rattle.source_key.specs.Bytes.{same_bytes}
use Rattle.source_key.specs.Numbered.{is_digit, longer}
use Rattle.source_key.proofs.Bytes.{pointwise-same}
use Rattle.source_key.proofs.Reading.{digit-from, rest_from, read_above, read-digit, read-other, read-end, empty-after}
use borrow.Author.Rules.{rules}
use Rattle.source_key.proofs.reads_on.Goals as goal

pub loop-i-init : goal.loop-i-init
loop-i-init c = (search rules, search rules, refl)

pub returns-then-not-is_digit : goal.returns-then-not-is_digit
returns-then-not-is_digit c =
    let a = c.args in
    let rest = a.rest.now in
    let i = c.loop-i.i in
    let b = get_or rest i 0 in
    let inside : i < length rest = omega arith in
    let other : is_digit b ≡ false = sym c.is_digit.ensures ∙ c.if-not-is_digit.true in
    c.eq.ensures
    ∙ pointwise-same _ _
    ∙ ap (λ (l : List ℕ). same_bytes l a.after.now) (rest_from rest i)
    ∙ sym (c.loop-i.invariant.2 ∙ read-other a.n a.after.now c.loop-i.v rest i inside c.loop-i.invariant.1 other)

pub above-requires : goal.above-requires
above-requires c =
    let a = c.args in
    let rest = a.rest.now in
    let i = c.loop-i.i in
    let b = get_or rest i 0 in
    let inside : i < length rest = omega arith in
    let digit : is_digit b ≡ true = sym c.is_digit.ensures ∙ c.if-not-is_digit.false in
    digit-from b digit

pub returns-then-above : goal.returns-then-above
returns-then-above c =
    let a = c.args in
    let rest = a.rest.now in
    let i = c.loop-i.i in
    let b = get_or rest i 0 in
    let inside : i < length rest = omega arith in
    let digit : is_digit b ≡ true = sym c.is_digit.ensures ∙ c.if-not-is_digit.false in
    let over = ltb-true a.n (longer c.loop-i.v b) (sym c.above.ensures ∙ c.if-above.true) in
    sym
    (c.loop-i.invariant.2
    ∙ read-digit a.n a.after.now c.loop-i.v rest i inside digit
    ∙ read_above a.n a.after.now (longer c.loop-i.v b) (drop (i + 1) rest) over)

pub next_number-v-requires : goal.next_number-v-requires
next_number-v-requires c =
    let a = c.args in
    let rest = a.rest.now in
    let i = c.loop-i.i in
    let b = get_or rest i 0 in
    let inside : i < length rest = omega arith in
    let digit : is_digit b ≡ true = sym c.is_digit.ensures ∙ c.if-not-is_digit.false in
    (digit-from b digit, ltb-false a.n (longer c.loop-i.v b) (sym c.above.ensures ∙ c.if-above.false))

pub loop-i-preserved : goal.loop-i-preserved
loop-i-preserved c =
    let a = c.args in
    let rest = a.rest.now in
    let i = c.loop-i.i in
    let b = get_or rest i 0 in
    let inside : i < length rest = omega arith in
    let digit : is_digit b ≡ true = sym c.is_digit.ensures ∙ c.if-not-is_digit.false in
    let under = ltb-false a.n (longer c.loop-i.v b) (sym c.above.ensures ∙ c.if-above.false) in
    let next = c.next_number-v.ensures in
    (omega arith, rw next under, c.loop-i.invariant.2 ∙ read-digit a.n a.after.now c.loop-i.v rest i inside digit ∙ rw next)

pub returns : goal.returns
returns c =
    let l = c.loop-i in
    let a = c.args in
    empty-after a.after.now ∙ sym (l.invariant.2 ∙ read-end a.n a.after.now l.v a.rest.now l.i (omega arith) l.invariant.1)
