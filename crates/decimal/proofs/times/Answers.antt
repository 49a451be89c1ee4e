use mathlib.Core.Path.{◌≡◌, sym, ap, ◌∙◌}
use Prim.Native.Nat.{ℕ, ◌*◌, ◌^◌, ◌<◌}
use native.Mathlib.Omega.{arith}
use native.Mathlib.Nat.{mul-one}
use mathlib.Core.Bool.{false, cond}
use lib.Ieee.{Float, binary32, of_int, round, neg}
use borrow.Author.Tests.{lt-ltb, le-ltb}
use Rattle.decimal.specs.Decimal.{times, given}
use Rattle.decimal.proofs.Values.{next-ten, too_large}
use Rattle.decimal.proofs.Rounding.{signed_round}
use borrow.Author.Rules.{rules}
use Rattle.decimal.proofs.times.Goals as goal

pub loop-i-init : goal.loop-i-init
loop-i-init c = (search rules, sym (mul-one _), search rules)

pub returns-in_default : goal.returns-in_default
unfolding times
returns-in_default c =
    let a = c.args in
    let over : 1844674407370955161 < c.loop-i.n = omega (arith, c.in_default.ensures) in
    rw (le-ltb (a.m * 10 ^ a.p) (2 ^ 64) (too_large a.m c.loop-i.i a.p c.loop-i.n c.loop-i-test.true c.loop-i.invariant.1 over))

pub loop-i-preserved : goal.loop-i-preserved
loop-i-preserved c =
    let m = c.in-Some.ensures in
    (search rules, m.1 ∙ ap (λ (z : ℕ). z * 10) c.loop-i.invariant.1 ∙ next-ten _ _, omega (arith, m.0, m.1))

pub returns : goal.returns
unfolding times of_int
returns c =
    let a = c.args in
    let i : c.loop-i.i ≡ a.p = omega arith in
    let n : c.loop-i.n ≡ a.m * 10 ^ a.p = c.loop-i.invariant.1 ∙ ap (λ (z : ℕ). a.m * 10 ^ z) i in
    let x = c.nearest_u64_to_f32.ensures ∙ ap (λ (z : ℕ). round binary32 false z 1) n in
    ap given (c.signed.ensures ∙ ap (λ (z : Float). cond a.s (neg z) z) x ∙ signed_round binary32 a.s (a.m * 10 ^ a.p) 1)
    ∙ sym (rw (lt-ltb (a.m * 10 ^ a.p) (2 ^ 64) (omega (arith, n, c.loop-i.invariant.2))))
