-- What the values of decimals ask of the numbers. Assumes nothing.
use mathlib.Core.Path.{◌≡◌, refl, sym, ap, ◌∙◌}
use mathlib.Core.Bool.{Bool, true, false, cond, not, ◌&&◌}
use mathlib.Core.List.{List}
use mathlib.Core.Logic.{inl, inr}
use Prim.Native.Nat.{ℕ, ◌+◌, ◌-◌, ◌*◌, ◌^◌, ◌≤◌, ◌<◌, min}
use native.Mathlib.Nat.{mul-le-mul_left, mul_assoc, pow-suc, pow-le-pow_right}
use native.Mathlib.Numerals.{add-one}
use native.Mathlib.Omega.{arith}
use lib.Dec.{ltb, lit<}
use lib.IntN.{pos}
use lib.Ieee.{fin, binary32, neg, of_bits}
use borrow.Author.Tests.{lt-ltb, le-ltb, lt-leb, ltb-true, not-false}
use Rattle.number.proofs.Nearest.{sides}
use Rattle.decimal.specs.Decimal.{run, is_minus, after_point, power, digits, exponent, is_decimal, beyond, over, scaled, valued, decimal_of}

-- ten times more at each step
pub next-ten : (m i : ℕ) → m * 10 ^ i * 10 ≡ m * 10 ^ (i + 1)
next-ten m i = mul_assoc m (10 ^ i) 10 ∙ ap (λ (z : ℕ). m * z) (sym (pow-suc 10 i) ∙ ap (λ (z : ℕ). 10 ^ z) (sym (add-one i)))

pub next-five : (i : ℕ) → 5 ^ i * 5 ≡ 5 ^ (i + 1)
next-five i = sym (pow-suc 5 i) ∙ ap (λ (z : ℕ). 5 ^ z) (sym (add-one i))

pub next-two : (d i : ℕ) → d * 2 ^ i * 2 ≡ d * 2 ^ (i + 1)
next-two d i = mul_assoc d (2 ^ i) 2 ∙ ap (λ (z : ℕ). d * z) (sym (pow-suc 2 i) ∙ ap (λ (z : ℕ). 2 ^ z) (sym (add-one i)))

-- what does not fit 64 bits at a step does not fit at the end
pub too_large : (m i p n : ℕ) → i < p → n ≡ m * 10 ^ i → 1844674407370955161 < n → 2 ^ 64 ≤ m * 10 ^ p
too_large m i p n h e g =
    let a : m * 10 ^ (i + 1) ≤ m * 10 ^ p = mul-le-mul_left m (pow-le-pow_right (lit< tt) (omega arith)) in
    omega (arith, next-ten m i, e, g, a)

-- where more than 17 digits stand after the point, none but a zero is read, however small the exponent makes it
pub far : (s : Bool) (m f e : ℕ) → 17 < f → scaled s m 0 f ≡ scaled s m 0 (f + e)
unfolding scaled over
far s m f e h = rw (lt-leb f 0 (omega arith), lt-leb (f + e) 0 (omega arith), lt-leb (f - 0) 17 (omega arith), lt-leb (f + e - 0) 17 (omega arith))

-- the bounds on digits and exponent pass every number that is not within them for one that is not
held : (m l : ℕ) → (ltb (min m l) l ≡ ltb m l)
held m l = elim (sides m l) [ inl h ↦ lt-ltb (min m l) l (omega arith) ∙ sym (lt-ltb m l h) | inr h ↦ le-ltb (min m l) l (omega arith) ∙ sym (le-ltb m l h) ]

below : (m l : ℕ) → ltb m l ≡ true → min m l ≡ m
below m l h = omega (arith, ltb-true m l h)

pub valued_held : (s : Bool) (m f : ℕ) (n : Bool) (e : ℕ) → valued s (min m (10 ^ 18)) f n (min e 1000) ≡ valued s m f n e
unfolding valued
valued_held s m f n e =
    ap (λ (b : Bool). cond (b && ltb (min e 1000) 1000) (cond n (scaled s (min m (10 ^ 18)) 0 (f + min e 1000)) (scaled s (min m (10 ^ 18)) (min e 1000) f)) beyond) (held m (10 ^ 18))
    ∙ ap (λ (b : Bool). cond (ltb m (10 ^ 18) && b) (cond n (scaled s (min m (10 ^ 18)) 0 (f + min e 1000)) (scaled s (min m (10 ^ 18)) (min e 1000) f)) beyond) (held e 1000)
    ∙ go (ltb m (10 ^ 18)) (ltb e 1000) (below m (10 ^ 18)) (below e 1000)
  where
    go : (x y : Bool) → (x ≡ true → min m (10 ^ 18) ≡ m) → (y ≡ true → min e 1000 ≡ e)
        → cond (x && y) (cond n (scaled s (min m (10 ^ 18)) 0 (f + min e 1000)) (scaled s (min m (10 ^ 18)) (min e 1000) f)) beyond ≡ cond (x && y) (cond n (scaled s m 0 (f + e)) (scaled s m e f)) beyond
    go true true p q = ap (λ (z : ℕ). cond n (scaled s z 0 (f + min e 1000)) (scaled s z (min e 1000) f)) (p refl) ∙ ap (λ (z : ℕ). cond n (scaled s m 0 (f + z)) (scaled s m z f)) (q refl)
    go true false p q = refl
    go false y p q = refl

pub signed-zero : (s : Bool) → cond s (neg (of_bits binary32 0)) (of_bits binary32 0) ≡ fin s 0 (pos 0)
unfolding neg of_bits
signed-zero true = refl
signed-zero false = refl

-- a word's value from its parts
pub read_is : (w a p : List ℕ) (s : Bool) (m f : ℕ) (n : Bool) (e : ℕ) (d : Bool) → d ≡ is_decimal w → not d ≡ false → a ≡ after_point w → p ≡ power w
    → s ≡ is_minus w → m ≡ min (digits w) (10 ^ 18) → f ≡ run a → n ≡ is_minus p → e ≡ min (exponent w) 1000 → valued s m f n e ≡ decimal_of w
unfolding decimal_of
read_is w a p s m f n e d D h A Q S M F O E =
    let f' : f ≡ run (after_point w) = F ∙ ap run A in
    let n' : n ≡ is_minus (power w) = O ∙ ap is_minus Q in
    let x : valued s m f n e ≡ valued (is_minus w) (min (digits w) (10 ^ 18)) (run (after_point w)) (is_minus (power w)) (min (exponent w) 1000) = cc in
    rw (sym D ∙ not-false d h) (x ∙ valued_held (is_minus w) (digits w) (run (after_point w)) (is_minus (power w)) (exponent w))
