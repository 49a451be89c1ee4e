-- Whole numbers up to 2 ^ 24 as binary32, and divided by a power of two: nothing is rounded. `HasValue x false n d` (lib.Ieee.Exact) says that the float x
-- is finite, that its sign is plus, and that it is n / d, no more and no less. Assumes nothing.
use Rattle.std.proofs.Common.{◌≡◌, ℕ, ◌+◌, ◌-◌, ◌*◌, ◌^◌, ◌<◌, ◌≤◌, true, false, T, ◌⊎◌, pos, sym, ap, ◌∙◌, subst, inl, inr, lt_of_lt_of_le, mul_assoc, eq-or-lt_of_le, mul-pos, one-mul, mul_right_comm, arith, lit<, pow_pos, pow_mono, pow-add, shl_lt}
use lib.Pow.{pow-lt}
use lib.Ieee.{Float, nan, inf, fin, binary32, div, of_int, up, down, round}
use lib.Ieee.Exact.{HasValue, round_exact}
use lib.Ieee.Scale.{round_same}
use lib.Ieee.Fits.{down_pos}
use lib.Ieee.Back.{round_whole}

-- a whole number up to 2 ^ 24 as binary32
pub whole-exact : (n : ℕ) → n ≤ 2 ^ 24 → HasValue (of_int binary32 (pos n)) false n 1
unfolding of_int
whole-exact n h = round_whole binary32 false n h

-- the powers of two by which 149, the places of binary32's smallest number, is split
split : (k : ℕ) → k ≤ 125 → 2 ^ 149 ≡ 2 ^ (149 - k) * 2 ^ k
split k h =
    let e : 149 ≡ 149 - k + k = omega arith in
    ap (λ (x : ℕ). 2 ^ x) e ∙ pow-add 2 (149 - k) k

below-exact : (n k : ℕ) → n < 2 ^ 24 → k ≤ 125 → HasValue (round binary32 false n (2 ^ k)) false n (2 ^ k)
below-exact n k h b =
    round_exact binary32 false n (2 ^ k) n (149 - k) (pow_pos k) h
    (lt_of_lt_of_le (shl_lt 24 (149 - k) h) (pow_mono {i = 24 + (149 - k)} {j = 277} (omega arith)))
    (ap (λ (x : ℕ). n * x) (split k b) ∙ sym (mul_assoc n (2 ^ (149 - k)) (2 ^ k)))

top-exact : (k : ℕ) → k ≤ 125 → HasValue (round binary32 false (2 ^ 24) (2 ^ k)) false (2 ^ 24) (2 ^ k)
top-exact k b =
    round_exact binary32 false (2 ^ 24) (2 ^ k) 1 (24 + (149 - k)) (pow_pos k) (lit< tt)
    (subst (λ (x : ℕ). x < 2 ^ 277) (sym (one-mul (2 ^ (24 + (149 - k))))) (pow-lt {i = 24 + (149 - k)} {j = 277} (omega arith)))
    (ap (λ (x : ℕ). 2 ^ 24 * x) (split k b)
    ∙ sym (mul_assoc (2 ^ 24) (2 ^ (149 - k)) (2 ^ k))
    ∙ ap (λ (x : ℕ). x * 2 ^ k) (sym (pow-add 2 24 (149 - k)) ∙ sym (one-mul (2 ^ (24 + (149 - k))))))

fraction-exact : (n k : ℕ) → n ≤ 2 ^ 24 → k ≤ 125 → HasValue (round binary32 false n (2 ^ k)) false n (2 ^ k)
fraction-exact n k h b = go (eq-or-lt_of_le h)
  where
    go : (n ≡ 2 ^ 24) ⊎ (n < 2 ^ 24) → HasValue (round binary32 false n (2 ^ k)) false n (2 ^ k)
    go (inl e) = subst (λ (x : ℕ). HasValue (round binary32 false x (2 ^ k)) false x (2 ^ k)) (sym e) (top-exact k b)
    go (inr l) = below-exact n k l b

-- what is exactly n, divided by 2 ^ k
pub over-exact : (x : Float) (n k : ℕ) → n ≤ 2 ^ 24 → k ≤ 125 → HasValue x false n 1 → HasValue (div binary32 x (fin false 1 (pos k))) false n (2 ^ k)
unfolding div
over-exact nan n k h b v = absurd v
over-exact (inf s) n k h b v = absurd v
over-exact (fin true m e) n k h b v = absurd (subst T v.0 tt)
over-exact (fin false m e) n k h b v =
    let same : m * up e * 1 * 2 ^ k ≡ n * (1 * 2 ^ k * down e) =
    ap (λ (x : ℕ). x * 2 ^ k) v.1
    ∙ mul_right_comm n (down e) (2 ^ k)
    ∙ mul_assoc n (2 ^ k) (down e)
    ∙ ap (λ (x : ℕ). n * (x * down e)) (sym (one-mul (2 ^ k))) in
    let above : 0 < 1 * 2 ^ k * down e = mul-pos (mul-pos (lit< tt) (pow_pos k)) (down_pos e) in
    subst (λ (z : Float). HasValue z false n (2 ^ k)) (sym (round_same binary32 false (m * up e * 1) (1 * 2 ^ k * down e) n (2 ^ k) above (pow_pos k) same))
    (fraction-exact n k h b)
