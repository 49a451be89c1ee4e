-- A fraction a / b with as many digits before the point as a format keeps, times a power of two: its nearest whole number is the rounded value's significand, and
-- with the exponent's field in front of it these are the value's bits (`by_bits`). And a sign goes through the rounding (`signed_round`). Assumes nothing.
-- One derivation, whose steps nothing else cites: one file, long as it is.
use mathlib.Core.Path.{◌≡◌, refl, sym, ap, ◌∙◌, subst}
use mathlib.Core.Bool.{Bool, true, false, cond, not, true≢false}
use mathlib.Core.Logic.{inl, inr}
use Prim.Native.Nat.compare
use Prim.Native.Nat.{Ordering}
use Prim.Native.Nat.{ℕ, zero, suc, ◌+◌, ◌-◌, ◌*◌, ◌/◌, ◌%◌, ◌^◌, ◌≤◌, ◌<◌, compare}
use native.Mathlib.Nat.{le_trans, le_of_eq, lt_of_lt_of_le, lt_of_le_of_lt, lt_of_not-le, not-le_of_lt, eq-or-lt_of_le, mul-one, one-mul, mul_comm, mul_assoc, mul_left_comm, mul_right_comm, mul-mul-mul_comm, mul-pos, mul-le-mul_right, mul-lt-mul_of_pos_right, mul-div_cancel, le-div_iff_mul-le, div-lt_iff_lt-mul, zero-add, suc-add, pow-zero, pow-suc, mul-add, one-le-pow, pow-le-pow_right}
use native.Mathlib.Numerals.{add-one}
use native.Mathlib.Omega.{arith}
use lib.Dec.{T, ltb, lit<}
use lib.Pow.{pow-add, pow_pos, pow_mono, shl-shr}
use lib.Ieee.{Float, nan, inf, fin, Format, binary32, prec, emax, low, up, down, size, nearest, odd, units, round, neg, to_bits, of_bits, nan_bits}
use lib.Ieee.Digits.{size-lt, size-le}
use lib.Ieee.Fits.{down_pos, nearest-le, round_is, round-fits}
use lib.Ieee.Exact.{HasValue, units_val}
use lib.Ieee.Scale.{round_same}
use lib.Ieee.Nearest.{closest, closest_same, nearest-ge, div_same}
use lib.Ieee.Bits.{of_bits-to_bits, nan_bits_above}
use borrow.Author.Tests.{le-ltb}
use Rattle.number.proofs.Nearest.{compare-lt, compare-gt}

-- ---- the sign
neg-odd : (d q k l : ℕ) → neg (odd d false q k l) ≡ odd d true q k l
unfolding neg odd
neg-odd d zero k l = refl
neg-odd d (suc q) k l = refl

neg-units : (f : Format) (q k : ℕ) → neg (units f false q k) ≡ units f true q k
unfolding units
neg-units f q k = go (ltb (q * 2 ^ k) (2 ^ (low f + suc (emax f))))
  where
    go : (b : Bool) → neg (cond b (odd (suc (prec f)) false q k (low f)) (inf false)) ≡ cond b (odd (suc (prec f)) true q k (low f)) (inf true)
    go true = neg-odd (suc (prec f)) q k (low f)
    go false = unfold neg in refl

neg-round : (f : Format) (a b : ℕ) → neg (round f false a b) ≡ round f true a b
neg-round f a b = ap neg (round_is f false a b) ∙ neg-units f _ _ ∙ sym (round_is f true a b)

pub signed_round : (f : Format) (s : Bool) (a b : ℕ) → cond s (neg (round f false a b)) (round f false a b) ≡ round f s a b
signed_round f true a b = neg-round f a b
signed_round f false a b = refl

-- ---- how many digits a number has
size_is : (n j : ℕ) → 2 ^ j ≤ n → n < 2 ^ suc j → size n ≡ suc j
size_is n j l h =
    let g : j < size n = lt_of_not-le (λ (x : size n ≤ j). not-le_of_lt (lt_of_lt_of_le (size-lt n) (pow_mono x)) l) in
    omega (arith, size-le n (suc j) h)

-- ---- the nearest whole number by how twice the remainder compares with the divisor
compare_same : (a : ℕ) → compare a a ≡ Ordering.eq
compare_same zero = compare.zero-zero
compare_same (suc a) = compare.suc-suc a a ∙ compare_same a

pub closest-down : (a b : ℕ) → a % b * 2 < b → a / b ≡ closest a b
closest-down a b h = rw (compare-lt (a % b * 2) b h)

pub closest-up : (a b : ℕ) → b < a % b * 2 → a / b + 1 ≡ closest a b
closest-up a b h = rw (compare-gt (a % b * 2) b h) (add-one (a / b))

pub closest-tie : (a b : ℕ) → a % b * 2 ≡ b → a / b + a / b % 2 ≡ closest a b
closest-tie a b h = sym (ap (λ o. nearest (a / b) o) (ap (compare (a % b * 2)) (sym h) ∙ compare_same (a % b * 2)))

pub div_below : (a b : ℕ) → a < b * 2 ^ 24 → a / b < 2 ^ 24
div_below a zero h = absurd (omega arith)
div_below a (suc b) h =
    let p : 0 < suc b = omega arith in
    let g : a < 2 ^ 24 * suc b = omega (arith, mul_comm (suc b) (2 ^ 24)) in
    (div-lt_iff_lt-mul p).1 g

-- ---- the significand
pow-suc-add : (p e : ℕ) → 2 ^ suc (p + e) ≡ 2 ^ suc p * 2 ^ e
pow-suc-add p e = ap (λ (x : ℕ). 2 ^ x) (sym (suc-add p e)) ∙ pow-add 2 (suc p) e

module _ (f : Format) (p : ℕ) (P : prec f ≡ suc p) (a b e : ℕ) (B : 0 < b) (lo : 2 ^ p * b ≤ a) (hi : a < 2 ^ suc p * b) where
  digits : size (a * 2 ^ e / b) ≡ suc (p + e)
  digits =
      size_is (a * 2 ^ e / b) (p + e)
      ((le-div_iff_mul-le B).1 (le_trans (le_of_eq (ap (λ (x : ℕ). x * b) (pow-add 2 p e) ∙ mul_right_comm (2 ^ p) (2 ^ e) b)) (mul-le-mul_right (2 ^ e) lo)))
      ((div-lt_iff_lt-mul B).1 (lt_of_lt_of_le (mul-lt-mul_of_pos_right hi (pow_pos e)) (le_of_eq (mul_right_comm (2 ^ suc p) b (2 ^ e) ∙ ap (λ (x : ℕ). x * b) (sym (pow-suc-add p e))))))

  drops : size (a * 2 ^ e * 2 ^ low f / (b * 2 ^ low f)) - prec f ≡ e
  drops =
      ap (λ (x : ℕ). size x - prec f)
      (div_same (a * 2 ^ e * 2 ^ low f) (b * 2 ^ low f) (a * 2 ^ e) b (mul-pos B (pow_pos (low f))) B (mul_assoc (a * 2 ^ e) (2 ^ low f) b ∙ ap (λ (x : ℕ). a * 2 ^ e * x) (mul_comm (2 ^ low f) b)))
      ∙ omega (arith, digits, P)

  pub round-at : round f false (a * 2 ^ e) (b * 2 ^ low f) ≡ units f false (closest a b) e
  round-at =
      let l = 2 ^ low f in
      round_is f false (a * 2 ^ e) (b * l)
      ∙ ap (λ (k : ℕ). units f false (closest (a * 2 ^ e * l) (b * l * 2 ^ k)) k) drops
      ∙ ap (λ (q : ℕ). units f false q e)
      (closest_same (a * 2 ^ e * l) (b * l * 2 ^ e) a b (mul-pos (mul-pos B (pow_pos (low f))) (pow_pos e)) B (simp (mul_assoc, mul_comm, mul_left_comm)))

-- ---- the bits of a value in units of the format's smallest one
module _ (f : Format) (p : ℕ) (P : prec f ≡ suc p) (c e : ℕ) (lo : 2 ^ p ≤ c) (hi : c ≤ 2 ^ suc p) where
  field : (n : ℕ) → n ≡ c * 2 ^ e → (size n - prec f) * 2 ^ p + n / 2 ^ (size n - prec f) ≡ e * 2 ^ p + c
  field n N = elim (eq-or-lt_of_le hi) [ inl t ↦ full t | inr l ↦ part l ]
    where
      part : c < 2 ^ suc p → (size n - prec f) * 2 ^ p + n / 2 ^ (size n - prec f) ≡ e * 2 ^ p + c
      part l =
          let s : size n ≡ suc (p + e) =
          size_is n (p + e) (le_trans (le_of_eq (pow-add 2 p e)) (le_trans (mul-le-mul_right (2 ^ e) lo) (le_of_eq (sym N))))
          (lt_of_le_of_lt (le_of_eq N) (lt_of_lt_of_le (mul-lt-mul_of_pos_right l (pow_pos e)) (le_of_eq (sym (pow-suc-add p e))))) in
          let k : size n - prec f ≡ e = omega (arith, s, P) in
          ap (λ (x : ℕ). x * 2 ^ p + n / 2 ^ x) k ∙ ap (λ (x : ℕ). e * 2 ^ p + x) (ap (λ (x : ℕ). x / 2 ^ e) N ∙ shl-shr c e)

      full : c ≡ 2 ^ suc p → (size n - prec f) * 2 ^ p + n / 2 ^ (size n - prec f) ≡ e * 2 ^ p + c
      full t =
          let N' : n ≡ 2 ^ suc (p + e) = N ∙ ap (λ (x : ℕ). x * 2 ^ e) t ∙ sym (pow-suc-add p e) in
          let s : size n ≡ suc (suc (p + e)) = size_is n (suc (p + e)) (le_of_eq (sym N')) (lt_of_le_of_lt (le_of_eq N') (omega (arith, pow-suc 2 (suc (p + e)), pow_pos (suc (p + e))))) in
          let k : size n - prec f ≡ suc e = omega (arith, s, P) in
          let d : n ≡ 2 ^ p * 2 ^ suc e = N' ∙ ap (λ (x : ℕ). 2 ^ x) (omega arith) ∙ pow-add 2 p (suc e) in
          ap (λ (x : ℕ). x * 2 ^ p + n / 2 ^ x) k
          ∙ ap (λ (x : ℕ). suc e * 2 ^ p + x) (ap (λ (x : ℕ). x / 2 ^ suc e) d ∙ shl-shr (2 ^ p) (suc e))
          ∙ ends (2 ^ p) (e * 2 ^ p) (suc e * 2 ^ p) (sm e (2 ^ p)) (t ∙ pow-suc 2 p)
        where
          sm : (e x : ℕ) → suc e * x ≡ e * x + x
          sm e x = mul_comm (suc e) x ∙ ap (λ (z : ℕ). x * z) (sym (add-one e)) ∙ omega (arith, mul_comm x e, mul-add x e 1, mul-one x)

          ends : (x y z : ℕ) → z ≡ y + x → c ≡ x * 2 → z + x ≡ y + c
          ends x y z g h = omega arith

  bits_of : (x : Float) → HasValue x false (c * 2 ^ e) (2 ^ low f) → to_bits f x ≡ e * 2 ^ (prec f - 1) + c
  unfolding to_bits
  bits_of nan v = absurd v
  bits_of (inf s) v = absurd v
  bits_of (fin true m d) v = absurd (true≢false v.0)
  bits_of (fin false m d) v =
      let n = m * up d * 2 ^ low f / down d in
      let N : n ≡ c * 2 ^ e = ap (λ (x : ℕ). x / down d) v.1 ∙ mul-div_cancel (c * 2 ^ e) (down_pos d) in
      let q : prec f - 1 ≡ p = omega (arith, P) in
      ap (λ (x : ℕ). 0 + (size n - prec f) * 2 ^ x + n / 2 ^ (size n - prec f)) q ∙ ap (λ (x : ℕ). x + n / 2 ^ (size n - prec f)) (zero-add _) ∙ field n N ∙ ap (λ (x : ℕ). e * 2 ^ x + c) (sym q)

-- ---- at binary32
pub significand : (a b : ℕ) → 0 < b → b * 2 ^ 23 ≤ a → a < b * 2 ^ 24 → (2 ^ 23 ≤ closest a b) × (closest a b ≤ 2 ^ 24)
significand a b B lo hi = (
  le_trans ((le-div_iff_mul-le B).1 (le_trans (le_of_eq (mul_comm (2 ^ 23) b)) lo)) (nearest-ge (a / b) (compare (a % b * 2) b)),
  le_trans (nearest-le (a / b) (compare (a % b * 2) b)) (div_below a b hi),
)

pub by_bits : (a b e : ℕ) → 0 < b → b * 2 ^ 23 ≤ a → a < b * 2 ^ 24 → e ≤ 252 → of_bits binary32 (e * 2 ^ 23 + closest a b) ≡ round binary32 false (a * 2 ^ e) (b * 2 ^ 149)
by_bits a b e B lo hi E =
    let c = closest a b in
    let s = significand a b B lo hi in
    let at = round-at binary32 23 refl a b e B (le_trans (le_of_eq (mul_comm (2 ^ 23) b)) lo) (lt_of_lt_of_le hi (le_of_eq (mul_comm b (2 ^ 24)))) in
    let room : c * 2 ^ e < 2 ^ 277 = lt_of_le_of_lt (mul-le-mul_right (2 ^ e) s.1) (lt_of_le_of_lt (le_of_eq (sym (pow-add 2 24 e))) (lt_of_le_of_lt (pow_mono {j = 276} (omega arith)) (lit< tt))) in
    let x = round binary32 false (a * 2 ^ e) (b * 2 ^ 149) in
    let v : HasValue x false (c * 2 ^ e) (2 ^ 149) = subst (λ (z : Float). HasValue z false (c * 2 ^ e) (2 ^ 149)) (sym at) (units_val binary32 false c e room) in
    ap (of_bits binary32) (sym (bits_of binary32 23 refl c e s.0 s.1 x v)) ∙ of_bits-to_bits binary32 x (round-fits binary32 false (a * 2 ^ e) (b * 2 ^ 149))

-- these bits are no NaN's
pub bits-number : (e c : ℕ) → e ≤ 252 → c ≤ 2 ^ 24 → T (not (nan_bits binary32 (e * 2 ^ 23 + c)))
bits-number e c E C = subst (λ (b : Bool). T (not b)) (sym (nan_bits_above binary32 (e * 2 ^ 23 + c) ∙ le-ltb 2139095040 ((e * 2 ^ 23 + c) % 2147483648) (omega arith))) tt

-- ---- m / 10 ^ k, from m * 2 ^ t and 5 ^ k * 2 ^ s
mul-pow : (x y k : ℕ) → (x * y) ^ k ≡ x ^ k * y ^ k
mul-pow x y zero = pow-zero (x * y) ∙ sym (ap (λ (z : ℕ). z * y ^ 0) (pow-zero x) ∙ ap (λ (z : ℕ). 1 * z) (pow-zero y))
mul-pow x y (suc k) =
    let r : x ^ k * y ^ k * (x * y) ≡ x ^ k * x * (y ^ k * y) = mul-mul-mul_comm (x ^ k) (y ^ k) x y in
    pow-suc (x * y) k ∙ ap (λ (z : ℕ). z * (x * y)) (mul-pow x y k) ∙ r ∙ ap (λ (z : ℕ). z * (y ^ k * y)) (sym (pow-suc x k)) ∙ ap (λ (z : ℕ). x ^ suc k * z) (sym (pow-suc y k))

arrange : (m F T' E K S L : ℕ) → T' * E * K ≡ S * L → m * T' * E * (F * K) ≡ m * (F * S * L)
arrange m F T' E K S L h =
    let r : m * T' * E * (F * K) ≡ m * (F * (T' * E * K)) = simp (mul_assoc, mul_left_comm) in
    r ∙ ap (λ (z : ℕ). m * (F * z)) h ∙ ap (λ (z : ℕ). m * z) (sym (mul_assoc F S L))

powers : (t e k s l : ℕ) → e + t + k ≡ l + s → 2 ^ t * 2 ^ e * 2 ^ k ≡ 2 ^ s * 2 ^ l
powers t e k s l h = ap (λ (z : ℕ). z * 2 ^ k) (sym (pow-add 2 t e)) ∙ sym (pow-add 2 (t + e) k) ∙ ap (λ (z : ℕ). 2 ^ z) (omega arith) ∙ pow-add 2 s l

pub over-ten : (m k s t e : ℕ) → e + t + k ≡ 149 + s → round binary32 false (m * 2 ^ t * 2 ^ e) (5 ^ k * 2 ^ s * 2 ^ 149) ≡ round binary32 false m (10 ^ k)
over-ten m k s t e h =
    round_same binary32 false (m * 2 ^ t * 2 ^ e) (5 ^ k * 2 ^ s * 2 ^ 149) m (10 ^ k) (mul-pos (mul-pos (one-le-pow k 5 (lit< tt)) (pow_pos s)) (pow_pos 149)) (one-le-pow k 10 (lit< tt))
    (ap (λ (z : ℕ). m * 2 ^ t * 2 ^ e * z) (mul-pow 5 2 k) ∙ arrange m (5 ^ k) (2 ^ t) (2 ^ e) (2 ^ k) (2 ^ s) (2 ^ 149) (powers t e k s 149 h))

-- ---- a number that was doubled s times and has j digits
pub steps-below : (d s v j : ℕ) → 0 < d → v ≡ d * 2 ^ s → v < 2 ^ j → s < j
steps-below d s v j D e h = lt_of_not-le (λ (g : j ≤ s). not-le_of_lt h (le_trans (pow_mono g) (le_trans (le_of_eq (sym (one-mul (2 ^ s)))) (le_trans (mul-le-mul_right (2 ^ s) D) (le_of_eq (sym e))))))

pub five-small : (k : ℕ) → k ≤ 17 → 5 ^ k < 2 ^ 40
five-small k h = lt_of_le_of_lt (pow-le-pow_right (lit< tt) h) (lit< tt)

pub five-pos : (k : ℕ) → 0 < 5 ^ k
five-pos k = one-le-pow k 5 (lit< tt)

-- ---- the code's quotient: b is d = 5 ^ k doubled s times, a is m doubled t times, c is nearest to a / b
module _ (m k d b s a t c : ℕ) (M : 0 < m) (K : k ≤ 17) (D : d ≡ 5 ^ k) (bs : b ≡ d * 2 ^ s) (small : b < 2 ^ 40) (at : a ≡ m * 2 ^ t) (lo : b * 2 ^ 23 ≤ a) (hi : a < b * 2 ^ 24) (C : c ≡ closest a b) where
  pub few-wide : s < 40
  few-wide = steps-below d s b 40 (subst (λ (z : ℕ). 0 < z) (sym D) (five-pos k)) bs small

  pub few-raised : t < 64
  few-raised = steps-below m t a 64 M at (omega arith)

  pub short : c ≤ 2 ^ 24
  short = subst (λ (z : ℕ). z ≤ 2 ^ 24) (sym C) (significand a b (omega arith) lo hi).1

  pub quotient-number : T (not (nan_bits binary32 ((149 + s - t - k) * 8388608 + c)))
  quotient-number = bits-number (149 + s - t - k) c (omega (arith, few-wide)) short

  pub quotient_is : of_bits binary32 ((149 + s - t - k) * 8388608 + c) ≡ round binary32 false m (10 ^ k)
  quotient_is =
      let e = 149 + s - t - k in
      ap (λ (z : ℕ). of_bits binary32 (e * 8388608 + z)) C
      ∙ by_bits a b e (omega arith) lo hi (omega (arith, few-wide))
      ∙ ap (λ (z : ℕ). round binary32 false (z * 2 ^ e) (b * 2 ^ 149)) at
      ∙ ap (λ (z : ℕ). round binary32 false (m * 2 ^ t * 2 ^ e) (z * 2 ^ 149)) (bs ∙ ap (λ (z : ℕ). z * 2 ^ s) D)
      ∙ over-ten m k s t e (omega (arith, few-wide, few-raised))
