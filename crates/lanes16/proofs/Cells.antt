-- The whole part of a number from 0 to 511, by the bits of its sum with 512; the cell of a position, by that number. Assumes nothing.
use mathlib.Core.Path.{◌≡◌, refl, sym, ap, ap₂, ◌∙◌, subst}
use mathlib.Core.Bool.{Bool, true, false, not, ◌&&◌, ◌||◌, cond}
use mathlib.Core.List.{List}
use Prim.Native.Nat.{ℕ, zero, suc, ◌+◌, ◌-◌, ◌*◌, ◌/◌, ◌%◌, ◌^◌, ◌≤◌, ◌<◌, min}
use native.Mathlib.Nat.{le_trans, le_of_eq, le_of_lt, lt_of_lt_of_le, lt_of_le_of_lt, lt_of_not-le, lt_irrefl, mul-one, add-mul, mul_right_comm, mul-le-mul_right, mul-lt-mul_of_pos_right, le_of_mul-le-mul_right, lt_of_mul-lt-mul_right, le-add_right, zero-mul, mod-lt, div-mul-le_self, div-lt_iff_lt-mul, le-div_iff_mul-le}
use native.Mathlib.Omega.{arith}
use borrow.Author.Count.{below_more}
use lib.IntN.{ℤ, pos}
use lib.Dec.{T, leb, ltb, eqb, ltb→lt, lt→ltb, nltb→le, le→leb, eqb→eq, lit≤}
use lib.ListN.{length, set, get_or}
use lib.Seq.{get_or-set_same, get_or-set_other}
use lib.Pow.{pow-add, pow_pos, pow_mono, shl_lt, shl-shr, shr-shr, field}
use lib.Bits.{bit_and, and_mask}
use lib.Ieee.{Float, nan, inf, fin, Format, binary32, up, down, odd, round, sum, add, is_nan, of_fields, of_bits, to_bits, lt, eq, le, of_int, to_unsigned, in_float}
use lib.Ieee.Fits.{eq→eqb, down_pos, and_l, add-fits}
use lib.Ieee.Bits.{of_bits-to_bits, is_true}
use lib.Ieee.Exact.{HasValue, odd_sign}
use lib.Ieee.Back.{round_whole}
use lib.Ieee.Nearest.{div_same}
use lib.Ieee.Order.{round_mono, le_of_values}
use lib.Ieee.Positive.{num, den, positive, den_pos, own_value, value→cross, positive_of_value, values_of_le, between as enclosed}
use Rattle.number.specs.Number.{zero32, min32, hold, less, nearest32}
use Rattle.curve_table.specs.Table.{cells32, cell_at, between}
use Rattle.model.specs.Counts.{at}
use Rattle.lanes16.specs.Cells.{last32}

yes : {b : Bool} → b ≡ true → T b
yes h = subst T (sym h) tt

no : {b : Bool} → b ≡ false → T (not b)
no h = subst (λ (a : Bool). T (not a)) (sym h) tt

-- 0, 511 and 512 by their bit patterns
zero_is : of_bits binary32 0 ≡ zero32
unfolding of_bits
zero_is = refl

last-is : of_bits binary32 0x43ff_8000 ≡ last32
unfolding of_bits
last-is = refl

pub cells_is : of_bits binary32 0x4400_0000 ≡ cells32
unfolding of_bits
cells_is = refl

-- ---- a number from 0 to 511, as a fraction: its sum with 512, its whole part, and its order with a whole number

pub record Low (x : Float) : Type 0 where
  pub top : num x ≤ 511 * den x
  pub sum_is : add binary32 x cells32 ≡ round binary32 false (num x + 512 * den x) (den x)
  pub whole_is : to_unsigned 64 x ≡ num x / den x
  pub under : (y : Float) (n : ℕ) → HasValue y false n 1 → lt x y ≡ true → num x < n * den x
  pub over : (y : Float) (n : ℕ) → HasValue y false n 1 → lt x y ≡ false → n * den x ≤ num x

at_most : (a b : ℕ) (p q : Bool) → (T p → a < b) → (T q → a ≡ b) → T (p || (q && true)) → a ≤ b
at_most a b true q f g h = le_of_lt (f tt)
at_most a b false true f g h = le_of_eq (g tt)
at_most a b false false f g h = absurd h

-- p / q is n, so the order of n and a / d is that of p / q and a / d
module _ (a d p q n : ℕ) (Q : 0 < q) (v : p * 1 ≡ n * q) where
  crossed : p * d ≡ n * d * q
  crossed = ap (λ (k : ℕ). k * d) (sym (mul-one p) ∙ v) ∙ mul_right_comm n q d

  cross-lt : a * q < p * d → a < n * d
  cross-lt h = lt_of_mul-lt-mul_right q (lt_of_lt_of_le h (le_of_eq crossed))

  cross-le : p * d ≤ a * q → n * d ≤ a
  cross-le h = le_of_mul-le-mul_right (le_trans (le_of_eq (sym crossed)) h) Q

-- n / d is at most k, as a whole number too
quotient_le : (n d k : ℕ) → 0 < d → n ≤ k * d → n / d ≤ k
quotient_le n d k D h =
    let more : n < (k + 1) * d = lt_of_le_of_lt h (mul-lt-mul_of_pos_right (omega arith) D) in
    let few : n / d < k + 1 = (div-lt_iff_lt-mul D).1 more in
    go (n / d) few
  where
    go : (w : ℕ) → w < k + 1 → w ≤ k
    go w g = omega arith

-- the largest number of 64 bits caps nothing here
cut : (n d : ℕ) → 0 < d → n ≤ 511 * d → min (n / d) (2 ^ 64 - 1) ≡ n / d
cut n d D h = go (n / d) (quotient_le n d 511 D h)
  where
    go : (w : ℕ) → w ≤ 511 → min w (2 ^ 64 - 1) ≡ w
    go w k = omega arith

-- a sum of two that are not negative, and of a zero that is
sum_same : (f : Format) (a b c : ℕ) → sum f false a false b c ≡ round f false (a + b) c
unfolding sum
sum_same f a b c = refl

sum-zero : (f : Format) (a b c : ℕ) → a ≡ 0 → 0 < b → sum f true a false b c ≡ round f false (a + b) c
unfolding sum
sum-zero f a b c z B =
    let l : ltb a b ≡ true = is_true (ltb a b) (lt→ltb a b (omega arith)) in
    let s : b - a ≡ a + b = omega arith in
    rw (l, s)

tidy : (f : Format) (n d : ℕ) → round f false (n * 1 + 512 * d) (d * 1) ≡ round f false (n + 512 * d) d
tidy f n d = ap₂ (λ (a c : ℕ). round f false (a + 512 * d) c) (mul-one n) (mul-one d)

-- above zero or +0
low-pos : (m : ℕ) (e : ℤ) → T (le (fin false m e) last32) → Low (fin false m e)
unfolding le lt eq to_unsigned add
low-pos m e h =
    let n = m * up e in
    let d = down e in
    let t : n ≤ 511 * d =
    subst (λ (k : ℕ). k ≤ 511 * d) (mul-one n)
    (at_most (n * 1) (511 * d) (ltb (n * 1) (511 * d)) (eqb (n * 1) (511 * d)) (ltb→lt (n * 1) (511 * d)) (eqb→eq (n * 1) (511 * d)) h) in
    record {
      top = t;
      sum_is = sum_same binary32 (n * 1) (512 * d) (d * 1) ∙ tidy binary32 n d;
      whole_is = cut n d (down_pos e) t;
      under = lower;
      over = upper;
    }
  where
    lower : (y : Float) (n : ℕ) → HasValue y false n 1 → lt (fin false m e) y ≡ true → m * up e < n * down e
    lower nan n v k = absurd v
    lower (inf s) n v k = absurd v
    lower (fin true p g) n v k = absurd (yes (sym v.0))
    lower (fin false p g) n v k = cross-lt (m * up e) (down e) (p * up g) (down g) n (down_pos g) v.1 (ltb→lt (m * up e * down g) (p * up g * down e) (yes k))

    upper : (y : Float) (n : ℕ) → HasValue y false n 1 → lt (fin false m e) y ≡ false → n * down e ≤ m * up e
    upper nan n v k = absurd v
    upper (inf s) n v k = absurd v
    upper (fin true p g) n v k = absurd (yes (sym v.0))
    upper (fin false p g) n v k = cross-le (m * up e) (down e) (p * up g) (down g) n (down_pos g) v.1 (nltb→le (m * up e * down g) (p * up g * down e) (no k))

-- -0
low-zero : (m : ℕ) (e : ℤ) → m * up e ≡ 0 → Low (fin true m e)
unfolding le lt eq to_unsigned add
low-zero m e z =
    let n = m * up e in
    let d = down e in
    let t : n ≤ 511 * d = omega arith in
    let D : 0 < 512 * d = omega (arith, down_pos e) in
    record {
      top = t;
      sum_is = sum-zero binary32 (n * 1) (512 * d) (d * 1) (omega arith) D ∙ tidy binary32 n d;
      whole_is = sym (none n d (down_pos e) z);
      under = lower;
      over = upper;
    }
  where
    none : (n d : ℕ) → 0 < d → n ≡ 0 → n / d ≡ 0
    none n d D h = go (n / d) (quotient_le n d 0 D (omega arith))
      where
        go : (w : ℕ) → w ≤ 0 → w ≡ 0
        go w k = omega arith

    none-by : (g : ℕ) → m * up e * g ≡ 0
    none-by g = ap (λ (k : ℕ). k * g) z ∙ zero-mul g

    above : (a b : ℕ) → a ≡ 0 → 0 < a + b → a < b
    above a b s k = omega arith

    not-above : (a b : ℕ) → a ≡ 0 → a + b ≤ 0 → b ≤ a
    not-above a b s k = omega arith

    lower : (y : Float) (n : ℕ) → HasValue y false n 1 → lt (fin true m e) y ≡ true → m * up e < n * down e
    lower nan n v k = absurd v
    lower (inf s) n v k = absurd v
    lower (fin true p g) n v k = absurd (yes (sym v.0))
    lower (fin false p g) n v k =
        cross-lt (m * up e) (down e) (p * up g) (down g) n (down_pos g) v.1
        (above (m * up e * down g) (p * up g * down e) (none-by (down g)) (ltb→lt 0 (m * up e * down g + p * up g * down e) (yes k)))

    upper : (y : Float) (n : ℕ) → HasValue y false n 1 → lt (fin true m e) y ≡ false → n * down e ≤ m * up e
    upper nan n v k = absurd v
    upper (inf s) n v k = absurd v
    upper (fin true p g) n v k = absurd (yes (sym v.0))
    upper (fin false p g) n v k =
        cross-le (m * up e) (down e) (p * up g) (down g) n (down_pos g) v.1
        (not-above (m * up e * down g) (p * up g * down e) (none-by (down g)) (nltb→le 0 (m * up e * down g + p * up g * down e) (no k)))

-- EVERY NUMBER FROM 0 TO 511, EITHER ZERO TOO
pub low_of : (x : Float) → le zero32 x ≡ true → le x last32 ≡ true → Low x
unfolding le lt eq
low_of nan a b = absurd (yes a)
low_of (inf true) a b = absurd (yes a)
low_of (inf false) a b = absurd (yes b)
low_of (fin true m e) a b = low-zero m e (go (eqb→eq (0 * down e) (m * up e * 1) (and_l (eqb (0 * down e) (m * up e * 1)) (eqb (0 * down e) 0) (yes a))))
  where
    go : 0 * down e ≡ m * up e * 1 → m * up e ≡ 0
    go h = omega arith
low_of (fin false m e) a b = low-pos m e (yes b)

-- ---- the bit pattern of a number from 512 on and below 1024

module _ (n d a l : ℕ) (D : 0 < d) (v : n * l ≡ a * d) (p : ℕ) where
  units_ge : p * d ≤ n → p * l ≤ a
  units_ge h = le_of_mul-le-mul_right (le_trans (le_of_eq (mul_right_comm p l d)) (le_trans (mul-le-mul_right l h) (le_of_eq v))) D

  units_lt : 0 < l → n < p * d → a < p * l
  units_lt L h = lt_of_mul-lt-mul_right d (lt_of_le_of_lt (le_of_eq (sym v)) (lt_of_lt_of_le (mul-lt-mul_of_pos_right h L) (le_of_eq (mul_right_comm p d l))))

-- a pattern by its fields
of_bits_is : (b : ℕ) → of_bits binary32 b ≡ of_fields binary32 (leb (2 ^ 31) b) (b % 2 ^ 31 / 2 ^ 23) (b % 2 ^ 23)
unfolding of_bits
of_bits_is b = refl

sign_of : (x : Float) (s : Bool) (a c : ℕ) → T (positive x) → HasValue x s a c → s ≡ false
sign_of nan s a c p h = absurd p
sign_of (inf t) s a c p h = absurd p
sign_of (fin true m e) s a c p h = absurd p
sign_of (fin false m e) s a c p h = sym h.0

clear : (v : Float) (s : Bool) (a c : ℕ) → T (positive v) → HasValue v s a c → HasValue v false a c
clear v s a c p h = subst (λ (k : Bool). HasValue v k a c) (sign_of v s a c p h) h

-- the digits t after the leading one, at a place j
abbrev Read : ℕ → Float → Type 0
Read t v = (j : ℕ) × HasValue v false ((2 ^ 23 + t) * 2 ^ j) (2 ^ 149)

short : (t : ℕ) → t < 2 ^ 23 → 2 ^ 9 * 2 ^ 149 ≤ t * 2 ^ 0 → ⊥
short t h k =
    let l : 23 + 0 ≤ 158 = lit≤ tt in
    lt_irrefl (2 ^ 158) (lt_of_le_of_lt k (lt_of_lt_of_le (shl_lt 23 0 h) (pow_mono l)))

at_top : (a b s : Bool) (v : Float) → T (positive (cond a (cond b (inf s) nan) v)) → T (not a)
at_top true true s v p = absurd p
at_top true false s v p = absurd p
at_top false b s v p = tt

past_top : (a : Bool) (u v : Float) → T (not a) → cond a u v ≡ v
past_top true u v n = absurd n
past_top false u v n = refl

read : (s : Bool) (x t : ℕ) → t < 2 ^ 23 → T (positive (of_fields binary32 s x t)) → 2 ^ 9 * den (of_fields binary32 s x t) ≤ num (of_fields binary32 s x t)
    → Read t (of_fields binary32 s x t)
unfolding of_fields
read s zero t h p g =
    let v = odd 24 s t 0 149 in
    let is : num v * 2 ^ 149 ≡ t * 2 ^ 0 * den v = value→cross v (t * 2 ^ 0) (2 ^ 149) (clear v s (t * 2 ^ 0) (2 ^ 149) p (odd_sign 24 s t 0 149)) in
    absurd (short t h (units_ge (num v) (den v) (t * 2 ^ 0) (2 ^ 149) (den_pos v) is (2 ^ 9) g))
read s (suc j) t h p g =
    let v = odd 24 s (2 ^ 23 + t) j 149 in
    let u = cond (eqb t 0) (inf s) nan in
    let is : cond (eqb (suc j) 255) u v ≡ v = past_top (eqb (suc j) 255) u v (at_top (eqb (suc j) 255) (eqb t 0) s v p) in
    let q : T (positive v) = subst (λ (k : Float). T (positive k)) is p in
    let z : HasValue v false ((2 ^ 23 + t) * 2 ^ j) (2 ^ 149) = clear v s ((2 ^ 23 + t) * 2 ^ j) (2 ^ 149) q (odd_sign 24 s (2 ^ 23 + t) j 149) in
    (j, subst (λ (k : Float). HasValue k false ((2 ^ 23 + t) * 2 ^ j) (2 ^ 149)) (sym is) z)

pow_lt_back : (i p : ℕ) → 2 ^ i < 2 ^ p → i < p
pow_lt_back i p h = lt_of_not-le (λ (g : p ≤ i). lt_irrefl (2 ^ i) (lt_of_lt_of_le h (pow_mono g)))

with_lead : (t : ℕ) → t < 2 ^ 23 → 2 ^ 23 + t < 2 ^ 24
with_lead t h = omega arith

place_is : (j : ℕ) → 158 < 24 + j → 23 + j < 159 → j ≡ 135
place_is j g h = omega arith

-- q * 2 ^ 135 of the smallest values
shifted_down : (q : ℕ) → q * 2 ^ 135 / 2 ^ 149 ≡ q / 2 ^ 14
shifted_down q = sym (shr-shr (q * 2 ^ 135) 135 14) ∙ ap (λ (k : ℕ). k / 2 ^ 14) (shl-shr q 135)

led : (t : ℕ) → (2 ^ 23 + t) / 2 ^ 14 ≡ t / 2 ^ 14 + 512
led t = omega arith

abbrev Within : Float → Type 0
Within x = T (positive x) × (2 ^ 9 * den x ≤ num x) × (num x < 2 ^ 10 * den x)

-- the nine digits after the first, before the point, are its whole part less 512
digits : (b : ℕ) → Within (of_bits binary32 b) → num (of_bits binary32 b) / den (of_bits binary32 b) ≡ b / 2 ^ 14 % 2 ^ 9 + 512
digits b i =
    let x = of_bits binary32 b in
    let s = leb (2 ^ 31) b in
    let t = b % 2 ^ 23 in
    let q = 2 ^ 23 + t in
    let T23 : t < 2 ^ 23 = mod-lt b (pow_pos 23) in
    let r : Read t x =
    subst (λ (k : Float). Read t k) (sym (of_bits_is b))
    (read s (b % 2 ^ 31 / 2 ^ 23) t T23
    (subst (λ (k : Float). T (positive k)) (of_bits_is b) i.0)
    (subst (λ (k : Float). 2 ^ 9 * den k ≤ num k) (of_bits_is b) i.1)) in
    let j = r.0 in
    let v : num x * 2 ^ 149 ≡ q * 2 ^ j * den x = value→cross x (q * 2 ^ j) (2 ^ 149) r.1 in
    let lo : 2 ^ 9 * 2 ^ 149 ≤ q * 2 ^ j = units_ge (num x) (den x) (q * 2 ^ j) (2 ^ 149) (den_pos x) v (2 ^ 9) i.1 in
    let hi : q * 2 ^ j < 2 ^ 10 * 2 ^ 149 = units_lt (num x) (den x) (q * 2 ^ j) (2 ^ 149) (den_pos x) v (2 ^ 10) (pow_pos 149) i.2 in
    let at : j ≡ 135 =
    place_is j (pow_lt_back 158 (24 + j) (lt_of_le_of_lt lo (shl_lt 24 j (with_lead t T23))))
    (pow_lt_back (23 + j) 159 (lt_of_le_of_lt (le_trans (le_of_eq (pow-add 2 23 j)) (mul-le-mul_right (2 ^ j) (le-add_right (2 ^ 23) t))) hi)) in
    div_same (num x) (den x) (q * 2 ^ j) (2 ^ 149) (den_pos x) (pow_pos 149) v
    ∙ ap (λ (k : ℕ). q * 2 ^ k / 2 ^ 149) at
    ∙ shifted_down q
    ∙ led t
    ∙ ap (λ (k : ℕ). k + 512) (field b 9 14)

-- ---- the sum with 512, s, of a number x with the whole part n, and the digits d of its bit pattern b

finite : (y : Float) → T (positive y) → T (not (is_nan y))
unfolding is_nan
finite nan p = absurd p
finite (inf s) p = tt
finite (fin s m e) p = tt

module _ (x : Float) (w : Low x) where
  abbrev n : ℕ
  n = num x / den x

  abbrev s : Float
  s = add binary32 x cells32

  abbrev whole-at : ℕ → Float
  whole-at k = round binary32 false k 1

  n-le : n ≤ 511
  n-le = quotient_le (num x) (den x) 511 (den_pos x) w.top

  from : n * den x ≤ num x
  from = div-mul-le_self (num x) (den x)

  to : num x < (n + 1) * den x
  to = (div-lt_iff_lt-mul (den_pos x)).0 (omega arith)

  ordered-lo : (k : ℕ) → k * den x ≤ num x + 512 * den x → T (le (whole-at k) s)
  ordered-lo k h =
      let a = num x + 512 * den x in
      subst (λ (y : Float). T (le (whole-at k) y)) (sym w.sum_is) (round_mono binary32 k 1 a (den x) (pow_pos 0) (den_pos x) (le_trans h (le_of_eq (sym (mul-one a)))))

  ordered-hi : (k : ℕ) → num x + 512 * den x ≤ k * den x → T (le s (whole-at k))
  ordered-hi k h =
      let a = num x + 512 * den x in
      subst (λ (y : Float). T (le y (whole-at k))) (sym w.sum_is) (round_mono binary32 a (den x) k 1 (den_pos x) (pow_pos 0) (le_trans (le_of_eq (mul-one a)) h))

  -- n + 512 ≤ s, s ≤ 1023 and s ≤ n + 513
  lo : T (le (whole-at (n + 512)) s)
  lo = ordered-lo (n + 512) (go (den x) n (num x) from)
    where
      go : (d k a : ℕ) → k * d ≤ a → (k + 512) * d ≤ a + 512 * d
      go d k a h = rw (add-mul k 512 d) (omega arith)

  top-le : T (le s (whole-at 1023))
  top-le = ordered-hi 1023 (go (den x) (num x) w.top)
    where
      go : (d a : ℕ) → a ≤ 511 * d → a + 512 * d ≤ 1023 * d
      go d a h = omega arith

  hi : T (le s (whole-at (n + 513)))
  hi = ordered-hi (n + 513) (go (den x) n (num x) to)
    where
      go : (d k a : ℕ) → a < (k + 1) * d → a + 512 * d ≤ (k + 513) * d
      go d k a h = rw (add-mul k 513 d) (omega (arith, rw (add-mul k 1 d) at h))

  val : (k : ℕ) → k ≤ 1024 → HasValue (whole-at k) false k 1
  val k h = round_whole binary32 false k (le_trans h (lit≤ tt))

  above_zero : (k : ℕ) → 0 < k → k ≤ 1024 → T (positive (whole-at k))
  above_zero k z h = positive_of_value (whole-at k) k 1 (val k h) z

  s-positive : T (positive s)
  s-positive =
      enclosed (whole-at (n + 512)) s (whole-at 1023) (above_zero (n + 512) (omega arith) (omega (arith, n-le))) (above_zero 1023 (lit≤ tt) (lit≤ tt)) lo top-le

  s-ge : (n + 512) * den s ≤ num s
  s-ge =
      let k : n + 512 ≤ 1024 = omega (arith, n-le) in
      le_trans
      (values_of_le (whole-at (n + 512)) s (n + 512) 1 (num s) (den s) (above_zero (n + 512) (omega arith) k) s-positive (val (n + 512) k) (own_value s s-positive) lo)
      (le_of_eq (mul-one (num s)))

  s-le : (k : ℕ) → 0 < k → k ≤ 1024 → T (le s (whole-at k)) → num s ≤ k * den s
  s-le k z g h =
      le_trans (le_of_eq (sym (mul-one (num s))))
      (values_of_le s (whole-at k) (num s) (den s) k 1 s-positive (above_zero k z g) (own_value s s-positive) (val k g) h)

  within : Within s
  within = (
    s-positive,
    go (den s) n (num s) s-ge,
    lt_of_le_of_lt (s-le 1023 (lit≤ tt) (lit≤ tt) top-le) (mul-lt-mul_of_pos_right (lit≤ tt) (den_pos s)),
  )
    where
      go : (d k a : ℕ) → (k + 512) * d ≤ a → 512 * d ≤ a
      go d k a h = omega (arith, rw (add-mul k 512 d) at h)

  abbrev b : ℕ
  b = to_bits binary32 s

  abbrev d : ℕ
  d = bit_and (b / 2 ^ 14) (2 ^ 9 - 1)

  s-digits : num s / den s ≡ d + 512
  s-digits =
      let back = of_bits-to_bits binary32 s (add-fits binary32 x cells32) in
      subst (λ (y : Float). num y / den y ≡ b / 2 ^ 14 % 2 ^ 9 + 512) back (digits b (subst (λ (y : Float). Within y) (sym back) within))
      ∙ ap (λ (k : ℕ). k + 512) (sym (and_mask (b / 2 ^ 14) 9))

  -- it has a bit pattern
  pub no_nan : T (not (is_nan s))
  no_nan = finite s s-positive

  -- the digits are n or one more, and at most 511
  near : (n ≤ d) × (d ≤ n + 1) × (d ≤ 511)
  near =
      let few : num s / den s ≤ 1023 = quotient_le (num s) (den s) 1023 (den_pos s) (s-le 1023 (lit≤ tt) (lit≤ tt) top-le) in
      let more : num s / den s ≤ n + 513 = quotient_le (num s) (den s) (n + 513) (den_pos s) (s-le (n + 513) (omega arith) (omega (arith, n-le)) hi) in
      let least : n + 512 ≤ num s / den s = (le-div_iff_mul-le (den_pos s)).1 s-ge in
      go (num s / den s) n d s-digits few more least
    where
      go : (q k a : ℕ) → q ≡ a + 512 → q ≤ 1023 → q ≤ k + 513 → k + 512 ≤ q → (k ≤ a) × (a ≤ k + 1) × (a ≤ 511)
      go q k a e f g h = (omega arith, omega arith, omega arith)

  pub digits_le : d ≤ 511
  digits_le = near.2

  -- they are a whole number that binary32 holds
  pub digits-float : T (in_float binary32 (pos d))
  unfolding in_float
  digits-float = le→leb d (2 ^ 24) (le_trans digits_le (lit≤ tt))

  d-value : HasValue (nearest32 d) false d 1
  unfolding of_int
  d-value = val d (le_trans near.2 (lit≤ tt))

  -- WHERE THEY ARE ABOVE x THEY ARE ONE MORE
  pub cut-back : lt x (nearest32 d) ≡ true → (bit_and (d + 511) (2 ^ 9 - 1) ≡ to_unsigned 64 x) × (bit_and (d + 511) (2 ^ 9 - 1) < 512)
  cut-back h =
      let apart : n < d = lt_of_mul-lt-mul_right (den x) (lt_of_le_of_lt from (w.under (nearest32 d) d d-value h)) in
      let is : bit_and (d + 511) (2 ^ 9 - 1) ≡ n = and_mask (d + 511) 9 ∙ go n d apart near.1 n-le in
      (is ∙ sym w.whole_is, rw is (omega (arith, n-le)))
    where
      go : (k a : ℕ) → k < a → a ≤ k + 1 → k ≤ 511 → (a + 511) % 2 ^ 9 ≡ k
      go k a f g l = omega arith

  -- OTHERWISE THEY ARE THE WHOLE PART
  pub kept : lt x (nearest32 d) ≡ false → (d ≡ to_unsigned 64 x) × (d < 512)
  kept h =
      let apart : d < n + 1 = lt_of_mul-lt-mul_right (den x) (lt_of_le_of_lt (w.over (nearest32 d) d d-value h) to) in
      (go n d near.0 apart ∙ sym w.whole_is, more d digits_le)
    where
      go : (k a : ℕ) → k ≤ a → a < k + 1 → a ≡ k
      go k a f g = omega arith

      more : (a : ℕ) → a ≤ 511 → a < 512
      more a f = omega arith

-- ---- a position held to 0 and 511

abbrev Held : Float → Float → Type 0
Held p h = (le zero32 h ≡ true) × (le h last32 ≡ true) × (to_unsigned 64 h ≡ min (to_unsigned 64 p) 511)

-- a position within, above 511, and -0
capped : (q : ℕ) → q ≤ 511 → min q (2 ^ 64 - 1) ≡ min (min q (2 ^ 64 - 1)) 511
capped q h = omega arith

past : (q : ℕ) → 511 ≤ q → 511 ≡ min (min q (2 ^ 64 - 1)) 511
past q h = omega arith

inside : (m : ℕ) (e : ℤ) → m * up e ≤ 511 * down e → Held (fin false m e) (fin false m e)
unfolding to_unsigned
inside m e h =
    let x = fin false m e in
    let n = m * up e in (
      is_true (le zero32 x) (le_of_values zero32 x 0 1 n (down e) (pow_pos 0) (down_pos e) (refl, refl) (refl, refl) (omega arith)),
      is_true (le x last32) (le_of_values x last32 n (down e) 511 1 (down_pos e) (pow_pos 0) (refl, refl) (refl, refl) (omega arith)),
      capped (n / down e) (quotient_le n (down e) 511 (down_pos e) h),
    )

minus-zero : (m : ℕ) (e : ℤ) → m * up e ≡ 0 → Held (fin true m e) (fin true m e)
unfolding lt eq le to_unsigned
minus-zero m e z =
    let a : eqb (0 * down e) (m * up e * 1) ≡ true = is_true (eqb (0 * down e) (m * up e * 1)) (eq→eqb {a = 0 * down e} {b = m * up e * 1} (omega arith)) in
    let b : eqb (0 * down e) 0 ≡ true = is_true (eqb (0 * down e) 0) (eq→eqb {a = 0 * down e} {b = 0} (omega arith)) in
    let n = m * up e * 1 + 511 * down e in
    let c : ltb 0 n ≡ true = is_true (ltb 0 n) (lt→ltb 0 n (omega (arith, down_pos e))) in
    (rw (a, b), rw c, refl)

-- `hold` by the one test that is not settled
hold-minus : (m : ℕ) (e : ℤ) → hold zero32 last32 (fin true m e) ≡ cond (lt (fin true m e) zero32) zero32 (fin true m e)
unfolding hold min32 is_nan lt
hold-minus m e = go (lt (fin true m e) zero32)
  where
    go : (b : Bool) → min32 (cond b zero32 (fin true m e)) last32 ≡ cond b zero32 (fin true m e)
    go true = refl
    go false = refl

hold-plus : (m : ℕ) (e : ℤ) → hold zero32 last32 (fin false m e) ≡ cond (lt last32 (fin false m e)) last32 (fin false m e)
unfolding hold min32 is_nan lt
hold-plus m e = go (lt (fin false m e) zero32) never
  where
    below : 0 * down e ≤ m * up e * 1
    below = omega arith

    never : T (lt (fin false m e) zero32) → ⊥
    never t = lt_irrefl (0 * down e) (lt_of_le_of_lt below (ltb→lt (m * up e * 1) (0 * down e) t))

    go : (b : Bool) → (T b → ⊥) → min32 (cond b zero32 (fin false m e)) last32 ≡ cond (lt last32 (fin false m e)) last32 (fin false m e)
    go true f = absurd (f tt)
    go false f = refl

held : (p : Float) → Held p (hold zero32 last32 p)
unfolding hold is_nan lt eq le to_unsigned
held nan = (refl, refl, refl)
held (inf true) = (refl, refl, refl)
held (inf false) = (refl, refl, refl)
held (fin true m e) =
    subst (λ (h : Float). Held (fin true m e) h) (sym (hold-minus m e))
    (go (lt (fin true m e) zero32) (nltb→le 0 (m * up e * 1 + 0 * down e)))
  where
    none : m * up e * 1 + 0 * down e ≤ 0 → m * up e ≡ 0
    none h = omega arith

    go : (b : Bool) → (T (not b) → m * up e * 1 + 0 * down e ≤ 0) → Held (fin true m e) (cond b zero32 (fin true m e))
    go true f = (refl, refl, refl)
    go false f = minus-zero m e (none (f tt))
held (fin false m e) =
    subst (λ (h : Float). Held (fin false m e) h) (sym (hold-plus m e))
    (go (lt last32 (fin false m e)) (ltb→lt (511 * down e) (m * up e * 1)) (nltb→le (511 * down e) (m * up e * 1)))
  where
    many : 511 * down e < m * up e * 1 → 511 ≤ m * up e / down e
    many h = (le-div_iff_mul-le (down_pos e)).1 (omega arith)

    few : m * up e * 1 ≤ 511 * down e → m * up e ≤ 511 * down e
    few h = omega arith

    go : (b : Bool) → (T b → 511 * down e < m * up e * 1) → (T (not b) → m * up e * 1 ≤ 511 * down e)
        → Held (fin false m e) (cond b last32 (fin false m e))
    go true f g = (refl, refl, past (m * up e / down e) (many (f tt)))
    go false f g = inside m e (few (g tt))

-- IT IS FROM 0 TO 511, AND ITS WHOLE PART IS THE CELL
pub held-is : (p : Float) → Held p (hold (of_bits binary32 0) (of_bits binary32 0x43ff_8000) p)
held-is p = rw (zero_is, last-is) (held p)

-- there are 512 cells
pub cell-few : (p : Float) → cell_at p < 512
cell-few p = go (to_unsigned 64 p)
  where
    go : (q : ℕ) → min q 511 < 512
    go q = omega arith

-- ---- lanes

-- the number of a lane, by its cell and the numbers that stand there
pub looked : (t : List Float) (start k : ℕ) (p a b x : Float) → k ≡ cell_at p → a ≡ at t (start + k) → b ≡ at t (start + 1 + k) → x ≡ between a b (less p (nearest32 k))
    → x ≡ between (at t (start + cell_at p)) (at t (start + (cell_at p + 1))) (less p (nearest32 (cell_at p)))
looked t start k p a b x e f g h =
    let next : start + 1 + k ≡ start + (cell_at p + 1) = omega arith in
    h
    ∙ ap₂ (λ (y z : Float). between y z (less p (nearest32 k))) f (g ∙ ap (at t) next)
    ∙ ap (λ (c : ℕ). between (at t (start + c)) (at t (start + (cell_at p + 1))) (less p (nearest32 c))) e

-- one cell more is stored
pub stored : (P : ℕ → ℕ → Type 0) (k : ℕ) (out : List ℕ) (v : ℕ) → k < length out → ((l : ℕ) → l < k → P l (get_or out l 0)) → P k v
    → (l : ℕ) → l < k + 1 → P l (get_or (set out k v) l 0)
stored P k out v b done h =
    below_more (λ (l : ℕ). P l (get_or (set out k v) l 0)) k
    (λ l p. rw (get_or-set_other out k l v 0 (λ q. omega arith)) (done l p))
    (rw (get_or-set_same out k v 0 b) h)
