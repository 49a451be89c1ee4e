-- A whole number of 64 digits as the nearest float. Its parts of 24 digits are floats exactly, so their sum rounds once; and where 25 digits or more are dropped,
-- the rounding sees of the last ones only whether they are all 0 (`round-sticky`).
-- One derivation, whose steps are cited nearly nowhere else: one file, long as it is.
use Rattle.std.proofs.Common.{◌≡◌, ℕ, zero, suc, ◌+◌, ◌-◌, ◌*◌, ◌/◌, ◌%◌, ◌^◌, ◌<◌, ◌≤◌, Bool, true, false, T, ◌⊎◌, pos, sym, refl, ap, ◌∙◌, subst, inl, inr, true≢false, lt_of_lt_of_le, add-zero, le_of_lt, mul-le-mul_right, mod-lt, mod-eq_of_lt, zero-lt-suc, mul_assoc, suc-mul, mul_comm, add-mul, eq-zero-or-pos, mul-lt-mul_of_pos_right, mul-pos, one-mul, pow-suc, lt_of_not-le, div-add-mod', mul-one, mul_right_comm, not-le_of_lt, div-one, mul_left_comm, arith, lit≤, le→leb, pow_pos, pow_mono, pow-add, shl_lt, ne_eqb}
use Prim.Native.Nat.compare
use Prim.Native.Nat.{Ordering}
use Prim.Native.Nat.{compare}
use native.Mathlib.Nat.{mul-add-div_right, mul-add-mod_self_right, div-eq_of_lt}
use lib.Ieee.{Float, nan, inf, fin, Format, binary32, prec, low, up, down, size, nearest, units, round, add, sum, mul, of_int, in_float}
use lib.Ieee.Digits.{size-lt, size-le, size_reaches}
use lib.Ieee.Fits.{down_pos, round_is}
use lib.Ieee.Exact.{HasValue, round_exact}
use lib.Ieee.Scale.{round_same}
use lib.Ieee.Nearest.{closest}
use Rattle.number.proofs.Exact.{whole-exact}
use Rattle.number.specs.Number.{sticky}

-- ---- a sum and a scaling of whole numbers that are not negative
whole_sum : (m g n e a b : ℕ) → m * 1 ≡ a * e → n * 1 ≡ b * g → (m * g + n * e) * 1 ≡ (a + b) * (e * g)
whole_sum m g n e a b p q =
    let p' : m ≡ a * e = sym (mul-one m) ∙ p in
    let q' : n ≡ b * g = sym (mul-one n) ∙ q in
    rw (p', q') (mul-one _ ∙ simp (add-mul, mul_assoc, mul_comm, mul_left_comm))

pub add_at : (f : Format) (x y : Float) (a b : ℕ) → HasValue x false a 1 → HasValue y false b 1 → add f x y ≡ round f false (a + b) 1
unfolding add sum
add_at f nan y a b h k = absurd h
add_at f (inf s) y a b h k = absurd h
add_at f (fin s m e) nan a b h k = absurd k
add_at f (fin s m e) (inf t) a b h k = absurd k
add_at f (fin true m e) (fin t n d) a b h k = absurd (true≢false h.0)
add_at f (fin false m e) (fin true n d) a b h k = absurd (true≢false k.0)
add_at f (fin false m e) (fin false n d) a b h k =
    round_same f false (m * up e * down d + n * up d * down e) (down e * down d) (a + b) 1 (mul-pos (down_pos e) (down_pos d)) (zero-lt-suc 0)
    (whole_sum (m * up e) (down d) (n * up d) (down e) a b h.1 k.1)

whole_scaled : (m e a p : ℕ) → m * 1 ≡ a * e → m * (1 * p) * 1 ≡ a * p * (e * 1)
whole_scaled m e a p h =
    let h' : m ≡ a * e = sym (mul-one m) ∙ h in
    rw h' (mul-one _ ∙ ap (λ (z : ℕ). a * e * z) (one-mul p) ∙ mul_right_comm a e p ∙ sym (ap (λ (z : ℕ). a * p * z) (mul-one e)))

pub scale_at : (f : Format) (x : Float) (a k : ℕ) → HasValue x false a 1 → mul f x (fin false 1 (pos k)) ≡ round f false (a * 2 ^ k) 1
unfolding mul
scale_at f nan a k h = absurd h
scale_at f (inf s) a k h = absurd h
scale_at f (fin true m e) a k h = absurd (true≢false h.0)
scale_at f (fin false m e) a k h =
    round_same f false (m * up e * (1 * 2 ^ k)) (down e * 1) (a * 2 ^ k) 1 (mul-pos (down_pos e) (zero-lt-suc 0)) (zero-lt-suc 0) (whole_scaled (m * up e) (down e) a (2 ^ k) h.1)

-- ---- a part of 24 digits, times a power of two

room : (k : ℕ) → k ≤ 104 → 24 + (k + 149) ≤ 149 + 128
room k h = omega arith

pub scaled : (a k : ℕ) → a < 2 ^ 24 → k ≤ 104 → HasValue (mul binary32 (of_int binary32 (pos a)) (fin false 1 (pos k))) false (a * 2 ^ k) 1
scaled a k h g =
    subst (λ (z : Float). HasValue z false (a * 2 ^ k) 1) (sym (scale_at binary32 (of_int binary32 (pos a)) a k (whole-exact a (le_of_lt h))))
    (round_exact binary32 false (a * 2 ^ k) 1 a (k + 149) (zero-lt-suc 0) h (lt_of_lt_of_le (shl_lt 24 (k + 149) h) (pow_mono (room k g)))
    (mul_assoc a (2 ^ k) (2 ^ 149) ∙ ap (λ (z : ℕ). a * z) (sym (pow-add 2 k 149)) ∙ sym (mul-one (a * 2 ^ (k + 149)))))

-- ---- what `compare` answers
pub compare-lt : (a b : ℕ) → a < b → compare a b ≡ Ordering.lt
compare-lt zero zero h = absurd (omega arith)
compare-lt zero (suc b) h = compare.zero-suc b
compare-lt (suc a) zero h = absurd (omega arith)
compare-lt (suc a) (suc b) h = compare.suc-suc a b ∙ compare-lt a b (omega arith)

pub compare-gt : (a b : ℕ) → b < a → compare a b ≡ Ordering.gt
compare-gt zero b h = absurd (omega arith)
compare-gt (suc a) zero h = compare.suc-zero a
compare-gt (suc a) (suc b) h = compare.suc-suc a b ∙ compare-gt a b (omega arith)

pub sides : (a b : ℕ) → (a < b) ⊎ (b ≤ a)
sides zero zero = inr (omega arith)
sides zero (suc b) = inl (omega arith)
sides (suc a) zero = inr (omega arith)
sides (suc a) (suc b) = elim (sides a b) [ inl l ↦ inl (omega arith) | inr g ↦ inr (omega arith) ]

-- ---- for an x above 0 and below u, a remainder v * u + x is on the same side of h * u whatever x is
order-sticky : (v h u x x' : ℕ) → x < u → x' < u → 0 < x → 0 < x' → compare ((v * u + x) * 2) (h * u * 2) ≡ compare ((v * u + x') * 2) (h * u * 2)
order-sticky v h u x x' l l' p p' = go (sides v h)
  where
    less : (w : ℕ) → w < u → v < h → (v * u + w) * 2 < h * u * 2
    less w g b = omega (arith, mul-le-mul_right u b, suc-mul v u)

    more : (w : ℕ) → 0 < w → h ≤ v → h * u * 2 < (v * u + w) * 2
    more w g b = omega (arith, mul-le-mul_right u b)

    go : (v < h) ⊎ (h ≤ v) → compare ((v * u + x) * 2) (h * u * 2) ≡ compare ((v * u + x') * 2) (h * u * 2)
    go (inl b) = compare-lt _ _ (less x l b) ∙ sym (compare-lt _ _ (less x' l' b))
    go (inr b) = compare-gt _ _ (more x p b) ∙ sym (compare-gt _ _ (more x' p' b))

closest-split : (q r d : ℕ) → r < d → closest (q * d + r) d ≡ nearest q (compare (r * 2) d)
closest-split q r d h =
    let p : 0 < d = omega arith in
    rw (mul-add-div_right p q r, div-eq_of_lt h, mul-add-mod_self_right q d r, mod-eq_of_lt h, add-zero)

-- so the rounding by h * u * 2 is the same
closest-sticky : (y h u x x' : ℕ) → 0 < h → x < u → x' < u → 0 < x → 0 < x' → closest (y * u + x) (h * u * 2) ≡ closest (y * u + x') (h * u * 2)
closest-sticky y h u x x' H l l' p p' =
    let q = y / (h * 2) in
    let v = y % (h * 2) in
    let w : v < h * 2 = mod-lt y (omega arith) in
    ap (λ (n : ℕ). closest n (h * u * 2)) (split x)
    ∙ closest-split q (v * u + x) (h * u * 2) (inside v x w l)
    ∙ ap (nearest q) (order-sticky v h u x x' l l' p p')
    ∙ sym (closest-split q (v * u + x') (h * u * 2) (inside v x' w l'))
    ∙ sym (ap (λ (n : ℕ). closest n (h * u * 2)) (split x'))
  where
    inside : (v x : ℕ) → v < h * 2 → x < u → v * u + x < h * u * 2
    inside v x w l = omega (arith, mul-le-mul_right u w, suc-mul v u, mul_right_comm h 2 u)

    split : (x : ℕ) → y * u + x ≡ y / (h * 2) * (h * u * 2) + (y % (h * 2) * u + x)
    split x =
        let e : y / (h * 2) * (h * 2) * u ≡ y / (h * 2) * (h * u * 2) = mul_assoc _ (h * 2) u ∙ ap (λ (z : ℕ). y / (h * 2) * z) (mul_right_comm h 2 u) in
        omega (arith, ap (λ (z : ℕ). z * u) (div-add-mod' y (h * 2)), add-mul (y / (h * 2) * (h * 2)) (y % (h * 2)) u)

-- ---- y with t digits behind it
size-digits : (y t x : ℕ) → 0 < y → x < 2 ^ t → size (y * 2 ^ t + x) ≡ size y + t
size-digits y t x p h =
    let z = size y in
    let Z : 0 < z = lt_of_not-le (λ (g : z ≤ 0). not-le_of_lt (lt_of_lt_of_le (size-lt y) (pow_mono g)) p) in
    let a : y * 2 ^ t + x < 2 ^ (z + t) = omega (arith, mul-le-mul_right (2 ^ t) (size-lt y), suc-mul y (2 ^ t), pow-add 2 z t) in
    let b : 2 ^ (z - 1 + t) ≤ y * 2 ^ t + x = omega (arith, mul-le-mul_right (2 ^ t) (size_reaches y (z - 1) (omega arith)), pow-add 2 (z - 1) t) in
    let c : z - 1 + t < size (y * 2 ^ t + x) = lt_of_not-le (λ (g : size (y * 2 ^ t + x) ≤ z - 1 + t). not-le_of_lt (lt_of_lt_of_le (size-lt (y * 2 ^ t + x)) (pow_mono g)) b) in
    omega (arith, size-le (y * 2 ^ t + x) (z + t) a)

-- ---- where at least one digit above the last t is dropped, the rounding sees of those t only that they are not all 0
module _ (f : Format) (s : Bool) (y t : ℕ) (many : prec f < size y) where
  abbrev half : ℕ
  half = 2 ^ (size y - prec f - 1)

  abbrev unit : ℕ
  unit = 2 ^ t * 2 ^ low f

  abbrev gone : ℕ
  gone = size y - prec f + (t + low f)

  y-pos : (z : ℕ) → z ≡ size y → 0 < y
  y-pos z e = lt_of_lt_of_le (pow_pos (z - 1)) (size_reaches y (z - 1) (omega arith))

  in-units : (x : ℕ) → x < 2 ^ t → x * 2 ^ low f < unit
  in-units x l = mul-lt-mul_of_pos_right l (pow_pos (low f))

  drops : (x : ℕ) → x < 2 ^ t → size ((y * 2 ^ t + x) * 2 ^ low f / 1) - prec f ≡ gone
  drops x l =
      let e : (y * 2 ^ t + x) * 2 ^ low f / 1 ≡ y * 2 ^ (t + low f) + x * 2 ^ low f =
      div-one _ ∙ add-mul (y * 2 ^ t) x (2 ^ low f) ∙ ap (λ (z : ℕ). z + x * 2 ^ low f) (mul_assoc y (2 ^ t) (2 ^ low f) ∙ ap (λ (z : ℕ). y * z) (sym (pow-add 2 t (low f)))) in
      let g : size (y * 2 ^ (t + low f) + x * 2 ^ low f) ≡ size y + (t + low f) =
      size-digits y (t + low f) (x * 2 ^ low f) (y-pos (size y) refl) (rw (pow-add 2 t (low f)) (in-units x l)) in
      ap (λ (z : ℕ). size z - prec f) e ∙ ap (λ (z : ℕ). z - prec f) g ∙ omega arith

  unit-twice : 1 * 2 ^ gone ≡ half * unit * 2
  unit-twice =
      let d = size y - prec f - 1 in
      let e : size y - prec f ≡ suc d = omega arith in
      one-mul _ ∙ ap (λ (z : ℕ). 2 ^ (z + (t + low f))) e ∙ pow-add 2 (suc d) (t + low f)
      ∙ ap (λ (z : ℕ). z * 2 ^ (t + low f)) (pow-suc 2 d) ∙ ap (λ (z : ℕ). 2 ^ d * 2 * z) (pow-add 2 t (low f)) ∙ mul_right_comm (2 ^ d) 2 unit

  round-at : (x : ℕ) → x < 2 ^ t → round f s (y * 2 ^ t + x) 1 ≡ units f s (closest (y * unit + x * 2 ^ low f) (half * unit * 2)) gone
  round-at x l =
      round_is f s (y * 2 ^ t + x) 1
      ∙ ap (λ (j : ℕ). units f s (closest ((y * 2 ^ t + x) * 2 ^ low f) (1 * 2 ^ j)) j) (drops x l)
      ∙ ap (λ (w : ℕ). units f s (closest ((y * 2 ^ t + x) * 2 ^ low f) w) gone) unit-twice
      ∙ ap (λ (n : ℕ). units f s (closest n (half * unit * 2)) gone) (add-mul (y * 2 ^ t) x (2 ^ low f) ∙ ap (λ (z : ℕ). z + x * 2 ^ low f) (mul_assoc y (2 ^ t) (2 ^ low f)))

  pub round-sticky : (x x' : ℕ) → x < 2 ^ t → x' < 2 ^ t → 0 < x → 0 < x' → round f s (y * 2 ^ t + x) 1 ≡ round f s (y * 2 ^ t + x') 1
  round-sticky x x' l l' p p' =
      round-at x l
      ∙ ap (λ (n : ℕ). units f s n gone)
      (closest-sticky y half unit (x * 2 ^ low f) (x' * 2 ^ low f) (pow_pos (size y - prec f - 1)) (in-units x l) (in-units x' l') (mul-pos p (pow_pos (low f))) (mul-pos p' (pow_pos (low f))))
      ∙ sym (round-at x' l')

-- ---- the code's two sums
of_int_is : (n : ℕ) → of_int binary32 (pos n) ≡ round binary32 false n 1
unfolding of_int
of_int_is n = refl

upper-small : (n : ℕ) → n < 2 ^ 48 → n / 16777216 < 2 ^ 24
upper-small n h = omega arith

lower-small : (n : ℕ) → n % 16777216 < 2 ^ 24
lower-small n = omega arith

-- each part of 24 digits can be cast
pub upper_in : (n : ℕ) → n < 2 ^ 48 → T (in_float binary32 (pos (n / 16777216)))
unfolding in_float
upper_in n h = le→leb _ (2 ^ 24) (le_of_lt (upper-small n h))

pub lower_in : (n : ℕ) → T (in_float binary32 (pos (n % 16777216)))
unfolding in_float
lower_in n = le→leb _ (2 ^ 24) (le_of_lt (lower-small n))

pub two-parts : (n : ℕ) → n < 2 ^ 48
    → add binary32 (mul binary32 (of_int binary32 (pos (n / 16777216))) (fin false 1 (pos 24))) (of_int binary32 (pos (n % 16777216))) ≡ of_int binary32 (pos n)
two-parts n h =
    add_at binary32 _ _ (n / 16777216 * 2 ^ 24) (n % 16777216) (scaled (n / 16777216) 24 (upper-small n h) (lit≤ tt)) (whole-exact (n % 16777216) (le_of_lt (lower-small n)))
    ∙ ap (λ (z : ℕ). round binary32 false z 1) (omega arith)
    ∙ sym (of_int_is n)

-- `sticky`, where the lower 17 digits are all 0 and where not
sticky-none : (n : ℕ) → n % 131072 ≡ 0 → sticky n ≡ n / 131072 * 2
unfolding sticky
sticky-none n e = rw e (omega arith)

sticky-some : (n : ℕ) → 0 < n % 131072 → sticky n ≡ n / 131072 * 2 + 1
unfolding sticky
sticky-some n p = rw (ne_eqb (n % 131072) 0 (λ (e : n % 131072 ≡ 0). omega arith))

pub sticky-small : (n : ℕ) → n < 2 ^ 64 → sticky n < 2 ^ 48
sticky-small n b = elim (eq-zero-or-pos (n % 131072)) [ inl e ↦ omega (arith, sticky-none n e) | inr p ↦ omega (arith, sticky-some n p) ]

-- of n and of sticky n * 2 ^ 16 the rounding is the same
round-of-sticky : (n : ℕ) → 2 ^ 48 ≤ n → round binary32 false (sticky n * 65536) 1 ≡ round binary32 false n 1
round-of-sticky n big = elim (eq-zero-or-pos (n % 131072)) [ inl e ↦ ap (λ (z : ℕ). round binary32 false z 1) (omega (arith, sticky-none n e)) | inr p ↦ some p ]
  where
    many : 24 < size (n / 131072)
    many = lt_of_not-le (λ (g : size (n / 131072) ≤ 24). not-le_of_lt (lt_of_lt_of_le (size-lt (n / 131072)) (pow_mono g)) (omega arith))

    some : 0 < n % 131072 → round binary32 false (sticky n * 65536) 1 ≡ round binary32 false n 1
    some p =
        ap (λ (z : ℕ). round binary32 false z 1) (omega (arith, sticky-some n p))
        ∙ round-sticky binary32 false (n / 131072) 17 many 65536 (n % 131072) (omega arith) (omega arith) (omega arith) p
        ∙ ap (λ (z : ℕ). round binary32 false z 1) (omega arith)

pub two-parts-sticky : (n : ℕ) → 2 ^ 48 ≤ n → n < 2 ^ 64
    → add binary32 (mul binary32 (of_int binary32 (pos (sticky n / 16777216))) (fin false 1 (pos 40))) (mul binary32 (of_int binary32 (pos (sticky n % 16777216))) (fin false 1 (pos 16)))
    ≡ of_int binary32 (pos n)
two-parts-sticky n big g =
    let m = sticky n in
    add_at binary32 _ _ (m / 16777216 * 2 ^ 40) (m % 16777216 * 2 ^ 16) (scaled (m / 16777216) 40 (upper-small m (sticky-small n g)) (lit≤ tt)) (scaled (m % 16777216) 16 (lower-small m) (lit≤ tt))
    ∙ ap (λ (z : ℕ). round binary32 false z 1) (omega arith)
    ∙ round-of-sticky n big
    ∙ sym (of_int_is n)
