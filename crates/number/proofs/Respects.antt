-- The operations respect document 01's comparison: of numbers that are the same they give numbers that are the same.
-- Division does not: 1 over the two zeros is the two infinities.
-- One law for each operation: one file, long as it is.
use Rattle.std.proofs.Common.{◌≡◌, ℕ, zero, suc, ◌*◌, ◌<◌, Bool, true, false, cond, ◌||◌, T, eqb, pos, sym, refl, ◌∙◌, add-zero, zero-lt-suc, mul-pos, mul-zero, zero-add, zero-mul, arith, le-ltb, lt-ltb}
use native.Mathlib.Nat.{sub-zero}
use lib.Dec.{eqb-zero-suc, eqb-suc-zero}
use lib.Ieee.{Float, nan, inf, fin, Format, binary32, unlike, up, down, below, level, round, neg, sum, add, sub, mul, lt, eq, is_nan, to_unsigned, fits}
use lib.Ieee.Fits.{down_pos, round-fits}
use lib.Ieee.Scale.{round_same}
use lib.Ieee.Back.{round_whole, whole_unique}
use Rattle.number.specs.Number.{plus, less, times, finite, max32, min32, hold, clamp_to, abs_of, whole_part}
use Rattle.number.specs.Same.{◌≈◌, equal, zeros}
use Rattle.number.proofs.Laws.{no}
use Rattle.number.proofs.Same.{same-of-eq, same-sym, same-trans}

-- ---- an operation, and a test, of two numbers that takes a zero for the other on either side
by-sides : (g : Float → Float → Float) → ((s t : Bool) (y : Float) → g (fin s 0 (pos 0)) y ≈ g (fin t 0 (pos 0)) y) → ((s t : Bool) (x : Float) → g x (fin s 0 (pos 0)) ≈ g x (fin t 0 (pos 0)))
    → {x x' y y' : Float} → x ≈ x' → y ≈ y' → g x y ≈ g x' y'
by-sides g l r equal equal = equal
by-sides g l r {y = y} (zeros {s = s} {t = t}) equal = l s t y
by-sides g l r {x = x} equal (zeros {s = s} {t = t}) = r s t x
by-sides g l r (zeros {s = s} {t = t}) (zeros {s = u} {t = v}) = same-trans (l s t (fin u 0 (pos 0))) (r u v (fin t 0 (pos 0)))

by-sides-test : (g : Float → Float → Bool) → ((s t : Bool) (y : Float) → g (fin s 0 (pos 0)) y ≡ g (fin t 0 (pos 0)) y) → ((s t : Bool) (x : Float) → g x (fin s 0 (pos 0)) ≡ g x (fin t 0 (pos 0)))
    → {x x' y y' : Float} → x ≈ x' → y ≈ y' → g x y ≡ g x' y'
by-sides-test g l r equal equal = refl
by-sides-test g l r {y = y} (zeros {s = s} {t = t}) equal = l s t y
by-sides-test g l r {x = x} equal (zeros {s = s} {t = t}) = r s t x
by-sides-test g l r (zeros {s = s} {t = t}) (zeros {s = u} {t = v}) = l s t (fin u 0 (pos 0)) ∙ r u v (fin t 0 (pos 0))

-- ---- a zero is rounded to the zero of its sign
zero-fits : (f : Format) (s : Bool) → T (fits f (fin s 0 (pos 0)))
unfolding fits
zero-fits f s = tt

pub round-zero : (f : Format) (s : Bool) (c : ℕ) → 0 < c → round f s 0 c ≡ fin s 0 (pos 0)
round-zero f s c C =
    round_same f s 0 c 0 1 C (zero-lt-suc 0) (zero-mul 1 ∙ sym (zero-mul c))
    ∙ whole_unique f (round f s 0 1) (fin s 0 (pos 0)) s 0 (round-fits f s 0 1) (zero-fits f s) (round_whole f s 0 (omega arith)) (refl, refl)

round-zeros : (f : Format) (s t : Bool) (a b c : ℕ) → 0 < c → a ≡ 0 → b ≡ 0 → round f s a c ≈ round f t b c
round-zeros f s t a b c C p q = rw (p, q, round-zero f s c C, round-zero f t c C) zeros

-- ---- the sum: a zero and b / c give b / c rounded, whatever the zero's sign
sum-zero-left : (f : Format) (s t : Bool) (b c : ℕ) → 0 < c → sum f s 0 t b c ≈ round f t b c
unfolding sum
sum-zero-left f true true b c C = same-of-eq (rw (zero-add b))
sum-zero-left f false false b c C = same-of-eq (rw (zero-add b))
sum-zero-left f true false zero c C = round-zeros f _ false _ 0 c C refl refl
sum-zero-left f false true zero c C = round-zeros f _ true _ 0 c C refl refl
sum-zero-left f true false (suc b) c C = same-of-eq (rw (lt-ltb 0 (suc b) (zero-lt-suc b), sub-zero))
sum-zero-left f false true (suc b) c C = same-of-eq (rw (lt-ltb 0 (suc b) (zero-lt-suc b), sub-zero))

sum-zero-right : (f : Format) (s t : Bool) (a c : ℕ) → 0 < c → sum f s a t 0 c ≈ round f s a c
unfolding sum
sum-zero-right f true true a c C = same-of-eq (rw (add-zero a))
sum-zero-right f false false a c C = same-of-eq (rw (add-zero a))
sum-zero-right f true false zero c C = round-zeros f _ true _ 0 c C refl refl
sum-zero-right f false true zero c C = round-zeros f _ false _ 0 c C refl refl
sum-zero-right f true false (suc a) c C = same-of-eq (rw (le-ltb (suc a) 0 (omega arith), lt-ltb 0 (suc a) (zero-lt-suc a), sub-zero))
sum-zero-right f false true (suc a) c C = same-of-eq (rw (le-ltb (suc a) 0 (omega arith), sub-zero))

zero-sum : (f : Format) (s t u : Bool) (a b c : ℕ) → 0 < c → a ≡ 0 → sum f s a u b c ≈ sum f t a u b c
zero-sum f s t u a b c C p = rw p (same-trans (sum-zero-left f s u b c C) (same-sym (sum-zero-left f t u b c C)))

sum-zero : (f : Format) (s t u : Bool) (a b c : ℕ) → 0 < c → b ≡ 0 → sum f u a s b c ≈ sum f u a t b c
sum-zero f s t u a b c C p = rw p (same-trans (sum-zero-right f u s a c C) (same-sym (sum-zero-right f u t a c C)))

zero-add-same : (f : Format) (s t : Bool) (y : Float) → add f (fin s 0 (pos 0)) y ≈ add f (fin t 0 (pos 0)) y
unfolding add
zero-add-same f s t nan = equal
zero-add-same f s t (inf u) = equal
zero-add-same f s t (fin u n d) = zero-sum f s t u _ _ _ (mul-pos (zero-lt-suc 0) (down_pos d)) (zero-mul (down d))

add-zero-same : (f : Format) (s t : Bool) (x : Float) → add f x (fin s 0 (pos 0)) ≈ add f x (fin t 0 (pos 0))
unfolding add
add-zero-same f s t nan = equal
add-zero-same f s t (inf u) = equal
add-zero-same f s t (fin u m e) = sum-zero f s t u _ _ _ (mul-pos (down_pos e) (zero-lt-suc 0)) (zero-mul (down e))

pub add_same : (f : Format) {x x' y y' : Float} → x ≈ x' → y ≈ y' → add f x y ≈ add f x' y'
add_same f = by-sides (add f) (zero-add-same f) (add-zero-same f)

pub neg_same : {x x' : Float} → x ≈ x' → neg x ≈ neg x'
unfolding neg
neg_same equal = equal
neg_same zeros = zeros

pub sub_same : (f : Format) {x x' y y' : Float} → x ≈ x' → y ≈ y' → sub f x y ≈ sub f x' y'
unfolding sub
sub_same f p q = add_same f p (neg_same q)

-- ---- the product with a zero is a zero, and NaN with an infinity
zero-mul-same : (f : Format) (s t : Bool) (y : Float) → mul f (fin s 0 (pos 0)) y ≈ mul f (fin t 0 (pos 0)) y
unfolding mul
zero-mul-same f s t nan = equal
zero-mul-same f s t (inf u) = equal
zero-mul-same f s t (fin u n d) = round-zeros f (unlike s u) (unlike t u) _ _ _ (mul-pos (zero-lt-suc 0) (down_pos d)) (zero-mul (n * up d)) (zero-mul (n * up d))

mul-zero-same : (f : Format) (s t : Bool) (x : Float) → mul f x (fin s 0 (pos 0)) ≈ mul f x (fin t 0 (pos 0))
unfolding mul
mul-zero-same f s t nan = equal
mul-zero-same f s t (inf u) = equal
mul-zero-same f s t (fin u m e) = round-zeros f (unlike u s) (unlike u t) _ _ _ (mul-pos (down_pos e) (zero-lt-suc 0)) (mul-zero (m * up e)) (mul-zero (m * up e))

pub mul-same : (f : Format) {x x' y y' : Float} → x ≈ x' → y ≈ y' → mul f x y ≈ mul f x' y'
mul-same f = by-sides (mul f) (zero-mul-same f) (mul-zero-same f)

-- ---- by document 01's names
pub plus-same : {x x' y y' : Float} → x ≈ x' → y ≈ y' → plus x y ≈ plus x' y'
plus-same = add_same binary32

pub less-same : {x x' y y' : Float} → x ≈ x' → y ≈ y' → less x y ≈ less x' y'
less-same = sub_same binary32

pub times-same : {x x' y y' : Float} → x ≈ x' → y ≈ y' → times x y ≈ times x' y'
times-same = mul-same binary32

-- ---- the comparisons
zero-below : (s t u : Bool) (a b : ℕ) → a ≡ 0 → below s a u b ≡ below t a u b
zero-below true true u a b p = refl
zero-below false false u a b p = refl
zero-below true false true a b p = rw p (le-ltb b 0 (omega arith))
zero-below false true true a b p = rw p (sym (le-ltb b 0 (omega arith)))
zero-below true false false a b p = rw (p, zero-add b)
zero-below false true false a b p = rw (p, zero-add b)

below-zero : (s t u : Bool) (a b : ℕ) → b ≡ 0 → below u a s b ≡ below u a t b
below-zero true true u a b p = refl
below-zero false false u a b p = refl
below-zero true false true a b p = rw (p, add-zero a)
below-zero false true true a b p = rw (p, add-zero a)
below-zero true false false a b p = rw p (sym (le-ltb a 0 (omega arith)))
below-zero false true false a b p = rw p (le-ltb a 0 (omega arith))

zero-lt : (s t : Bool) (y : Float) → lt (fin s 0 (pos 0)) y ≡ lt (fin t 0 (pos 0)) y
unfolding lt
zero-lt s t nan = refl
zero-lt s t (inf u) = refl
zero-lt s t (fin u n d) = zero-below s t u _ _ (zero-mul (down d))

lt-zero : (s t : Bool) (x : Float) → lt x (fin s 0 (pos 0)) ≡ lt x (fin t 0 (pos 0))
unfolding lt
lt-zero s t nan = refl
lt-zero s t (inf u) = refl
lt-zero s t (fin u m e) = below-zero s t u _ _ (zero-mul (down e))

pub lt_same : {x x' y y' : Float} → x ≈ x' → y ≈ y' → lt x y ≡ lt x' y'
lt_same = by-sides-test lt zero-lt lt-zero

-- where one of two sizes is 0, the signs do not matter
zero-level : (s u : Bool) (b : ℕ) → level s 0 u b ≡ eqb 0 b
zero-level true true zero = refl
zero-level true false zero = refl
zero-level false true zero = refl
zero-level false false zero = refl
zero-level s u (suc b) = rw (eqb-zero-suc b)

level-zero : (s u : Bool) (a : ℕ) → level u a s 0 ≡ eqb a 0
level-zero true true zero = refl
level-zero true false zero = refl
level-zero false true zero = refl
level-zero false false zero = refl
level-zero s u (suc a) = rw (eqb-suc-zero a)

zero-eq : (s t : Bool) (y : Float) → eq (fin s 0 (pos 0)) y ≡ eq (fin t 0 (pos 0)) y
unfolding eq
zero-eq s t nan = refl
zero-eq s t (inf u) = refl
zero-eq s t (fin u n d) = rw (zero-mul (down d)) (zero-level s u (n * up d * 1) ∙ sym (zero-level t u (n * up d * 1)))

eq-zero : (s t : Bool) (x : Float) → eq x (fin s 0 (pos 0)) ≡ eq x (fin t 0 (pos 0))
unfolding eq
eq-zero s t nan = refl
eq-zero s t (inf u) = refl
eq-zero s t (fin u m e) = rw (zero-mul (down e)) (level-zero s u (m * up e * 1) ∙ sym (level-zero t u (m * up e * 1)))

pub eq-same : {x x' y y' : Float} → x ≈ x' → y ≈ y' → eq x y ≡ eq x' y'
eq-same = by-sides-test eq zero-eq eq-zero

pub is_nan-same : {x x' : Float} → x ≈ x' → is_nan x ≡ is_nan x'
unfolding is_nan
is_nan-same equal = refl
is_nan-same zeros = refl

pub finite-same : {x x' : Float} → x ≈ x' → finite x ≡ finite x'
unfolding finite
finite-same equal = refl
finite-same zeros = refl

-- ---- choices by a comparison
either : {a a' b b' : Bool} → a ≡ a' → b ≡ b' → (a || b) ≡ (a' || b')
either p q = cc

pub cond_same : {x x' y y' : Float} (b b' : Bool) → b ≡ b' → x ≈ x' → y ≈ y' → cond b x y ≈ cond b' x' y'
cond_same true true e p q = p
cond_same true false e p q = absurd (no (sym e))
cond_same false true e p q = absurd (no e)
cond_same false false e p q = q

pub max-same : {x x' y y' : Float} → x ≈ x' → y ≈ y' → max32 x y ≈ max32 x' y'
unfolding max32
max-same p q = cond_same _ _ (either (is_nan-same p) (lt_same p q)) q p

pub min-same : {x x' y y' : Float} → x ≈ x' → y ≈ y' → min32 x y ≈ min32 x' y'
unfolding min32
min-same p q = cond_same _ _ (either (is_nan-same p) (lt_same q p)) q p

pub hold-same : {lo lo' hi hi' x x' : Float} → lo ≈ lo' → hi ≈ hi' → x ≈ x' → hold lo hi x ≈ hold lo' hi' x'
unfolding hold
hold-same p q r = min-same (max-same r p) q

pub clamp-same : {lo lo' hi hi' x x' : Float} → lo ≈ lo' → hi ≈ hi' → x ≈ x' → clamp_to lo hi x ≈ clamp_to lo' hi' x'
unfolding clamp_to
clamp-same p q r = cond_same _ _ (lt_same r p) p (cond_same _ _ (lt_same q r) q r)

pub abs-same : {x x' : Float} → x ≈ x' → abs_of x ≡ abs_of x'
unfolding abs_of
abs-same equal = refl
abs-same zeros = refl

pub whole-part-same : {x x' : Float} → x ≈ x' → whole_part x ≡ whole_part x'
unfolding to_unsigned
whole-part-same equal = refl
whole-part-same (zeros {s = true} {t = true}) = refl
whole-part-same (zeros {s = true} {t = false}) = refl
whole-part-same (zeros {s = false} {t = true}) = refl
whole-part-same (zeros {s = false} {t = false}) = refl
