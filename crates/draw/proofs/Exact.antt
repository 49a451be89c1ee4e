-- The draw is exact. `HasValue x false n d` (lib.Ieee.Exact) says that the float x is a finite number, that its sign is plus, and that it is n / d, no more and no less:
-- x is m * 2 ^ e, and m * 2 ^ e * d equals n. So neither the conversion of the 24 bits nor the division rounds anything (number: proofs/Exact.antt). Assumes nothing.
use Rattle.std.proofs.Common.{◌≡◌, ℕ, ◌*◌, ◌^◌, ◌<◌, true, false, T, pos, sym, refl, subst, le_of_lt, mul-lt-mul_of_pos_right, arith, lit<, ltb→lt, lt→ltb}
use lib.Dec.{not_T}
use lib.Ieee.{Float, nan, inf, fin, binary32, div, of_int, up, down, lt, le, fits}
use lib.Ieee.Bits.{is_true, is_false}
use lib.Ieee.Exact.{HasValue}
use lib.Ieee.Scale.{finite}
use lib.Ieee.Order.{le_of_values}
use lib.Ieee.Fits.{down_pos, div-fits}
use Rattle.number.proofs.Exact.{whole-exact, over-exact}
use Rattle.draw.specs.Xorshift.{draw_bits, draw_of}
use Rattle.draw.proofs.State.{draw_bits-below}

-- 16,777,216 is 1 * 2 ^ 24
pub divisor : of_int binary32 (pos 16777216) ≡ fin false 1 (pos 24)
unfolding of_int
divisor = refl

-- a whole number below 2 ^ 24 divided by 16,777,216
pub quotient-exact : (n : ℕ) → n < 2 ^ 24 → HasValue (div binary32 (of_int binary32 (pos n)) (of_int binary32 (pos 16777216))) false n (2 ^ 24)
quotient-exact n h =
    subst (λ (d : Float). HasValue (div binary32 (of_int binary32 (pos n)) d) false n (2 ^ 24)) (sym divisor)
    (over-exact (of_int binary32 (pos n)) n 24 (le_of_lt h) (omega arith) (whole-exact n (le_of_lt h)))

-- the number drawn is its 24 bits over 2 ^ 24
pub draw-exact : (x : ℕ) → HasValue (draw_of x) false (draw_bits x) (2 ^ 24)
unfolding draw_of
draw-exact x = quotient-exact (draw_bits x) (draw_bits-below x)

-- ---- what follows for any float that is exactly n / 2 ^ 24
value-finite : (z : Float) (a c : ℕ) → HasValue z false a c → finite z ≡ true
value-finite nan a c v = absurd v
value-finite (inf s) a c v = absurd v
value-finite (fin s m e) a c v = refl

below_one : (z : Float) (n : ℕ) → n < 2 ^ 24 → HasValue z false n (2 ^ 24) → T (lt z (fin false 1 (pos 0)))
unfolding lt
below_one nan n h v = absurd v
below_one (inf s) n h v = absurd v
below_one (fin true m e) n h v = absurd (subst T v.0 tt)
below_one (fin false m e) n h v =
    lt→ltb (m * up e * 1) (1 * 1 * down e) (omega (arith, v.1, mul-lt-mul_of_pos_right h (down_pos e)))

not-below-zero : (z : Float) (a c : ℕ) → HasValue z false a c → T (lt z (fin false 0 (pos 0))) → ⊥
unfolding lt
not-below-zero nan a c v t = t
not-below-zero (inf s) a c v t = v
not-below-zero (fin true m e) a c v t = subst T v.0 tt
not-below-zero (fin false m e) a c v t = let l = ltb→lt (m * up e * 1) (0 * 1 * down e) t in omega arith

-- the number drawn is finite, from 0 on, not below 0, and below 1
pub draw-finite : (x : ℕ) → finite (draw_of x) ≡ true
draw-finite x = value-finite (draw_of x) (draw_bits x) (2 ^ 24) (draw-exact x)

pub draw-from-zero : (x : ℕ) → le (fin false 0 (pos 0)) (draw_of x) ≡ true
draw-from-zero x = is_true _ (le_of_values (fin false 0 (pos 0)) (draw_of x) 0 1 (draw_bits x) (2 ^ 24) (lit< tt) (lit< tt) (refl, refl) (draw-exact x) (omega arith))

pub draw-not-below-zero : (x : ℕ) → lt (draw_of x) (fin false 0 (pos 0)) ≡ false
draw-not-below-zero x = is_false _ (not_T (lt (draw_of x) (fin false 0 (pos 0))) (not-below-zero (draw_of x) (draw_bits x) (2 ^ 24) (draw-exact x)))

pub draw-below-one : (x : ℕ) → lt (draw_of x) (fin false 1 (pos 0)) ≡ true
draw-below-one x = is_true _ (below_one (draw_of x) (draw_bits x) (draw_bits-below x) (draw-exact x))

-- it is a binary32, written in the one way
pub draw-fits : (x : ℕ) → T (fits binary32 (draw_of x))
unfolding draw_of
draw-fits x = div-fits binary32 _ _
