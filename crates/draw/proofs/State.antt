-- The state 0 stays 0, a state of 64 bits stays one, and the bits drawn are 24. Assumes nothing.
use Rattle.std.proofs.Common.{◌≡◌, ℕ, ◌*◌, ◌/◌, ◌%◌, ◌^◌, ◌<◌, refl, lt_of_le_of_lt, mod-lt, div-le_self, arith, pow_pos}
use lib.Bits.{xor_lt}
use Rattle.draw.specs.Xorshift.{step, scrambled, draw_bits, xor_right, xor_left}

pub step-zero : step 0 ≡ 0
unfolding step
step-zero = refl

xor_right-below : (a x : ℕ) → x < 2 ^ 64 → xor_right a x < 2 ^ 64
xor_right-below a x h = xor_lt 64 x (x / 2 ^ a) h (lt_of_le_of_lt (div-le_self x (2 ^ a)) h)

xor_left-below : (b x : ℕ) → x < 2 ^ 64 → xor_left b x < 2 ^ 64
xor_left-below b x h = xor_lt 64 x (x * 2 ^ b % 2 ^ 64) h (mod-lt (x * 2 ^ b) (pow_pos 64))

pub step-below : (x : ℕ) → x < 2 ^ 64 → step x < 2 ^ 64
unfolding step
step-below x h = xor_right-below 27 _ (xor_left-below 25 _ (xor_right-below 12 x h))

pub draw_bits-below : (x : ℕ) → draw_bits x < 2 ^ 24
unfolding draw_bits scrambled
draw_bits-below x = omega arith
