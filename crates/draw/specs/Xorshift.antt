-- xorshift64*: S. Vigna, "An experimental exploration of Marsaglia's xorshift generators, scrambled". The state is a
-- number below 2 ^ 64. A draw steps the state by three shifts and xors, and reads its number off the state after,
-- multiplied ("scrambled"); document 01, "Chunk and value", draws; engine.rs 690-697. Definitions and examples only.
-- Assumes nothing.
use Rattle.std.specs.Prelude.{◌≡◌, ℕ, zero, suc, ◌*◌, ◌/◌, ◌%◌, ◌^◌, false, List, [], ◌∷◌, pos, negsuc, bit_xor, refl}
use Rattle.std.specs.Prelude.{Float}
use Rattle.std.specs.Float.{fin, binary32}
use Rattle.std.specs.Float.Ieee.{div, of_int}

-- The paper's x ^= x >> a.
abbrev pub xor_right : ℕ → ℕ → ℕ
xor_right a x = bit_xor x (x / 2 ^ a)

-- The paper's x ^= x << b, in 64 bits.
abbrev pub xor_left : ℕ → ℕ → ℕ
xor_left b x = bit_xor x (x * 2 ^ b % 2 ^ 64)

-- The state after. The paper's step is x ^= x >> a; x ^= x << b; x ^= x >> c, with the amounts 12, 25 and 27.
unfoldable pub step : ℕ → ℕ
step x = xor_right 27 (xor_left 25 (xor_right 12 x))

-- The output that the paper reads off a state: its product with the multiplier that goes with those amounts, in 64
-- bits.
unfoldable pub scrambled : ℕ → ℕ
scrambled x = x * 2685821657736338717 % 2 ^ 64

-- The upper 24 bits of that output: document 01, "Each draw is 24 bits over 16,777,216"; engine.rs 696.
unfoldable pub draw_bits : ℕ → ℕ
draw_bits x = scrambled x / 2 ^ 40

-- The number drawn at a state: those bits over 16,777,216, by binary32's division (the same places).
unfoldable pub draw_of : ℕ → Float
draw_of x = div binary32 (of_int binary32 (pos (draw_bits x))) (of_int binary32 (pos 16777216))

-- ---- examples

-- case 12 of document 01
pub case12 : step 1 ≡ 33554433
unfolding step
case12 = refl

-- what is drawn there
pub output-one : scrambled (step 1) ≡ 5180492295206395165
unfolding step scrambled
output-one = refl

pub bits-one : draw_bits (step 1) ≡ 4711630
unfolding step scrambled draw_bits
bits-one = refl

-- 4,711,630 is 2 * 2,355,815, and 2 ^ -23 is `negsuc 22`
pub draw-one : draw_of (step 1) ≡ fin false 2355815 (negsuc 22)
unfolding step scrambled draw_bits draw_of of_int div
draw-one = refl

-- The upper halves of the first outputs from a state on. Those from 1234567 are those of Rosetta Code's task
-- "Pseudo-random numbers/Xorshift star" as remembered; neither that page nor the paper was opened.
upper_halves : ℕ → ℕ → List ℕ
unfolding step scrambled
upper_halves zero x = []
upper_halves (suc n) x = scrambled (step x) / 2 ^ 32 ∷ upper_halves n (step x)

remembered : upper_halves 5 1234567 ≡ 3540625527 ∷ 2750739987 ∷ 4037983143 ∷ 1993361440 ∷ 3809424708 ∷ []
unfolding step scrambled upper_halves
remembered = refl
