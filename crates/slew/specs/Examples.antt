-- The definitions, computed.
use Rattle.std.specs.Prelude.{◌≡◌, refl, true, false, pos, negsuc, Float}
use Rattle.std.specs.Float.{nan, inf, fin}
use Rattle.std.specs.Float.Ieee.{lt, eq, neg, is_nan, add, sub, mul, div}
use Rattle.number.specs.Number.{zero32, half32, one32, max32, min32}
use Rattle.slew.specs.Slew.{rate_per_sample, reach, moved, slew_step}

-- 1/4, 2 ^ -30, 32 and 64
quarter : Float
quarter = fin false 1 (negsuc 1)

small : Float
small = fin false 1 (negsuc 29)

period : Float
period = fin false 1 (pos 5)

rate64 : Float
rate64 = fin false 1 (pos 6)

-- a rise of 1 second at 64 samples a second: half of full scale in 32 samples; of 0 seconds: without limit
rises : (reach (rate_per_sample one32 rate64) period ≡ half32)
    × (reach (rate_per_sample zero32 rate64) period ≡ inf false)
unfolding rate_per_sample reach period rate64 lt eq mul div
rises = (refl, refl)

-- seconds below 0 or a NaN count as none; a product that overflows lets nothing move, one that underflows everything
odd-seconds : (rate_per_sample nan rate64 ≡ inf false) × (rate_per_sample (fin true 1 (pos 0)) rate64 ≡ inf false)
    × (rate_per_sample (fin false 1 (pos 127)) rate64 ≡ zero32)
    × (rate_per_sample (fin false 1 (negsuc 148)) half32 ≡ inf false)
unfolding rate_per_sample rate64 lt mul div
odd-seconds = (refl, refl, refl, refl)

-- no samples: no movement, also without limit
still : (reach (inf false) zero32 ≡ zero32) × (reach (inf false) (fin true 0 (pos 0)) ≡ zero32)
unfolding reach eq
still = (refl, refl)

-- document 01, case 7: from 0 towards 1 in two ticks; then a fall without limit back to 0 in one
case-7 : (slew_step half32 (inf false) zero32 zero32 one32 ≡ half32)
    × (slew_step half32 (inf false) zero32 half32 one32 ≡ one32)
    × (slew_step half32 (inf false) zero32 one32 zero32 ≡ zero32)
unfolding slew_step moved max32 min32 is_nan lt neg add sub mul
case-7 = (refl, refl, refl)

-- a slew that stands still stays, takes what is left where it snaps, and becomes a NaN where its input is a NaN or an
-- infinity
stands : (slew_step zero32 zero32 zero32 quarter one32 ≡ quarter)
    × (slew_step zero32 zero32 one32 quarter one32 ≡ one32)
    × (slew_step zero32 zero32 zero32 quarter nan ≡ nan) × (slew_step zero32 zero32 zero32 quarter (inf false) ≡ nan)
unfolding slew_step moved quarter max32 min32 is_nan lt neg add sub mul
stands = (refl, refl, refl, refl)

-- what is left is rounded before it is added: a snap, and a step without limit, need not end at the input
rounds : (slew_step zero32 zero32 one32 one32 small ≡ zero32)
    × (slew_step (inf false) (inf false) zero32 one32 small ≡ zero32)
unfolding slew_step moved small max32 min32 is_nan lt neg add sub mul
rounds = (refl, refl)
