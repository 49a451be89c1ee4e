-- Which configurations are refused (document 01, Constants, and rows 6 and 13). Definitions only.
use Rattle.std.specs.Prelude.{◌≡◌, refl, true, false, not, ◌||◌, List, [], ◌∷◌, ℕ, ltb, pos, Float}
use Rattle.std.specs.Float.{nan, inf, fin}
use Rattle.std.specs.Float.Ieee.{le}
use Rattle.refusal.specs.Judge.{Row, ◌when◌, judged}
use Rattle.number.specs.Number.{zero32, one32, finite}
use Rattle.config.specs.Sizes.{most_frames, most_voices}

-- "sample rate finite and above 0", "frames 0 to 4,096", "voices 0 to 64"; a rate that is not finite is row 6, the
-- lower number
abbrev pub config_rows : Float → ℕ → ℕ → List Row
config_rows rate frames voices =
    6 when not (finite rate)
    ∷ 13 when (le rate zero32 || (ltb most_frames frames || ltb most_voices voices))
    ∷ []

unfoldable pub config_code : Float → ℕ → ℕ → ℕ
unfolding judged
config_code rate frames voices = judged (config_rows rate frames voices)

-- accepted at the edges; a rate that is infinite beside too many frames is 6; a rate of 0, and one frame or voice too
-- many, is 13
edges : (config_code one32 4096 64 ≡ 0) × (config_code one32 0 0 ≡ 0) × (config_code (inf false) 5000 0 ≡ 6)
    × (config_code nan 0 0 ≡ 6) × (config_code zero32 0 0 ≡ 13) × (config_code one32 4097 0 ≡ 13)
    × (config_code one32 0 65 ≡ 13) × (config_code (fin true 1 (pos 0)) 0 0 ≡ 13)
unfolding config_code finite le
edges = (refl, refl, refl, refl, refl, refl, refl, refl)
