-- The definitions, computed.
use Rattle.std.specs.Prelude.{◌≡◌, refl, false, [], ◌∷◌, pos}
use Rattle.std.specs.Float.{nan, inf, fin}
use Rattle.std.specs.Float.Ieee.{neg, is_nan, lt, le, add, sub, mul, div, of_int, to_unsigned}
use Rattle.refusal.specs.Judge.{judged}
use Rattle.number.specs.Number.{zero32, half32, one32, finite, max32, clamp_to}
use Rattle.curve_table.specs.Table.{position, cell_of, part_of, lookup_of, allowed, all_allowed, table_code}
use Rattle.curve_table.specs.Curve.{seconds_of, seconds_finite, curve_code}
use Rattle.curve_table.specs.declared.Curve.TheVariants as C
use Rattle.curve.specs.CurveCalls.{lookup_call, slew_call, diagonal_table}

-- the diagonal is accepted, and 0.5 and a NaN are looked up in it
accepted : (lookup_call diagonal_table half32 ≡ record { code = 0; value = half32 })
    × (lookup_call diagonal_table nan ≡ record { code = 0; value = nan })
unfolding lookup_call diagonal_table table_code judged all_allowed allowed finite le lookup_of position cell_of part_of
    clamp_to lt add sub mul div of_int to_unsigned
accepted = (refl, refl)

-- a short table is row 15, and row 6 where it holds a 17
refused : (lookup_call (one32 ∷ []) half32 ≡ record { code = 15; value = zero32 })
    × (lookup_call (fin false 17 (pos 0) ∷ []) half32 ≡ record { code = 6; value = zero32 })
unfolding lookup_call table_code judged all_allowed allowed finite le
refused = (refl, refl)

-- a fall below 0 is 0, and a linear curve has no seconds; an infinite rise or a NaN is row 6
slews : (slew_call (C.Table half32 (neg one32))
    ≡ record { code = 0; seconds = record { rise = half32; fall = zero32 } })
    × (slew_call C.Linear ≡ record { code = 0; seconds = record { rise = zero32; fall = zero32 } })
    × (slew_call (C.Table (inf false) zero32) ≡ record { code = 6; seconds = record { rise = zero32; fall = zero32 } })
    × (slew_call (C.Table half32 nan) ≡ record { code = 6; seconds = record { rise = zero32; fall = zero32 } })
unfolding slew_call curve_code judged seconds_finite seconds_of finite max32 is_nan neg lt
slews = (refl, refl, refl, refl)
