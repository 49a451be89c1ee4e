-- The definitions, computed.
use Rattle.std.specs.Prelude.{◌≡◌, refl, true, false, cond, [], ◌∷◌, eqb, pos, negsuc}
use Rattle.std.specs.Float.{nan, inf, fin}
use Rattle.std.specs.Float.Ieee.{lt, le, neg, is_nan, add, sub, mul, div, of_int, to_unsigned}
use Rattle.refusal.specs.Judge.{judged}
use Rattle.number.specs.Number.{zero32, half32, one32, finite, max32, clamp_to, nearest32}
use Rattle.curve_table.specs.Table.{cells32, position, cell_of, part_of, lookup_of, most32, least32, allowed}
use Rattle.curve_table.specs.Table.{all_allowed, table_code, from_index, tabulated, diagonal_at}
use Rattle.curve_table.specs.Curve.{seconds_of, seconds_finite, curve_code}
use Rattle.curve_table.specs.declared.Curve.TheVariants as C

-- the constants are the numbers that they are named for
constants : (nearest32 512 ≡ cells32) × (nearest32 16 ≡ most32) × (neg most32 ≡ least32)
unfolding of_int neg
constants = (refl, refl, refl)

-- document 01, case 6: the table i / 512 at -3, 0.5 and 1
case-6 : (lookup_of (tabulated diagonal_at) (fin true 3 (pos 0)) ≡ zero32)
    × (lookup_of (tabulated diagonal_at) half32 ≡ half32) × (lookup_of (tabulated diagonal_at) one32 ≡ one32)
unfolding lookup_of position cell_of part_of clamp_to lt add sub mul div of_int to_unsigned
case-6 = (refl, refl, refl)

-- the infinities are held to 0 and 1; a NaN yields a NaN
ends : (lookup_of (tabulated diagonal_at) (inf true) ≡ zero32) × (lookup_of (tabulated diagonal_at) (inf false) ≡ one32)
    × (lookup_of (tabulated diagonal_at) nan ≡ nan)
unfolding lookup_of position cell_of part_of clamp_to lt add sub mul div of_int to_unsigned
ends = (refl, refl, refl)

-- the position is cut, not rounded: 0.75 / 512 lies in cell 0; 1 lies at the end of cell 511, a NaN in cell 0
cells : (cell_of (fin false 3 (negsuc 10)) ≡ 0) × (cell_of one32 ≡ 511) × (part_of one32 ≡ one32) × (cell_of nan ≡ 0)
    × (part_of nan ≡ nan)
unfolding position cell_of part_of clamp_to lt add sub mul of_int to_unsigned
cells = (refl, refl, refl, refl, refl)

-- at 1 the difference of the last two points is rounded before it is added: from 1 to 2 ^ -30 it arrives at 0
last-point : lookup_of (tabulated (λ i. cond (eqb i 512) (fin false 1 (negsuc 29)) one32)) one32 ≡ zero32
unfolding lookup_of position cell_of part_of clamp_to lt add sub mul of_int to_unsigned
last-point = refl

-- 16 and -16 are allowed, the next number above 16, a NaN and an infinity are not
bounds : (allowed most32 ≡ true) × (allowed least32 ≡ true) × (allowed (fin false 8388609 (negsuc 18)) ≡ false)
    × (allowed nan ≡ false) × (allowed (inf true) ≡ false)
unfolding allowed finite le
bounds = (refl, refl, refl, refl, refl)

-- 513 numbers are accepted, 512 are row 15; a NaN is row 6 at any length, and so is a 17 at the 514th place
codes : (table_code (tabulated (λ i. half32)) ≡ 0) × (table_code (from_index (λ i. half32) 0 512) ≡ 15)
    × (table_code (nan ∷ []) ≡ 6) ×
    (table_code (from_index (λ i. cond (eqb i 513) (fin false 17 (pos 0)) half32) 0 514) ≡ 6)
unfolding table_code judged all_allowed allowed finite le
codes = (refl, refl, refl, refl)

-- seconds below 0 and a NaN are taken as 0; -0 stays
seconds : (seconds_of (C.Table (fin true 1 (pos 0)) half32) ≡ record { rise = zero32; fall = half32 })
    × (seconds_of (C.Table nan (fin true 0 (pos 0))) ≡ record { rise = zero32; fall = fin true 0 (pos 0) })
    × (seconds_of C.Linear ≡ record { rise = zero32; fall = zero32 })
unfolding seconds_of max32 is_nan lt
seconds = (refl, refl, refl)

-- a NaN as seconds is row 6; a linear curve has none
curve-codes : (curve_code (C.Table half32 nan) ≡ 6) × (curve_code (C.Table (inf true) half32) ≡ 6)
    × (curve_code (C.Table half32 (fin true 1 (pos 0))) ≡ 0) × (curve_code C.Linear ≡ 0)
unfolding curve_code seconds_finite judged finite
curve-codes = (refl, refl, refl, refl)
