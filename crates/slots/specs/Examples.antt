-- The definitions, computed.
use Rattle.std.specs.Prelude.{◌≡◌, refl, true, false, [], ◌∷◌, pos, negsuc}
use Rattle.std.specs.Float.{nan, inf, fin}
use Rattle.std.specs.Float.Ieee.{lt}
use Rattle.number.specs.Number.{zero32, one32, finite, clamp_to}
use Rattle.curve_table.specs.Curve.{seconds_finite}
use Rattle.curve_table.specs.declared.Curve.TheVariants as C
use Rattle.state.specs.declared.Target.TheVariants as T
use Rattle.state.specs.declared.Polarity.TheVariants as L
use Rattle.state.specs.declared.Slot.{Slot}
use Rattle.slots.specs.Slots.{minus_one32, empty_slot, is_empty_slot, route_slot, kept_amount, kept_output, with_amount}
use Rattle.slots.specs.Slots.{with_source_curve, numbers_finite, all_finite, first_empty, count_aims}

-- document 01, case 11: 1.5 is kept as 1, -2 as -1; an output of -2 is kept as 0
case-11 : (kept_amount (fin false 3 (negsuc 0)) ≡ one32) × (kept_amount (fin true 1 (pos 1)) ≡ minus_one32)
    × (kept_output (fin true 1 (pos 1)) ≡ zero32)
unfolding kept_amount kept_output clamp_to lt
case-11 = (refl, refl, refl)

route : Slot
route = route_slot 5 (T.Param 7) one32 L.Bipolar

-- a slot that nothing is assigned to is the first empty one; where none is, their number
first : (first_empty (route ∷ empty_slot ∷ route ∷ []) ≡ 1) × (first_empty (route ∷ route ∷ []) ≡ 2)
unfolding first_empty is_empty_slot empty_slot route_slot route
first = (refl, refl)

-- an amount, or the seconds of a table, that are not finite
not_finite : (all_finite (route ∷ empty_slot ∷ []) ≡ true)
    × (all_finite (route ∷ with_amount (inf true) empty_slot ∷ []) ≡ false)
    × (all_finite (with_source_curve (C.Table zero32 nan) route ∷ []) ≡ false)
unfolding all_finite numbers_finite finite seconds_finite with_amount with_source_curve empty_slot route_slot route
not_finite = (refl, refl, refl)

-- an LFO bus is no parameter
aimed : (count_aims (T.Param 7) (route ∷ empty_slot ∷ route ∷ []) ≡ 2)
    × (count_aims (T.LfoBus 7 0) (route ∷ empty_slot ∷ route ∷ []) ≡ 0)
unfolding count_aims empty_slot route_slot route
aimed = (refl, refl)
