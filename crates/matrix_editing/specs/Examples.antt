-- The definitions, computed.
use Rattle.std.specs.Prelude.{◌≡◌, refl, true, false, [], ◌∷◌, pos, negsuc, ℕ, Some, None}
use Rattle.std.specs.Float.{fin, binary32}
use Rattle.std.specs.Float.Ieee.{neg, lt, le, is_nan, sub, of_bits}
use Rattle.number.specs.Number.{zero32, half32, one32, min32, clamp_to, abs_of}
use Rattle.state.specs.declared.Target.TheVariants as T
use Rattle.state.specs.declared.Polarity.TheVariants as L
use Rattle.state.specs.declared.Slot.{Slot}
use Rattle.slots.specs.Slots.{empty_slot, route_slot}
use Rattle.matrix_editing.specs.Drag.{centre_tolerance, centred, two_way, polarity_at, one_way_room, within, depth_at}
use Rattle.matrix_editing.specs.Free.{in_use, first_free, free_source}

-- the tolerance is the Rust's constant 0.005
tolerance : of_bits binary32 0x3ba3_d70a ≡ centre_tolerance
unfolding of_bits
tolerance = refl

-- at the middle both ways, at 0.75 one way; with the toggle the other; 0.50390625 is centred and 0.5078125 is not
polarities : (polarity_at half32 false ≡ L.Bipolar) × (polarity_at (fin false 3 (negsuc 1)) false ≡ L.Unipolar)
    × (polarity_at half32 true ≡ L.Unipolar) × (polarity_at (fin false 3 (negsuc 1)) true ≡ L.Bipolar)
    × (polarity_at (fin false 129 (negsuc 7)) false ≡ L.Bipolar)
    × (polarity_at (fin false 65 (negsuc 6)) false ≡ L.Unipolar)
unfolding polarity_at two_way centred abs_of sub le
polarities = (refl, refl, refl, refl, refl, refl)

-- from 0.75: up 0.25, down 0.75, both ways 0.25; an amount inside stays; a position of 2 is the top
depths : (depth_at (fin false 3 (negsuc 1)) L.Unipolar one32 ≡ fin false 1 (negsuc 1))
    × (depth_at (fin false 3 (negsuc 1)) L.Unipolar (fin true 1 (pos 0)) ≡ fin true 3 (negsuc 1))
    × (depth_at (fin false 3 (negsuc 1)) L.Bipolar (fin true 1 (pos 0)) ≡ fin true 1 (negsuc 1))
    × (depth_at half32 L.Bipolar (fin false 1 (negsuc 3)) ≡ fin false 1 (negsuc 3))
    × (depth_at (fin false 1 (pos 1)) L.Unipolar one32 ≡ zero32)
unfolding depth_at within one_way_room clamp_to min32 is_nan lt le sub neg
depths = (refl, refl, refl, refl, refl)

-- ---- free sources

abbrev uses : ℕ → Slot
uses n = route_slot n (T.Param 7) one32 L.Bipolar

-- 4 and 5 are in use, 6 is free; with 4 and 5 alone none is
frees : (first_free (4 ∷ 6 ∷ 5 ∷ []) (uses 5 ∷ empty_slot ∷ uses 4 ∷ []) ≡ 1)
    × (first_free (4 ∷ 5 ∷ []) (uses 5 ∷ empty_slot ∷ uses 4 ∷ []) ≡ 2) × (first_free [] [] ≡ 0)
unfolding first_free in_use empty_slot route_slot
frees = (refl, refl, refl)

-- the source itself, or none
sources : (free_source (4 ∷ 6 ∷ 5 ∷ []) (uses 5 ∷ empty_slot ∷ uses 4 ∷ []) ≡ Some 6)
    × (free_source (4 ∷ 5 ∷ []) (uses 5 ∷ empty_slot ∷ uses 4 ∷ []) ≡ None)
unfolding first_free in_use empty_slot route_slot
sources = (refl, refl)
