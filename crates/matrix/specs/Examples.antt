-- The definitions, computed.
use Rattle.std.specs.Prelude.{◌≡◌, refl, true, false, [], ◌∷◌, ◌-◌, negsuc, replicate}
use Rattle.std.specs.Float.{nan, inf, fin}
use Rattle.std.specs.Float.Ieee.{neg, is_nan, sub, lt, le}
use Rattle.refusal.specs.Judge.{judged}
use Rattle.list.specs.Part.{part}
use Rattle.list.specs.Rows.{row_at}
use Rattle.number.specs.Number.{zero32, half32, one32, finite, min32, abs_of, clamp_to}
use Rattle.config.specs.Sizes.{slots}
use Rattle.curve_table.specs.Table.{allowed, all_allowed}
use Rattle.curve_table.specs.Curve.{seconds_finite}
use Rattle.curve_table.specs.declared.Curve.TheVariants as C
use Rattle.std.specs.Prelude.{Some}
use Rattle.state.specs.declared.Target.TheVariants as T
use Rattle.state.specs.declared.Polarity.TheVariants as L
use Rattle.state.specs.declared.NoteCurve.TheVariants as N
use Rattle.state.specs.declared.Slot.{Slot}
use Rattle.state.specs.declared.Matrix.{Matrix}
use Rattle.slots.specs.Slots.{empty_slot, is_empty_slot, first_empty, route_slot, kept_amount, cleared, count_aims}
use Rattle.slots.specs.Slots.{numbers_finite, all_finite, with_amount, with_aux, with_source_curve}
use Rattle.slots_tables.specs.Tables.{slot_names, any_names, names_table, place_allowed, slot_allowed, slots_allowed}
use Rattle.slots_tables.specs.Tables.{named_allowed}
use Rattle.matrix_sorting.specs.Keys.{key_of}
use Rattle.matrix_sorting.specs.Order.{before, count_before, rank_of, ranks, places_of, sorted_places}
use Rattle.matrix_sorting.specs.Moved.{slots_at}
use Rattle.slots.specs.Matrix.{new_matrix, slot_of, with_slots, with_slot, with_velocity}
use Rattle.slots_tables.specs.Rows.{curve_allowed}
use Rattle.matrix.specs.Edits.{answered, edited, placed, tabled, slot_at, set_slot, add_route, set_slot_amount}
use Rattle.matrix.specs.Edits.{remove_destination, set_curve, sorted_from, matrix_allowed, sort_slots, load_matrix}
use Rattle.matrix_editing.specs.Drag.{both_finite, centred, two_way, polarity_at, one_way_room, within, depth_at}
use Rattle.matrix_editing.specs.Drag.{dragged_amount}
use Rattle.matrix_editing.specs.Free.{in_use, first_free}
use Rattle.matrix.specs.Routes.{drag_route, add_vibrato, create_vibrato, create_velocity_to_amp, drag_polarity}
use Rattle.matrix.specs.Routes.{limit_depth}
use Rattle.matrix.specs.declared.CurveSlot.TheVariants as W
use Rattle.matrix.specs.Place as P
use Rattle.matrix.specs.declared.SortBy.TheVariants as S

-- the last slot is there; the number of slots is row 5, with the empty slot
slots_read : (slot_at new_matrix (slots - 1) ≡ record { code = 0; slot = empty_slot })
    × (slot_at new_matrix slots ≡ record { code = 5; slot = empty_slot })
unfolding slot_at slot_of new_matrix judged
slots_read = (refl, refl)

-- a NaN is row 6, past the last slot row 5
codes : ((set_slot_amount new_matrix (slots - 1) nan).code ≡ 6) × ((set_slot_amount new_matrix slots nan).code ≡ 5)
    × ((set_slot_amount new_matrix (slots - 1) one32).code ≡ 0) × ((set_slot_amount new_matrix 0 (inf true)).code ≡ 6)
unfolding set_slot_amount edited answered judged finite
codes = (refl, refl, refl, refl)

-- a whole slot is kept as it is: 2.5 stays; seconds that are not finite are row 6
whole-slot : ((slot_of (set_slot new_matrix 3 (with_amount (fin false 5 (negsuc 0)) empty_slot)).matrix 3).amount
    ≡ fin false 5 (negsuc 0)) × ((set_slot new_matrix 3 (with_source_curve (C.Table nan zero32) empty_slot)).code ≡ 6)
unfolding set_slot edited answered judged numbers_finite finite seconds_finite slot_of with_slot with_slots with_amount
    with_source_curve new_matrix empty_slot
whole-slot = (refl, refl)

-- ---- adding and removing

route : Slot
route = route_slot 5 (T.Param 7) one32 L.Bipolar

full : Matrix
full = with_slots new_matrix (replicate slots route)

-- the first empty slot; a full matrix is no number; a NaN is row 6
adding : (add_route new_matrix 5 (T.Param 7) (fin false 3 (negsuc 0)) L.Bipolar
    ≡ record { code = 0; place = P.At 0; matrix = with_slot new_matrix 0 route })
    × ((add_route (with_slot new_matrix 0 route) 5 (T.Param 7) one32 L.Bipolar).place ≡ P.At 1)
    × (add_route full 5 (T.Param 7) one32 L.Bipolar ≡ record { code = 0; place = P.Full; matrix = full })
    × (add_route full 5 (T.Param 7) nan L.Bipolar ≡ record { code = 6; place = P.Refused; matrix = full })
unfolding add_route placed judged finite kept_amount clamp_to lt first_empty is_empty_slot new_matrix with_slot
    with_slots empty_slot route_slot route full
adding = (refl, refl, refl, refl)

-- every slot with that destination becomes empty; an LFO bus is no parameter
removing : (remove_destination full (T.Param 7) ≡ record { count = slots; matrix = new_matrix })
    × (remove_destination full (T.LfoBus 7 0) ≡ record { count = 0; matrix = full })
unfolding remove_destination count_aims cleared new_matrix with_slots empty_slot route_slot route full
removing = (refl, refl)

-- ---- routes that the editor makes

-- 3/4 of the travel: one way, and with the limit 1/4 of the amount; a NaN position is row 6, also without the limit
dragging : (drag_route new_matrix 5 (T.Param 7) (fin false 3 (negsuc 1)) one32 false true
    ≡ add_route new_matrix 5 (T.Param 7) (fin false 1 (negsuc 1)) L.Unipolar)
    × (drag_route new_matrix 5 (T.Param 7) half32 one32 false false
    ≡ add_route new_matrix 5 (T.Param 7) one32 L.Bipolar)
    × (drag_route new_matrix 5 (T.Param 7) nan one32 false false
    ≡ record { code = 6; place = P.Refused; matrix = new_matrix })
    × ((drag_route full 5 (T.Param 7) half32 one32 false false).place ≡ P.Full)
unfolding drag_route dragged_amount depth_at within one_way_room polarity_at two_way centred both_finite abs_of min32
    is_nan sub neg le add_route placed judged finite kept_amount clamp_to lt first_empty is_empty_slot new_matrix
    with_slot with_slots empty_slot route_slot route full
dragging = (refl, refl, refl, refl)

-- both answer 6 where a number is not finite, with one way and 0
dragged-alone : (drag_polarity half32 false ≡ record { code = 0; polarity = L.Bipolar })
    × (drag_polarity (inf true) true ≡ record { code = 6; polarity = L.Unipolar })
    × (limit_depth half32 L.Bipolar one32 ≡ record { code = 0; amount = half32 })
    × (limit_depth half32 L.Bipolar nan ≡ record { code = 6; amount = zero32 })
unfolding drag_polarity limit_depth both_finite finite polarity_at two_way centred abs_of depth_at within one_way_room
    clamp_to min32 is_nan sub neg lt le
dragged-alone = (refl, refl, refl, refl)

-- 5 is in use, 6 is free; no LFO is free before no slot is empty; a NaN is row 6 before both
vibratos : (create_vibrato (with_slot new_matrix 0 route) (5 ∷ 6 ∷ []) 9 (T.Param 7) one32
    ≡ record {
      code = 0;
      place = P.At 1;
      matrix = with_slot (with_slot new_matrix 0 route) 1
          (with_aux (Some 9) false (route_slot 6 (T.Param 7) one32 L.Bipolar));
    })
    × (create_vibrato full (5 ∷ []) 9 (T.Param 7) one32 ≡ record { code = 0; place = P.NoFreeLfo; matrix = full })
    × (create_vibrato full (6 ∷ []) 9 (T.Param 7) one32 ≡ record { code = 0; place = P.Full; matrix = full })
    × (create_vibrato full [] 9 (T.Param 7) nan ≡ record { code = 6; place = P.Refused; matrix = full })
unfolding create_vibrato add_vibrato first_free in_use with_aux placed finite kept_amount clamp_to lt first_empty
    is_empty_slot new_matrix with_slot with_slots empty_slot route_slot route full
vibratos = (refl, refl, refl, refl)

velocities : create_velocity_to_amp new_matrix 5 (T.Param 7) one32
    ≡ record { code = 0; place = P.At 0; matrix = with_slot new_matrix 0 (route_slot 5 (T.Param 7) one32 L.Unipolar) }
unfolding create_velocity_to_amp add_route placed judged finite kept_amount clamp_to lt first_empty is_empty_slot
    new_matrix with_slot with_slots empty_slot route_slot
velocities = refl

-- ---- tables

-- an empty table, with no memory: row 5 past the last slot, row 14 before 15; a NaN in it is row 6
table-codes : ((set_curve new_matrix [] slots W.Source [] zero32 zero32).answer.code ≡ 5)
    × ((set_curve new_matrix [] (slots - 1) W.Aux [] zero32 zero32).answer.code ≡ 14)
    × ((set_curve new_matrix [] (slots - 1) W.Aux (nan ∷ []) zero32 zero32).answer.code ≡ 6)
    × ((set_curve new_matrix [] (slots - 1) W.Aux [] nan zero32).answer.code ≡ 6)
unfolding set_curve tabled answered judged curve_allowed all_allowed allowed finite le
table-codes = (refl, refl, refl, refl)

-- a matrix that names no table asks for none
loading : ((load_matrix full [] new_matrix []).answer ≡ record { code = 0; matrix = new_matrix })
    × ((load_matrix full [] (with_velocity new_matrix N.Table) []).answer ≡ record { code = 14; matrix = full })
unfolding load_matrix tabled answered judged names_table any_names slot_names new_matrix with_velocity empty_slot
    with_slots route route_slot full matrix_allowed all_finite numbers_finite seconds_finite finite named_allowed
    slots_allowed slot_allowed place_allowed row_at part all_allowed allowed le
loading = (refl, refl)

-- by source: the empty slot last; a matrix that names a table asks for them
sorting-two : ((sort_slots (with_slots new_matrix (empty_slot ∷ route ∷ [])) [] S.Source).answer
    ≡ record { code = 0; matrix = with_slots new_matrix (route ∷ empty_slot ∷ []) })
    × ((sort_slots (with_velocity new_matrix N.Table) [] S.Destination).answer
    ≡ record { code = 14; matrix = with_velocity new_matrix N.Table })
unfolding sort_slots sorted_from sorted_places places_of ranks rank_of count_before before key_of slots_at tabled
    answered judged names_table any_names slot_names is_empty_slot new_matrix with_velocity empty_slot with_slots route
    route_slot matrix_allowed all_finite numbers_finite seconds_finite finite named_allowed slots_allowed slot_allowed
    place_allowed row_at part all_allowed allowed le
sorting-two = (refl, refl)

-- a slot's amount that is not finite, or a number beyond 16 in a named table, is row 6, before row 14; where no curve
-- names the table it may hold anything
barred : Matrix
barred = with_slots new_matrix (with_amount (inf false) empty_slot ∷ [])

not-loaded : ((load_matrix full [] barred []).answer ≡ record { code = 6; matrix = full })
    × ((load_matrix full [] (with_slots new_matrix (with_source_curve (C.Table nan zero32) empty_slot ∷ [])) []).answer
    ≡ record { code = 6; matrix = full })
    × ((load_matrix full [] (with_slots new_matrix (with_source_curve (C.Table one32 zero32) empty_slot ∷ []))
    (nan ∷ [])).answer ≡ record { code = 6; matrix = full })
    × ((load_matrix full [] new_matrix (nan ∷ [])).answer ≡ record { code = 0; matrix = new_matrix })
unfolding load_matrix tabled answered judged names_table any_names slot_names new_matrix with_velocity empty_slot
    with_slots with_amount with_source_curve route route_slot full barred matrix_allowed all_finite numbers_finite
    seconds_finite finite named_allowed slots_allowed slot_allowed place_allowed row_at part all_allowed allowed le
not-loaded = (refl, refl, refl, refl)

not-sorted : ((sort_slots barred [] S.Source).answer ≡ record { code = 6; matrix = barred })
    × ((sort_slots (with_slots new_matrix (with_source_curve (C.Table one32 zero32) empty_slot ∷ []))
    (nan ∷ []) S.Source).answer.code ≡ 6)
unfolding sort_slots sorted_from sorted_places places_of ranks rank_of count_before before key_of slots_at tabled
    answered judged names_table any_names slot_names is_empty_slot new_matrix with_velocity empty_slot with_slots
    with_amount with_source_curve barred matrix_allowed all_finite numbers_finite seconds_finite finite named_allowed
    slots_allowed slot_allowed place_allowed row_at part all_allowed allowed le
not-sorted = (refl, refl)
