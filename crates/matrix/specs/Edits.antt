-- The public calls on the matrix (document 01, Slot, case 11 and rows; matrix.rs). Definitions only.
use Rattle.std.specs.Prelude.{Bool, true, false, cond, ◌&&◌, ◌||◌, List, [], ◌∷◌, map, ℕ, eqb, leb, ltb, length, Float}
use Rattle.config.specs.Sizes.{slots}
use Rattle.refusal.specs.Judge.{Row, judged, ◌when◌}
use Rattle.number.specs.Number.{finite}
use Rattle.curve_table.specs.Table.{all_allowed}
use Rattle.curve_table.specs.declared.Curve.TheVariants as C
use Rattle.std.specs.Prelude.{Option}
use Rattle.state.specs.declared.Target.{Target}
use Rattle.state.specs.declared.Polarity.{Polarity}
use Rattle.state.specs.declared.NoteCurve.TheVariants as N
use Rattle.state.specs.declared.Slot.{Slot}
use Rattle.state.specs.declared.Matrix.{Matrix}
use Rattle.slots.specs.Slots.{empty_slot, first_empty, route_slot, kept_amount, kept_output, cleared, count_aims}
use Rattle.slots.specs.Slots.{numbers_finite, all_finite, with_amount, with_output, with_bypass, with_polarity}
use Rattle.slots.specs.Slots.{with_aux}
use Rattle.slots_tables.specs.Tables.{tables_need, with_table, with_tables, names_table, named_allowed}
use Rattle.slots_tables.specs.Rows.{finite_row, table_rows, curve_allowed}
use Rattle.matrix_sorting.specs.Keys.{key_of}
use Rattle.matrix_sorting.specs.Order.{sorted_places}
use Rattle.matrix_sorting.specs.Moved.{slots_at, moved_tables}
use Rattle.slots.specs.Matrix.{slot_of, with_slot, with_slots, with_glide, with_velocity_legato}
use Rattle.matrix.specs.Which.{with_curve, with_note, place_of, note_place}
use Rattle.matrix.specs.declared.CurveSlot.{CurveSlot}
use Rattle.matrix.specs.declared.NoteSlot.{NoteSlot}
use Rattle.matrix.specs.declared.SortBy.{SortBy}
use Rattle.matrix.specs.declared.SortBy.TheVariants as S
use Rattle.matrix.specs.Answers.{Edited, SlotRead, Placed}
use Rattle.matrix.specs.Place as P
use Rattle.matrix.specs.declared.Removed.{Removed}

-- ---- rows (document 01, Numbers that a call hands back)

-- row 5: slot not below the slots
abbrev pub slot_row : ℕ → Row
slot_row n = 5 when leb slots n

-- ---- answers

-- a refused call leaves the matrix as it came
unfoldable pub answered : ℕ → Matrix → Matrix → Edited
answered code m next = record { code = code; matrix = cond (eqb code 0) next m }

-- every edit of one slot: the rows are judged, then slot n is what f makes of it
unfoldable pub edited : List Row → Matrix → ℕ → (Slot → Slot) → Edited
edited rows m n f = answered (judged rows) m (with_slot m n (f (slot_of m n)))

-- a route in slot i, where there is such a slot
unfoldable pub placed : ℕ → Matrix → ℕ → Slot → Placed
placed code m i s =
    cond (eqb code 0)
    (cond (ltb i slots) (record { code = 0; place = P.At i; matrix = with_slot m i s })
    (record { code = 0; place = P.Full; matrix = m }))
    (record { code = code; place = P.Refused; matrix = m })

-- the answer of a call to which tables are lent, and those tables afterwards
pub record WithTables : Type 0 where
  pub answer : Edited
  pub tables : List Float

-- a refused call leaves the tables as they came too
unfoldable pub tabled : ℕ → Matrix → Matrix → List Float → List Float → WithTables
tabled code m next t written = record { answer = answered code m next; tables = cond (eqb code 0) written t }

-- ---- calls on one slot

-- matrix.rs 175-177; a refused call answers the empty slot, which `slot_of` gives past the last
unfoldable pub slot_at : Matrix → ℕ → SlotRead
slot_at m n = record { code = judged (slot_row n ∷ []); slot = slot_of m n }

-- `slot_mut`, matrix.rs 184-186: nothing is clamped
unfoldable pub set_slot : Matrix → ℕ → Slot → Edited
set_slot m n s = edited (slot_row n ∷ finite_row (numbers_finite s) ∷ []) m n (λ old. s)

-- matrix.rs 194-214
unfoldable pub add_route : Matrix → ℕ → Target → Float → Polarity → Placed
add_route m source t x p =
    placed (judged (finite_row (finite x) ∷ [])) m (first_empty m.slot) (route_slot source t (kept_amount x) p)

-- matrix.rs 221-224
unfoldable pub remove_slot : Matrix → ℕ → Edited
remove_slot m n = edited (slot_row n ∷ []) m n (λ old. empty_slot)

-- matrix.rs 243-246
unfoldable pub set_bypass : Matrix → ℕ → Bool → Edited
set_bypass m n b = edited (slot_row n ∷ []) m n (with_bypass b)

-- matrix.rs 253-256; a NaN is row 6, not the Rust's fallback (document 01, case 11)
unfoldable pub set_slot_amount : Matrix → ℕ → Float → Edited
set_slot_amount m n x = edited (slot_row n ∷ finite_row (finite x) ∷ []) m n (with_amount (kept_amount x))

-- matrix.rs 263-266
unfoldable pub set_slot_output : Matrix → ℕ → Float → Edited
set_slot_output m n x = edited (slot_row n ∷ finite_row (finite x) ∷ []) m n (with_output (kept_output x))

-- matrix.rs 273-276
unfoldable pub set_polarity : Matrix → ℕ → Polarity → Edited
set_polarity m n p = edited (slot_row n ∷ []) m n (with_polarity p)

-- matrix.rs 283-293
unfoldable pub set_aux : Matrix → ℕ → Option ℕ → Bool → Edited
set_aux m n p b = edited (slot_row n ∷ []) m n (with_aux p b)

-- matrix.rs 300-307, to the mark `Linear`
unfoldable pub set_linear : Matrix → ℕ → CurveSlot → Edited
set_linear m n which = edited (slot_row n ∷ []) m n (with_curve which C.Linear)

-- ---- calls on the whole matrix

-- matrix.rs 227-236
unfoldable pub remove_destination : Matrix → Target → Removed
remove_destination m t = record { count = count_aims t m.slot; matrix = with_slots m (map (cleared t) m.slot) }

-- the fields of note_curves (matrix.rs 143; curve.rs 113-124)
unfoldable pub set_glide : Matrix → Bool → Matrix
set_glide m on = with_glide m on

unfoldable pub set_velocity_legato : Matrix → Bool → Matrix
set_velocity_legato m on = with_velocity_legato m on

unfoldable pub set_note_linear : Matrix → NoteSlot → Matrix
set_note_linear m which = with_note m which N.Linear

-- ---- calls to which tables are lent

-- matrix.rs 300-307: the curve is a table with these seconds, whose numbers stand at the place of slot and position
unfoldable pub set_curve : Matrix → List Float → ℕ → CurveSlot → List Float → Float → Float → WithTables
set_curve m tables n which t rise fall =
    tabled (judged (slot_row n ∷ table_rows (curve_allowed t rise fall) tables t)) m
    (with_slot m n (with_curve which (C.Table rise fall) (slot_of m n)))
    tables
    (with_table tables (place_of n which) t)

-- the field note_curves (matrix.rs 143; curve.rs 113-118)
unfoldable pub set_note_curve : Matrix → List Float → NoteSlot → List Float → WithTables
set_note_curve m tables which t =
    tabled (judged (table_rows (all_allowed t) tables t)) m (with_note m which N.Table) tables
    (with_table tables (note_place which) t)

abbrev pub by_source : SortBy → Bool
by_source S.Source = true
by_source S.Destination = false

-- for each place of the sorted slots, the place from which its slot comes (matrix.rs 311-319)
unfoldable pub sorted_from : Matrix → SortBy → List ℕ
sorted_from m by = sorted_places (map (key_of (by_source by)) m.slot)

-- row 6 of a whole matrix: amounts, outputs and seconds of its slots, and the numbers of the tables that it names
unfoldable pub matrix_allowed : Matrix → List Float → Bool
matrix_allowed m tables = all_finite m.slot && named_allowed m tables

abbrev pub sort_rows : Matrix → List Float → List Row
sort_rows m tables =
    finite_row (matrix_allowed m tables) ∷ 14 when (names_table m && ltb (length tables) tables_need) ∷ []

-- matrix.rs 311-319; each slot's two tables move with it
unfoldable pub sort_slots : Matrix → List Float → SortBy → WithTables
sort_slots m tables by =
    tabled (judged (sort_rows m tables)) m
    (with_slots m (slots_at (sorted_from m by) m.slot))
    tables
    (cond (names_table m) (moved_tables (sorted_from m by) tables) tables)

-- of the matrix that is loaded; tables are lent where it names one
abbrev pub load_rows : List Float → Matrix → List Float → List Row
load_rows tables other others =
    finite_row (matrix_allowed other others)
    ∷ 14 when (names_table other && (ltb (length tables) tables_need || ltb (length others) tables_need))
    ∷ []

-- matrix.rs 334-341, without the lock
unfoldable pub load_matrix : Matrix → List Float → Matrix → List Float → WithTables
load_matrix m tables other others =
    tabled (judged (load_rows tables other others)) m other tables
    (cond (names_table other) (with_tables tables others) tables)
