-- The matrix's lent tables: places of a table's numbers (docs/CALLS.md, Memories). Definitions only.
use Rattle.std.specs.Prelude.{◌≡◌, refl, Bool, true, false, not, ◌&&◌, ◌||◌, List, [], ◌∷◌, ℕ, suc, ◌+◌, ◌-◌, ◌*◌}
use Rattle.std.specs.Prelude.{Float}
use Rattle.list.specs.Part.{part, on_part}
use Rattle.list.specs.Rows.{row_at, on_row}
use Rattle.config.specs.Sizes.{slots}
use Rattle.curve_table.specs.Table.{points, all_allowed}
use Rattle.curve_table.specs.Curve.{is_linear}
use Rattle.state.specs.declared.NoteCurve.{NoteCurve}
use Rattle.state.specs.declared.NoteCurve.TheVariants as N
use Rattle.state.specs.declared.Slot.{Slot}
use Rattle.state.specs.declared.Matrix.{Matrix}

-- two places a slot, the source's before the aux's, then the velocity curve's and the key curve's
abbrev pub places : ℕ
places = 2 * slots + 2

-- of slot n at position p: 0 the source's, 1 the aux's
abbrev pub slot_place : ℕ → ℕ → ℕ
slot_place n p = 2 * n + p

abbrev pub velocity_place : ℕ
velocity_place = 2 * slots

abbrev pub key_place : ℕ
key_place = 2 * slots + 1

-- what all places take
abbrev pub tables_need : ℕ
tables_need = places * points

-- the tables with the one at a place replaced
unfoldable pub with_table : List Float → ℕ → List Float → List Float
with_table tables place t = on_row tables points place t

-- the tables with all places replaced by those of others
unfoldable pub with_tables : List Float → List Float → List Float
with_tables tables others = on_part tables 0 tables_need (part others 0 tables_need)

-- ---- which tables a matrix names

abbrev pub is_table : NoteCurve → Bool
is_table N.Linear = false
is_table N.Table = true

unfoldable pub slot_names : Slot → Bool
slot_names s = not (is_linear s.source_curve) || not (is_linear s.aux_curve)

unfoldable pub any_names : List Slot → Bool
any_names [] = false
any_names (s ∷ l) = slot_names s || any_names l

-- a slot's curve, or a note curve, is a table
unfoldable pub names_table : Matrix → Bool
names_table m = is_table m.velocity || (is_table m.key || any_names m.slot)

-- ---- row 6 of lent tables (docs/CALLS.md, Tables judged)

-- every number at the place, as far as the slice reaches, is finite and within -16 to 16
unfoldable pub place_allowed : List Float → ℕ → Bool
place_allowed tables p = all_allowed (row_at tables points p)

-- a place that is not named may hold anything
abbrev pub allowed_where : Bool → List Float → ℕ → Bool
allowed_where named tables p = not named || place_allowed tables p

unfoldable pub slot_allowed : List Float → ℕ → Slot → Bool
slot_allowed tables n s =
    allowed_where (not (is_linear s.source_curve)) tables (slot_place n 0)
    && allowed_where (not (is_linear s.aux_curve)) tables (slot_place n 1)

-- those of slots n, n + 1, ..
unfoldable pub slots_allowed : List Float → ℕ → List Slot → Bool
slots_allowed tables n [] = true
slots_allowed tables n (s ∷ l) = slot_allowed tables n s && slots_allowed tables (suc n) l

-- every named place
unfoldable pub named_allowed : Matrix → List Float → Bool
named_allowed m tables =
    allowed_where (is_table m.velocity) tables velocity_place
    && (allowed_where (is_table m.key) tables key_place && slots_allowed tables 0 m.slot)

-- the places do not meet: after the last slot's come the note curves', and then no more
last-slot : (slot_place (slots - 1) 1 + 1 ≡ velocity_place) × (velocity_place + 1 ≡ key_place)
    × (key_place + 1 ≡ places)
last-slot = (refl, refl, refl)
