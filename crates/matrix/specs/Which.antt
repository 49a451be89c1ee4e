-- The curve that a call names: replaced, and the place of its table (matrix.rs 300-307; docs/CALLS.md, Memories).
-- Definitions only.
use Rattle.std.specs.Prelude.{ℕ}
use Rattle.curve_table.specs.declared.Curve.{Curve}
use Rattle.state.specs.declared.NoteCurve.{NoteCurve}
use Rattle.state.specs.declared.Slot.{Slot}
use Rattle.state.specs.declared.Matrix.{Matrix}
use Rattle.slots.specs.Slots.{with_source_curve, with_aux_curve}
use Rattle.slots.specs.Matrix.{with_velocity, with_key}
use Rattle.slots_tables.specs.Tables.{slot_place, velocity_place, key_place}
use Rattle.matrix.specs.declared.CurveSlot.{CurveSlot}
use Rattle.matrix.specs.declared.CurveSlot.TheVariants as W
use Rattle.matrix.specs.declared.NoteSlot.{NoteSlot}
use Rattle.matrix.specs.declared.NoteSlot.TheVariants as K

-- ---- a slot's curve

-- matrix.rs 300-307
abbrev pub with_curve : CurveSlot → Curve → Slot → Slot
with_curve W.Source k s = with_source_curve k s
with_curve W.Aux k s = with_aux_curve k s

-- the place of its table
abbrev pub place_of : ℕ → CurveSlot → ℕ
place_of n W.Source = slot_place n 0
place_of n W.Aux = slot_place n 1

-- ---- a note curve

abbrev pub with_note : Matrix → NoteSlot → NoteCurve → Matrix
with_note m K.Velocity k = with_velocity m k
with_note m K.Key k = with_key m k

abbrev pub note_place : NoteSlot → ℕ
note_place K.Velocity = velocity_place
note_place K.Key = key_place
