-- The definitions, computed.
use Rattle.std.specs.Prelude.{◌≡◌, refl, true, false, List, [], ◌∷◌, ◌++◌, pos, replicate, Float}
use Rattle.std.specs.Float.{nan, fin}
use Rattle.std.specs.Float.Ieee.{le}
use Rattle.list.specs.Part.{part}
use Rattle.list.specs.Rows.{row_at}
use Rattle.number.specs.Number.{zero32, one32, finite}
use Rattle.curve_table.specs.Table.{allowed, all_allowed}
use Rattle.curve_table.specs.declared.Curve.{Curve}
use Rattle.curve_table.specs.declared.Curve.TheVariants as C
use Rattle.std.specs.Prelude.{None}
use Rattle.state.specs.declared.Polarity.TheVariants as L
use Rattle.state.specs.declared.NoteCurve.{NoteCurve}
use Rattle.state.specs.declared.NoteCurve.TheVariants as N
use Rattle.state.specs.declared.Slot.{Slot}
use Rattle.state.specs.declared.Matrix.{Matrix}
use Rattle.slots_tables.specs.Tables.{slot_names, any_names, names_table, place_allowed, slot_allowed, slots_allowed}
use Rattle.slots_tables.specs.Tables.{named_allowed}

-- a slot with these curves, and a matrix of two slots
curved : Curve → Curve → Slot
curved s a =
    record {
      source = None;
      source_curve = s;
      amount = zero32;
      polarity = L.Unipolar;
      destination = None;
      aux = None;
      aux_invert = false;
      aux_curve = a;
      output = one32;
      bypass = false;
    }

of : Slot → Slot → NoteCurve → Matrix
of s t k = record { slot = s ∷ t ∷ []; velocity = N.Linear; key = k; glide = false; velocity_legato = false }

plain : Slot
plain = curved C.Linear C.Linear

bent-source : Slot
bent-source = curved (C.Table zero32 zero32) C.Linear

bent-aux : Slot
bent-aux = curved C.Linear (C.Table zero32 zero32)

naming : (names_table (of plain plain N.Linear) ≡ false) × (names_table (of plain bent-aux N.Linear) ≡ true)
    × (names_table (of plain plain N.Table) ≡ true)
unfolding names_table any_names slot_names curved of plain bent-aux
naming = (refl, refl, refl)

-- a NaN at place 1, the aux's of slot 0, and 17 at place 2, the source's of slot 1; the slice ends there
memory : List Float
memory = replicate 513 zero32 ++ (nan ∷ replicate 512 zero32 ++ (fin false 17 (pos 0) ∷ []))

-- a place that no curve names is not looked at
judging : (named_allowed (of plain plain N.Linear) memory ≡ true)
    × (named_allowed (of bent-source bent-aux N.Table) memory ≡ true)
    × (named_allowed (of bent-aux plain N.Linear) memory ≡ false)
    × (named_allowed (of plain bent-source N.Linear) memory ≡ false)
unfolding named_allowed slots_allowed slot_allowed place_allowed row_at part all_allowed allowed finite le curved of
    plain bent-source bent-aux memory
judging = (refl, refl, refl, refl)
