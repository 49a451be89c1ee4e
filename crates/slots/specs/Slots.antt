-- A slot of the matrix, each with one field replaced, and lists of slots (document 01, Slot; matrix.rs 30-81, 194-236).
-- Definitions only.
use Rattle.std.specs.Prelude.{Bool, true, false, cond, ◌&&◌, List, [], ◌∷◌, ℕ, suc, ◌+◌, pos, Float}
use Rattle.std.specs.Float.{fin}
use Rattle.number.specs.Number.{zero32, one32, finite, clamp_to}
use Rattle.curve_table.specs.Curve.{seconds_finite}
use Rattle.curve_table.specs.declared.Curve.{Curve}
use Rattle.curve_table.specs.declared.Curve.TheVariants as C
use Rattle.state.specs.Registry.{same_target}
use Rattle.std.specs.Prelude.{Option, None, Some}
use Rattle.state.specs.declared.Target.{Target}
use Rattle.state.specs.declared.Polarity.{Polarity}
use Rattle.state.specs.declared.Polarity.TheVariants as L
use Rattle.state.specs.declared.Slot.{Slot}

-- ---- a slot

-- no source, aux or destination, linear curves, amount 0, output 1, one way, not inverted, not bypassed (matrix.rs
-- 57-72)
unfoldable pub empty_slot : Slot
empty_slot =
    record {
      source = None;
      source_curve = C.Linear;
      amount = zero32;
      polarity = L.Unipolar;
      destination = None;
      aux = None;
      aux_invert = false;
      aux_curve = C.Linear;
      output = one32;
      bypass = false;
    }

abbrev pub no_source : Option ℕ → Bool
no_source None = true
no_source (Some n) = false

abbrev pub no_destination : Option Target → Bool
no_destination None = true
no_destination (Some t) = false

-- neither source nor destination (matrix.rs 77-79)
unfoldable pub is_empty_slot : Slot → Bool
is_empty_slot s = no_source s.source && no_destination s.destination

-- the empty slot with a source, a destination, an amount and a polarity (matrix.rs 205-211)
unfoldable pub route_slot : ℕ → Target → Float → Polarity → Slot
route_slot n t x p =
    record {
      source = Some n;
      source_curve = C.Linear;
      amount = x;
      polarity = p;
      destination = Some t;
      aux = None;
      aux_invert = false;
      aux_curve = C.Linear;
      output = one32;
      bypass = false;
    }

-- ---- what a setter keeps of its number (document 01, case 11)

abbrev pub minus_one32 : Float
minus_one32 = fin true 1 (pos 0)

-- an amount is clamped to -1..1 (matrix.rs 208, 254), an output to 0..1 (matrix.rs 264)
unfoldable pub kept_amount : Float → Float
kept_amount x = clamp_to minus_one32 one32 x

unfoldable pub kept_output : Float → Float
kept_output x = clamp_to zero32 one32 x

-- ---- a slot's destination

abbrev pub aims_at : Target → Option Target → Bool
aims_at t None = false
aims_at t (Some u) = same_target u t

-- the slot, or the empty slot where it modulates t (matrix.rs 227-236)
unfoldable pub cleared : Target → Slot → Slot
cleared t s = cond (aims_at t s.destination) empty_slot s

-- ---- a slot with one field replaced

unfoldable pub with_amount : Float → Slot → Slot
with_amount x s =
    record {
      source = s.source;
      source_curve = s.source_curve;
      amount = x;
      polarity = s.polarity;
      destination = s.destination;
      aux = s.aux;
      aux_invert = s.aux_invert;
      aux_curve = s.aux_curve;
      output = s.output;
      bypass = s.bypass;
    }

unfoldable pub with_output : Float → Slot → Slot
with_output x s =
    record {
      source = s.source;
      source_curve = s.source_curve;
      amount = s.amount;
      polarity = s.polarity;
      destination = s.destination;
      aux = s.aux;
      aux_invert = s.aux_invert;
      aux_curve = s.aux_curve;
      output = x;
      bypass = s.bypass;
    }

unfoldable pub with_bypass : Bool → Slot → Slot
with_bypass b s =
    record {
      source = s.source;
      source_curve = s.source_curve;
      amount = s.amount;
      polarity = s.polarity;
      destination = s.destination;
      aux = s.aux;
      aux_invert = s.aux_invert;
      aux_curve = s.aux_curve;
      output = s.output;
      bypass = b;
    }

unfoldable pub with_polarity : Polarity → Slot → Slot
with_polarity p s =
    record {
      source = s.source;
      source_curve = s.source_curve;
      amount = s.amount;
      polarity = p;
      destination = s.destination;
      aux = s.aux;
      aux_invert = s.aux_invert;
      aux_curve = s.aux_curve;
      output = s.output;
      bypass = s.bypass;
    }

unfoldable pub with_aux : Option ℕ → Bool → Slot → Slot
with_aux p b s =
    record {
      source = s.source;
      source_curve = s.source_curve;
      amount = s.amount;
      polarity = s.polarity;
      destination = s.destination;
      aux = p;
      aux_invert = b;
      aux_curve = s.aux_curve;
      output = s.output;
      bypass = s.bypass;
    }

unfoldable pub with_source_curve : Curve → Slot → Slot
with_source_curve k s =
    record {
      source = s.source;
      source_curve = k;
      amount = s.amount;
      polarity = s.polarity;
      destination = s.destination;
      aux = s.aux;
      aux_invert = s.aux_invert;
      aux_curve = s.aux_curve;
      output = s.output;
      bypass = s.bypass;
    }

unfoldable pub with_aux_curve : Curve → Slot → Slot
with_aux_curve k s =
    record {
      source = s.source;
      source_curve = s.source_curve;
      amount = s.amount;
      polarity = s.polarity;
      destination = s.destination;
      aux = s.aux;
      aux_invert = s.aux_invert;
      aux_curve = k;
      output = s.output;
      bypass = s.bypass;
    }

-- ---- a slot's numbers

-- amount, output and the seconds of its curves are finite (document 01, row 6)
unfoldable pub numbers_finite : Slot → Bool
numbers_finite s =
    finite s.amount && (finite s.output && (seconds_finite s.source_curve && seconds_finite s.aux_curve))

-- ---- a list of slots

-- every slot's numbers are finite
unfoldable pub all_finite : List Slot → Bool
all_finite [] = true
all_finite (s ∷ l) = numbers_finite s && all_finite l

-- the number of the first empty slot, or of slots where none is (matrix.rs 201-204)
unfoldable pub first_empty : List Slot → ℕ
first_empty [] = 0
first_empty (s ∷ l) = cond (is_empty_slot s) 0 (suc (first_empty l))

-- how many of the slots modulate t (matrix.rs 227-236)
abbrev pub one_if : Bool → ℕ
one_if b = cond b 1 0

unfoldable pub count_aims : Target → List Slot → ℕ
count_aims t [] = 0
count_aims t (s ∷ l) = one_if (aims_at t s.destination) + count_aims t l
