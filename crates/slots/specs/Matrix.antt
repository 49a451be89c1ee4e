-- The matrix's slots, and the matrix with one part replaced (document 01, Slot; matrix.rs 138-169). Definitions only.
use Rattle.std.specs.Prelude.{Bool, false, List, ℕ, get_or, set, replicate}
use Rattle.config.specs.Sizes.{slots}
use Rattle.state.specs.declared.NoteCurve.{NoteCurve}
use Rattle.state.specs.declared.NoteCurve.TheVariants as N
use Rattle.state.specs.declared.Slot.{Slot}
use Rattle.state.specs.declared.Matrix.{Matrix}
use Rattle.slots.specs.Slots.{empty_slot}

-- every slot empty, linear note curves, no glide, no velocity at a legato note (matrix.rs 147-162; curve.rs 126-135)
unfoldable pub new_matrix : Matrix
new_matrix =
    record {
      slot = replicate slots empty_slot;
      velocity = N.Linear;
      key = N.Linear;
      glide = false;
      velocity_legato = false;
    }

-- its slots (matrix.rs 166-168)
unfoldable pub slots_of : Matrix → List Slot
slots_of m = m.slot

-- slot n; past the last, the empty slot
unfoldable pub slot_of : Matrix → ℕ → Slot
slot_of m n = get_or m.slot n empty_slot

-- the matrix with other slots; with slot n replaced
unfoldable pub with_slots : Matrix → List Slot → Matrix
with_slots m l =
    record {
      slot = l;
      velocity = m.velocity;
      key = m.key;
      glide = m.glide;
      velocity_legato = m.velocity_legato;
    }

unfoldable pub with_slot : Matrix → ℕ → Slot → Matrix
with_slot m n s = with_slots m (set m.slot n s)

-- the field note_curves (matrix.rs 143; curve.rs 113-124)
unfoldable pub with_glide : Matrix → Bool → Matrix
with_glide m b =
    record { slot = m.slot; velocity = m.velocity; key = m.key; glide = b; velocity_legato = m.velocity_legato }

unfoldable pub with_velocity_legato : Matrix → Bool → Matrix
with_velocity_legato m b =
    record { slot = m.slot; velocity = m.velocity; key = m.key; glide = m.glide; velocity_legato = b }

unfoldable pub with_velocity : Matrix → NoteCurve → Matrix
with_velocity m k =
    record { slot = m.slot; velocity = k; key = m.key; glide = m.glide; velocity_legato = m.velocity_legato }

unfoldable pub with_key : Matrix → NoteCurve → Matrix
with_key m k =
    record {
      slot = m.slot;
      velocity = m.velocity;
      key = k;
      glide = m.glide;
      velocity_legato = m.velocity_legato;
    }
