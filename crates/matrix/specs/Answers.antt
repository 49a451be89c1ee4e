-- The answers of the public calls, each with the number of its refusal, 0 where the call is accepted (docs/CALLS.md,
-- matrix), and what the Rust answers say in these terms. Definitions only.
use Rattle.std.specs.Prelude.{ℕ, Result, Ok, Err, Float}
use Rattle.number.specs.Number.{zero32}
use Rattle.refusal.specs.Refusal.{number_of}
use Rattle.refusal.specs.declared.Refusal.{Refusal}
use Rattle.state.specs.declared.Polarity.{Polarity}
use Rattle.state.specs.declared.Polarity.TheVariants as L
use Rattle.state.specs.declared.Slot.{Slot}
use Rattle.state.specs.declared.Matrix.{Matrix}
use Rattle.slots.specs.Slots.{empty_slot}
use Rattle.matrix.specs.Place.{Place}
use Rattle.matrix.specs.Place as P
use Rattle.matrix.specs.declared.Added.{Added}
use Rattle.matrix.specs.declared.Added.TheVariants as A

pub record SlotRead : Type 0 where
  pub code : ℕ
  pub slot : Slot

pub record Edited : Type 0 where
  pub code : ℕ
  pub matrix : Matrix

pub record Placed : Type 0 where
  pub code : ℕ
  pub place : Place
  pub matrix : Matrix

pub record PolarityMade : Type 0 where
  pub code : ℕ
  pub polarity : Polarity

pub record Depth : Type 0 where
  pub code : ℕ
  pub amount : Float

-- ---- what the Rust answers say

-- a refused read says the empty slot
abbrev pub slot_said : Result Slot Refusal → SlotRead
slot_said (Ok s) = record { code = 0; slot = s }
slot_said (Err r) = record { code = number_of r; slot = empty_slot }

-- a refused edit of m leaves it as it came
abbrev pub edited_said : Matrix → Result Matrix Refusal → Edited
edited_said m (Ok next) = record { code = 0; matrix = next }
edited_said m (Err r) = record { code = number_of r; matrix = m }

-- so does a call that finds no place for its route
abbrev pub placed_said : Matrix → Result Added Refusal → Placed
placed_said m (Ok (A.At i next)) = record { code = 0; place = P.At i; matrix = next }
placed_said m (Ok A.Full) = record { code = 0; place = P.Full; matrix = m }
placed_said m (Ok A.NoFreeLfo) = record { code = 0; place = P.NoFreeLfo; matrix = m }
placed_said m (Err r) = record { code = number_of r; place = P.Refused; matrix = m }

-- one way where it is refused
abbrev pub polarity_said : Result Polarity Refusal → PolarityMade
polarity_said (Ok p) = record { code = 0; polarity = p }
polarity_said (Err r) = record { code = number_of r; polarity = L.Unipolar }

-- 0 where it is refused
abbrev pub depth_said : Result Float Refusal → Depth
depth_said (Ok x) = record { code = 0; amount = x }
depth_said (Err r) = record { code = number_of r; amount = zero32 }
