-- What the calls that place a route say: number and values of each case (document 01, The form to use in each place).
-- Definitions only.
use Rattle.std.specs.Prelude.{◌&&◌, List, [], ◌∷◌, ℕ, ltb, length, Float}
use Rattle.config.specs.Sizes.{slots}
use Rattle.refusal.specs.Judge.{Row}
use Rattle.number.specs.Number.{finite}
use Rattle.reply.specs.Reply.{Reply, accepts, refuses, only, by_rows}
use Rattle.state.specs.declared.Matrix.{Matrix}
use Rattle.slots.specs.Slots.{first_empty}
use Rattle.slots_tables.specs.Rows.{finite_row}
use Rattle.matrix_editing.specs.Drag.{both_finite}
use Rattle.matrix_editing.specs.Free.{first_free}
use Rattle.matrix.specs.Place.{Place}
use Rattle.matrix.specs.Place as P
use Rattle.matrix.specs.Answers.{Placed}

-- ---- each case, with the code that stands beside it

-- a full matrix and no free LFO bring nothing, and have no number (docs/DECISIONS.md, D6)
abbrev pub place_reply : ℕ → Place → Reply ℕ
place_reply code (P.At i) = accepts (i ∷ [])
place_reply code P.Full = accepts []
place_reply code P.NoFreeLfo = accepts []
place_reply code P.Refused = refuses code

abbrev pub placed_reply : Placed → Reply ℕ
placed_reply p = place_reply p.code p.place

-- ---- what each call says: its number by row 6, else the first empty slot, if there is one

-- `add`, and `create_velocity_to_amp`
abbrev pub add_rows : Float → List Row
add_rows x = finite_row (finite x) ∷ []

unfoldable pub add_says : Matrix → Float → Reply ℕ
unfolding by_rows
add_says m x = by_rows (add_rows x) (only (ltb (first_empty m.slot) slots) (first_empty m.slot))

abbrev pub drag_rows : Float → Float → List Row
drag_rows at x = finite_row (both_finite at x) ∷ []

unfoldable pub drag_says : Matrix → Float → Float → Reply ℕ
unfolding by_rows
drag_says m at x = by_rows (drag_rows at x) (only (ltb (first_empty m.slot) slots) (first_empty m.slot))

-- an LFO must be free too
unfoldable pub vibrato_says : Matrix → List ℕ → Float → Reply ℕ
unfolding by_rows
vibrato_says m lfos x =
    by_rows (add_rows x)
    (only (ltb (first_free lfos m.slot) (length lfos) && ltb (first_empty m.slot) slots) (first_empty m.slot))
