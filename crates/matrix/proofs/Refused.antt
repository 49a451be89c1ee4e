-- A REFUSED CALL CHANGES NOTHING: where the code is not 0, the matrix is as it came, and so are the tables (document 01, Numbers that a call hands back).
-- Assumes nothing.
use mathlib.Core.Path.{◌≡◌, refl}
use mathlib.Core.Logic.{◌≢◌}
use mathlib.Core.Bool.{Bool, true, false, cond}
use mathlib.Core.List.{List}
use Prim.Native.Nat.{ℕ, ◌≤◌}
use native.Mathlib.Decide.{ℕ_discrete, dec_lt}
use native.Mathlib.Omega.{arith}
use lib.Ieee.{Float}
use lib.Dec.{ltb}
use lib.ListN.{length, get_or, get_or-eq_default}
use Rattle.number.specs.Number.{finite}
use Rattle.matrix_editing.specs.Free.{first_free}
use borrow.Author.Tests.{ne_eqb, le-ltb, lt-ltb, lt-leb}
use Rattle.config.specs.Sizes.{slots}
use Rattle.refusal.specs.Judge.{Row, judged}
use Rattle.std.specs.Prelude.{Option}
use Rattle.state.specs.declared.Target.{Target}
use Rattle.state.specs.declared.Polarity.{Polarity}
use Rattle.state.specs.declared.Slot.{Slot}
use Rattle.state.specs.declared.Matrix.{Matrix}
use Rattle.slots.specs.Slots.{empty_slot}
use Rattle.slots.specs.Matrix.{slot_of}
use Rattle.matrix.specs.Edits.{WithTables, slot_at, answered, edited, placed, tabled, set_slot, add_route, remove_slot, set_bypass, set_slot_amount, set_slot_output, set_polarity, set_aux, set_linear, set_curve, set_note_curve, sort_slots, load_matrix}
use Rattle.matrix.specs.Routes.{drag_route, add_vibrato, create_vibrato, create_velocity_to_amp}
use Rattle.matrix.specs.declared.CurveSlot.{CurveSlot}
use Rattle.matrix.specs.declared.NoteSlot.{NoteSlot}
use Rattle.matrix.specs.declared.SortBy.{SortBy}
use Rattle.matrix.specs.Answers.{Edited, Placed}
use Rattle.matrix.specs.Place as P

-- ---- answers

-- what a refusal leaves of a matrix, of a matrix and the place, of a matrix and its tables
abbrev pub Leaves : Matrix → Edited → Type 0
Leaves m e = e.code ≢ 0 → e.matrix ≡ m

abbrev pub LeavesPlaced : Matrix → Placed → Type 0
LeavesPlaced m p = p.code ≢ 0 → (p.matrix ≡ m) × (p.place ≡ P.Refused)

abbrev pub LeavesTables : Matrix → List Float → WithTables → Type 0
LeavesTables m t w = w.answer.code ≢ 0 → (w.answer.matrix ≡ m) × (w.tables ≡ t)

pub answered-leaves : (code : ℕ) (m next : Matrix) → Leaves m (answered code m next)
unfolding answered
answered-leaves code m next h = rw (ne_eqb code 0 h)

pub edited-leaves : (rows : List Row) (m : Matrix) (n : ℕ) (f : Slot → Slot) → Leaves m (edited rows m n f)
unfolding edited
edited-leaves rows m n f = answered-leaves (judged rows) m _

-- a full matrix carries no number
placed-accepted : (m : Matrix) (i : ℕ) (s : Slot) → (placed 0 m i s).code ≡ 0
unfolding placed
placed-accepted m i s = elim (dec_lt i slots) [ yes l ↦ rw (lt-ltb i slots l) | no n ↦ rw (le-ltb i slots (omega arith)) ]

pub placed-leaves : (code : ℕ) (m : Matrix) (i : ℕ) (s : Slot) → LeavesPlaced m (placed code m i s)
unfolding placed
placed-leaves code m i s h = elim (ℕ_discrete code 0) [
  | yes e ↦ absurd (h (rw e (placed-accepted m i s)))
  | no ne ↦ (rw (ne_eqb code 0 ne), rw (ne_eqb code 0 ne))
]

-- where there is no such slot the matrix is as it came too
pub placed-full : (m : Matrix) (i : ℕ) (s : Slot) → slots ≤ i → placed 0 m i s ≡ record { code = 0; place = P.Full; matrix = m }
unfolding placed
placed-full m i s h = rw (le-ltb i slots h)

pub tabled-leaves : (code : ℕ) (m next : Matrix) (t written : List Float) → LeavesTables m t (tabled code m next t written)
unfolding tabled answered
tabled-leaves code m next t written h = (rw (ne_eqb code 0 h), rw (ne_eqb code 0 h))

-- ---- calls

-- a refused read answers the empty slot
pub slot-refused : (m : Matrix) (n : ℕ) → length m.slot ≡ slots → (slot_at m n).code ≢ 0 → (slot_at m n).slot ≡ empty_slot
unfolding slot_at slot_of judged
slot-refused m n long h = elim (dec_lt n slots) [
  | yes l ↦ absurd (h (rw (lt-leb slots n l)))
  | no l ↦ get_or-eq_default m.slot empty_slot (omega arith)
]

pub set-slot-leaves : (m : Matrix) (n : ℕ) (s : Slot) → Leaves m (set_slot m n s)
unfolding set_slot
set-slot-leaves m n s = edited-leaves _ m n _

pub remove-leaves : (m : Matrix) (n : ℕ) → Leaves m (remove_slot m n)
unfolding remove_slot
remove-leaves m n = edited-leaves _ m n _

pub set-bypass-leaves : (m : Matrix) (n : ℕ) (b : Bool) → Leaves m (set_bypass m n b)
unfolding set_bypass
set-bypass-leaves m n b = edited-leaves _ m n _

pub set-amount-leaves : (m : Matrix) (n : ℕ) (x : Float) → Leaves m (set_slot_amount m n x)
unfolding set_slot_amount
set-amount-leaves m n x = edited-leaves _ m n _

pub set-output-leaves : (m : Matrix) (n : ℕ) (x : Float) → Leaves m (set_slot_output m n x)
unfolding set_slot_output
set-output-leaves m n x = edited-leaves _ m n _

pub set-polarity-leaves : (m : Matrix) (n : ℕ) (p : Polarity) → Leaves m (set_polarity m n p)
unfolding set_polarity
set-polarity-leaves m n p = edited-leaves _ m n _

pub set-aux-leaves : (m : Matrix) (n : ℕ) (p : Option ℕ) (b : Bool) → Leaves m (set_aux m n p b)
unfolding set_aux
set-aux-leaves m n p b = edited-leaves _ m n _

pub set-linear-leaves : (m : Matrix) (n : ℕ) (which : CurveSlot) → Leaves m (set_linear m n which)
unfolding set_linear
set-linear-leaves m n which = edited-leaves _ m n _

pub add-leaves : (m : Matrix) (source : ℕ) (t : Target) (x : Float) (p : Polarity) → LeavesPlaced m (add_route m source t x p)
unfolding add_route
add-leaves m source t x p = placed-leaves _ m _ _

pub drag-leaves : (m : Matrix) (source : ℕ) (t : Target) (at x : Float) (toggle limit : Bool) → LeavesPlaced m (drag_route m source t at x toggle limit)
unfolding drag_route
drag-leaves m source t at x toggle limit = placed-leaves _ m _ _

pub velocity-leaves : (m : Matrix) (velocity : ℕ) (t : Target) (x : Float) → LeavesPlaced m (create_velocity_to_amp m velocity t x)
unfolding create_velocity_to_amp
velocity-leaves m velocity t x = add-leaves m velocity t x _

-- no free LFO carries no number
chosen-leaves : (m : Matrix) (f k : Bool) (p : Placed) → LeavesPlaced m p
    → LeavesPlaced m (cond f (cond k p (record { code = 0; place = P.NoFreeLfo; matrix = m })) (record { code = 6; place = P.Refused; matrix = m }))
chosen-leaves m true true p l h = l h
chosen-leaves m true false p l h = absurd (h refl)
chosen-leaves m false k p l h = (refl, refl)

add-vibrato-leaves : (m : Matrix) (lfo wheel : ℕ) (t : Target) (x : Float) → LeavesPlaced m (add_vibrato m lfo wheel t x)
unfolding add_vibrato
add-vibrato-leaves m lfo wheel t x = placed-leaves 0 m _ _

pub vibrato-leaves : (m : Matrix) (lfos : List ℕ) (wheel : ℕ) (t : Target) (x : Float) → LeavesPlaced m (create_vibrato m lfos wheel t x)
unfolding create_vibrato
vibrato-leaves m lfos wheel t x =
    let k = first_free lfos m.slot in
    chosen-leaves m (finite x) (ltb k (length lfos)) (add_vibrato m (get_or lfos k 0) wheel t x) (add-vibrato-leaves m (get_or lfos k 0) wheel t x)

pub set-curve-leaves : (m : Matrix) (tables : List Float) (n : ℕ) (which : CurveSlot) (t : List Float) (rise fall : Float)
    → LeavesTables m tables (set_curve m tables n which t rise fall)
unfolding set_curve
set-curve-leaves m tables n which t rise fall = tabled-leaves _ m _ tables _

pub set-note-curve-leaves : (m : Matrix) (tables : List Float) (which : NoteSlot) (t : List Float) → LeavesTables m tables (set_note_curve m tables which t)
unfolding set_note_curve
set-note-curve-leaves m tables which t = tabled-leaves _ m _ tables _

pub sort-leaves : (m : Matrix) (tables : List Float) (by : SortBy) → LeavesTables m tables (sort_slots m tables by)
unfolding sort_slots
sort-leaves m tables by = tabled-leaves _ m _ tables _

pub load-leaves : (m : Matrix) (tables : List Float) (other : Matrix) (others : List Float) → LeavesTables m tables (load_matrix m tables other others)
unfolding load_matrix
load-leaves m tables other others = tabled-leaves _ m _ tables _
