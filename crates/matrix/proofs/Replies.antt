-- The calls that place a route say what is promised. Assumes nothing.
use mathlib.Core.Path.{◌≡◌, refl}
use mathlib.Core.Bool.{Bool, true, false, cond, not, ◌&&◌}
use mathlib.Core.List.{List, [], ◌∷◌}
use Prim.Native.Nat.{ℕ, zero, suc}
use lib.Dec.{eqb, ltb}
use lib.ListN.{length, get_or}
use lib.Ieee.{Float}
use native.Mathlib.Omega.{arith}
use borrow.Author.Tests.{ne_eqb}
use Rattle.config.specs.Sizes.{slots}
use Rattle.refusal.specs.Judge.{Row, ◌when◌, judged}
use Rattle.number.specs.Number.{finite}
use Rattle.reply.specs.Reply.{accepts, refuses, only, by_rows}
use Rattle.std.specs.Prelude.{Some}
use Rattle.state.specs.declared.Target.{Target}
use Rattle.state.specs.declared.Polarity.{Polarity}
use Rattle.state.specs.declared.Polarity.TheVariants as L
use Rattle.state.specs.declared.Slot.{Slot}
use Rattle.state.specs.declared.Matrix.{Matrix}
use Rattle.slots.specs.Slots.{first_empty, route_slot, kept_amount, with_aux}
use Rattle.slots.specs.Matrix.{with_slot}
use Rattle.matrix_editing.specs.Drag.{polarity_at, dragged_amount}
use Rattle.matrix_editing.specs.Free.{first_free}
use Rattle.matrix.specs.Place as P
use Rattle.matrix.specs.Answers.{Placed}
use Rattle.matrix.specs.Edits.{placed, add_route}
use Rattle.matrix.specs.Routes.{drag_route, add_vibrato, create_vibrato, create_velocity_to_amp}
use Rattle.matrix.specs.Replies.{placed_reply, add_rows, drag_rows, add_says, drag_says, vibrato_says}

-- ---- a route in slot i

place-if : (b : Bool) (m next : Matrix) (i : ℕ) → placed_reply (cond b (record { code = 0; place = P.At i; matrix = next }) (record { code = 0; place = P.Full; matrix = m })) ≡ accepts (only b i)
place-if true m next i = refl
place-if false m next i = refl

placed-says : (rows : List Row) (m : Matrix) (i : ℕ) (s : Slot) → placed_reply (placed (judged rows) m i s) ≡ by_rows rows (only (ltb i slots) i)
unfolding placed by_rows
placed-says rows m i s = go (judged rows)
  where
    go : (n : ℕ) → placed_reply (placed n m i s) ≡ cond (eqb n 0) (accepts (only (ltb i slots) i)) (refuses n)
    go zero = place-if (ltb i slots) m (with_slot m i s) i
    go (suc n) = rw (ne_eqb (suc n) 0 (λ e. omega arith))

-- ---- the calls

pub add-said : (m : Matrix) (source : ℕ) (t : Target) (x : Float) (p : Polarity) (r : Placed) → r ≡ add_route m source t x p → (r ≡ add_route m source t x p) × (placed_reply r ≡ add_says m x)
unfolding add_route add_says
add-said m source t x p r h =
    (h, rw h (placed-says (add_rows x) m (first_empty m.slot) (route_slot source t (kept_amount x) p)))

pub velocity-said : (m : Matrix) (velocity : ℕ) (t : Target) (x : Float) (r : Placed) → r ≡ create_velocity_to_amp m velocity t x → (r ≡ create_velocity_to_amp m velocity t x) × (placed_reply r ≡ add_says m x)
unfolding create_velocity_to_amp
velocity-said m velocity t x r h = add-said m velocity t x L.Unipolar r h

pub drag-said : (m : Matrix) (source : ℕ) (t : Target) (at x : Float) (toggle limit : Bool) (r : Placed) → r ≡ drag_route m source t at x toggle limit → (r ≡ drag_route m source t at x toggle limit) × (placed_reply r ≡ drag_says m at x)
unfolding drag_route drag_says
drag-said m source t at x toggle limit r h = (
  h,
  rw h
      (placed-says (drag_rows at x) m (first_empty m.slot)
      (route_slot source t (kept_amount (dragged_amount at (polarity_at at toggle) x limit)) (polarity_at at toggle))),
)

-- finite or not, an LFO free or not
vibrato-if : (ok free : Bool) (m : Matrix) (i : ℕ) (s : Slot) → placed_reply (cond ok (cond free (placed 0 m i s) (record { code = 0; place = P.NoFreeLfo; matrix = m })) (record { code = 6; place = P.Refused; matrix = m })) ≡ by_rows (6 when not ok ∷ []) (only (free && ltb i slots) i)
unfolding placed by_rows judged
vibrato-if true true m i s = place-if (ltb i slots) m (with_slot m i s) i
vibrato-if true false m i s = refl
vibrato-if false free m i s = refl

pub vibrato-said : (m : Matrix) (lfos : List ℕ) (wheel : ℕ) (t : Target) (x : Float) (r : Placed) → r ≡ create_vibrato m lfos wheel t x → (r ≡ create_vibrato m lfos wheel t x) × (placed_reply r ≡ vibrato_says m lfos x)
unfolding create_vibrato add_vibrato vibrato_says
vibrato-said m lfos wheel t x r h = (
  h,
  rw h
      (vibrato-if (finite x) (ltb (first_free lfos m.slot) (length lfos)) m (first_empty m.slot)
      (with_aux (Some wheel) false (route_slot (get_or lfos (first_free lfos m.slot) 0) t (kept_amount x) L.Bipolar))),
)
