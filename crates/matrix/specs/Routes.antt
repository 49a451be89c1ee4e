-- The public calls that make a route for the editor (matrix.rs 350-441; document 01, row 6; docs/CALLS.md). Definitions
-- only.
use Rattle.std.specs.Prelude.{Bool, false, cond, List, [], ◌∷◌, ℕ, ltb, length, get_or, Float}
use Rattle.refusal.specs.Judge.{judged}
use Rattle.number.specs.Number.{zero32, finite}
use Rattle.std.specs.Prelude.{Some}
use Rattle.state.specs.declared.Target.{Target}
use Rattle.state.specs.declared.Polarity.{Polarity}
use Rattle.state.specs.declared.Polarity.TheVariants as L
use Rattle.state.specs.declared.Matrix.{Matrix}
use Rattle.slots.specs.Slots.{first_empty, route_slot, kept_amount, with_aux}
use Rattle.slots_tables.specs.Rows.{finite_row}
use Rattle.matrix_editing.specs.Drag.{both_finite, polarity_at, depth_at, dragged_amount}
use Rattle.matrix_editing.specs.Free.{first_free}
use Rattle.matrix.specs.Edits.{placed, add_route}
use Rattle.matrix.specs.Place as P
use Rattle.matrix.specs.Answers.{Placed, PolarityMade, Depth}

-- ---- dragging

-- `add` with the polarity of the position and, with the limit, the amount that its travel leaves (matrix.rs 350-365)
unfoldable pub drag_route : Matrix → ℕ → Target → Float → Float → Bool → Bool → Placed
drag_route m source t at x toggle limit =
    placed (judged (finite_row (both_finite at x) ∷ [])) m (first_empty m.slot)
    (route_slot source t (kept_amount (dragged_amount at (polarity_at at toggle) x limit)) (polarity_at at toggle))

-- matrix.rs 420-426; a refused call answers one way
unfoldable pub drag_polarity : Float → Bool → PolarityMade
drag_polarity at toggle =
    cond (finite at) (record { code = 0; polarity = polarity_at at toggle })
    (record { code = 6; polarity = L.Unipolar })

-- matrix.rs 433-441; a refused call answers 0
unfoldable pub limit_depth : Float → Polarity → Float → Depth
limit_depth at p x =
    cond (both_finite at x) (record { code = 0; amount = depth_at at p x }) (record { code = 6; amount = zero32 })

-- ---- routes with a name

-- both ways from that LFO, with the mod wheel as its aux, not inverted (matrix.rs 386-388)
unfoldable pub add_vibrato : Matrix → ℕ → ℕ → Target → Float → Placed
add_vibrato m lfo wheel t x =
    placed 0 m (first_empty m.slot) (with_aux (Some wheel) false (route_slot lfo t (kept_amount x) L.Bipolar))

-- from the first of the LFOs that is no slot's source; none is free before none is empty (matrix.rs 374-389)
unfoldable pub create_vibrato : Matrix → List ℕ → ℕ → Target → Float → Placed
create_vibrato m lfos wheel t x =
    cond (finite x)
    (cond (ltb (first_free lfos m.slot) (length lfos))
    (add_vibrato m (get_or lfos (first_free lfos m.slot) 0) wheel t x)
    (record { code = 0; place = P.NoFreeLfo; matrix = m }))
    (record { code = 6; place = P.Refused; matrix = m })

-- matrix.rs 397-404
unfoldable pub create_velocity_to_amp : Matrix → ℕ → Target → Float → Placed
create_velocity_to_amp m velocity t x = add_route m velocity t x L.Unipolar
