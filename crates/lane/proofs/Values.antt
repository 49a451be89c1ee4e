-- A route's value and its slews, by what the code finds. Assumes nothing.
use Rattle.std.specs.Prelude.{Some}
use mathlib.Core.Path.{◌≡◌, refl, sym, ap, ◌∙◌}
use mathlib.Core.Bool.{Bool, true, false, not, ◌&&◌}
use Prim.Native.Nat.{ℕ, ◌*◌}
use lib.Dec.{ltb, leb}
use lib.Ieee.{Float}
use Rattle.number.specs.Number.{times}
use Rattle.state.specs.declared.Input.{Input}
use Rattle.state.specs.declared.Read.{Read}
use Rattle.state.specs.declared.Read.TheVariants as D
use Rattle.state.specs.declared.Route.{Route}
use Rattle.state.specs.declared.SignalPart.{SignalPart}
use Rattle.model.specs.Env.{Env, Rows, Own, part_of, part_stride}
use Rattle.model.specs.Input.{input_in}
use Rattle.model.specs.Mix.{Mix}
use Rattle.model.specs.Routes.{free_slew}
use Rattle.model.specs.RouteValue.{source_in, aux_in, sourced, with_aux, gained, route_value, whole_row}
use Rattle.model.specs.Slews.{moves_in, aux_slew, source_after}
use Rattle.lane_input.specs.Reads.{part_for}

pub input-from : (t : Env) (f : Rows) (slot position : ℕ) (snap : Float) (lane : ℕ) (i : Input) (prev random : Float) {p q r : Float}
    → r ≡ input_in t f slot position snap prev random lane i → prev ≡ p → random ≡ q → r ≡ input_in t f slot position snap p q lane i
input-from t f slot position snap lane i prev random {p = p} k a b =
    k ∙ ap (λ (z : Float). input_in t f slot position snap z random lane i) a ∙ ap (λ (z : Float). input_in t f slot position snap p z lane i) b

pub value_of : (t : Env) (f : Rows) (s : Own) (j lane : ℕ) (r : Route) {p x g : Float} → p ≡ sourced t f s j lane r → x ≡ with_aux t f s j lane r r.aux p → g ≡ gained t f lane r
    → times x g ≡ route_value t f s j lane r
unfolding route_value
value_of t f s j lane r {g = g} a b c = ap (λ (z : Float). times z g) (b ∙ ap (with_aux t f s j lane r r.aux) a) ∙ ap (times _) c

-- ---- whole rows

-- of a part
abbrev whole : ℕ → ℕ → SignalPart → Bool
whole stride up_to p = ltb 0 p.len && (leb stride (part_stride p) && leb (up_to * part_stride p) p.len)

by-voice : (t : Env) (src : ℕ) (voice : Bool) → voice && whole t.stride t.up_to (part_of t.signals src) ≡ whole_row t (D.Signal src voice)
by-voice t src true = refl
by-voice t src false = refl

pub signal-rowed : (t : Env) {stride up_to : ℕ} {read : Read} {part : SignalPart} (src : ℕ) {voice r : Bool} → t.stride ≡ stride → t.up_to ≡ up_to → part_for t.signals read ≡ part
    → read ≡ D.Signal src voice → r ≡ voice && whole stride up_to part → r ≡ whole_row t read
signal-rowed t src {voice = voice} e d p q k =
    let part : part_of t.signals src ≡ _ = rw q at p in
    k ∙ rw (q, ← e, ← d, ← part) (by-voice t src voice)

-- ---- slews

moving : (t : Env) (x : Mix) (r : Route) (l : ℕ) (free moves b : Bool) → b ≡ not free && moves → moves ≡ moves_in t x r l → not free && moves_in t x r l ≡ b
moving t x r l free moves b e m = sym (e ∙ ap (λ (z : Bool). not free && z) m)

-- the source's, and where it stands still
pub source-moved : (t : Env) (x : Mix) (f : Rows) (s : Own) (j l : ℕ) {r : Route} {moves b : Bool} {v : Float} → x.route j ≡ r → b ≡ not (free_slew r.source.slew) && moves
    → moves ≡ moves_in t x r l → b ≡ true → v ≡ source_in t f s j l r → v ≡ source_after t x f s j l
unfolding source_after
source-moved t x f s j l {r} {moves} {b} q e m on k = rw (q, moving t x r l (free_slew r.source.slew) moves b e m ∙ on) k

pub source-kept : (t : Env) (x : Mix) (f : Rows) (s : Own) (j l : ℕ) {r : Route} {moves b : Bool} {v : Float} → x.route j ≡ r → b ≡ not (free_slew r.source.slew) && moves
    → moves ≡ moves_in t x r l → b ≡ false → v ≡ s j 0 l → v ≡ source_after t x f s j l
unfolding source_after
source-kept t x f s j l {r} {moves} {b} q e m off k = rw (q, moving t x r l (free_slew r.source.slew) moves b e m ∙ off) k

-- the aux's
pub aux-moved : (t : Env) (x : Mix) (f : Rows) (s : Own) (j l : ℕ) (r : Route) (i : Input) {moves b : Bool} {v : Float} → b ≡ not (free_slew i.slew) && moves
    → moves ≡ moves_in t x r l → b ≡ true → v ≡ aux_in t f s j l r i → v ≡ aux_slew t x f s j r l (Some i)
aux-moved t x f s j l r i {moves} {b} e m on k = rw (moving t x r l (free_slew i.slew) moves b e m ∙ on) k

pub aux-kept : (t : Env) (x : Mix) (f : Rows) (s : Own) (j l : ℕ) (r : Route) (i : Input) {moves b : Bool} {v : Float} → b ≡ not (free_slew i.slew) && moves
    → moves ≡ moves_in t x r l → b ≡ false → v ≡ s j 1 l → v ≡ aux_slew t x f s j r l (Some i)
aux-kept t x f s j l r i {moves} {b} e m off k = rw (moving t x r l (free_slew i.slew) moves b e m ∙ off) k
