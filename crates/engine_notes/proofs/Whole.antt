-- A note on an engine, from its parts: what the model says of a note is what the definitions here say. Assumes nothing.
use mathlib.Core.Path.{◌≡◌, refl, ap, ◌∙◌}
use mathlib.Core.Bool.{Bool, true, false, not, cond}
use mathlib.Core.List.{List}
use Prim.Native.Nat.{ℕ, zero, suc}
use lib.Dec.{eqb}
use lib.ListN.{set}
use lib.Ieee.{Float}
use Rattle.draw.specs.Xorshift.{step, draw_of}
use Rattle.number.specs.Number.{zero32}
use Rattle.voice.specs.declared.Notes.{Notes}
use Rattle.voice.specs.Notes.{glides_to, value_of, set_note}
use Rattle.state.specs.declared.Kind.{Kind}
use Rattle.state.specs.declared.State.{State}
use Rattle.model.specs.Counts.{engine_sources}
use Rattle.model.specs.World.{World, mark_at, held_place, held_by, is_velocity, is_key, is_release, is_random}
use Rattle.model.specs.States.{with_voices, with_marks, with_velocity, with_key, with_alternate, with_draw, put_state, put_held}
use Rattle.model.specs.NoteCalls.{Note, key_target, note_begun, velocity_set, key_set, randoms_set, alternates, alternated, released_to, noted_on}
use Rattle.engine_notes.specs.Parts.{lane_in, sounding_of, state_with, setting_of}
use Rattle.engine_notes.specs.Noting.{note_kind, held_in, draws_in, randoms_in, alternates_in, value_in, notes_with, sound_on, held_on}
use Rattle.engine_notes.proofs.KindNumbers.{velocity-kind, key-kind, release-kind, random-kind, alternate-kind}

-- ---- part after part

module _ (st : State) (v : ℕ) where
  pub held-is : (p : Kind → Bool) (kind : ℕ) → ((k : Kind) → p k ≡ eqb (note_kind k) kind) → (x : Float) (n : ℕ) (m : List Float)
      → held_by st p v x n m ≡ held_in st.mark (lane_in st v) kind x n m
  unfolding held_by held_in
  held-is p kind h x zero m = refl
  held-is p kind h x (suc n) m =
      let e = held-is p kind h x n m in
      ap (λ (b : List Float). cond (p (mark_at st n).kind) (set b (held_place st n v) x) b) e
      ∙ ap (λ (t : Bool). cond t (set (held_in st.mark (lane_in st v) kind x n m) (held_place st n v) x) (held_in st.mark (lane_in st v) kind x n m)) (h (mark_at st n).kind)

  alternates-are : (on : Bool) (n : ℕ) (m : List Float) → alternates st on v n m ≡ alternates_in st.mark (lane_in st v) on n m
  unfolding alternates alternates_in
  alternates-are on zero m = refl
  alternates-are on (suc n) m =
      let b = alternates_in st.mark (lane_in st v) on n m in
      rw (alternates-are on n m) (alternate-kind (mark_at st n).kind on b (held_place st n v))

module _ (v : ℕ) (w : World) where
  -- a world with so many draws made, and these held numbers
  abbrev drawn_world : ℕ → List Float → World
  drawn_world d m = put_held (put_state w (with_draw w.state d)) m

  one-drawn : (on : Bool) (d i : ℕ) (m : List Float) → (let b = drawn_world d m in
      cond on (put_held (put_state b (with_draw b.state (step b.state.draw))) (set b.held i (draw_of (step b.state.draw)))) b)
      ≡ drawn_world (cond on (step d) d) (cond on (set m i (draw_of (step d))) m)
  unfolding with_draw put_state put_held
  one-drawn true d i m = refl
  one-drawn false d i m = refl

  abbrev pub randoms_world : ℕ → World
  randoms_world k = drawn_world (draws_in w.state.mark w.state.draw k) (randoms_in w.state.mark (lane_in w.state v) w.state.draw k w.held)

  pub randoms-are : (k : ℕ) → randoms_set v k w ≡ randoms_world k
  unfolding randoms_set draws_in randoms_in with_draw put_state put_held
  randoms-are zero = refl
  randoms-are (suc k) =
      let st = w.state in
      let d = draws_in st.mark st.draw k in
      let m = randoms_in st.mark (lane_in st v) st.draw k w.held in
      ap (λ (b : World). cond (is_random (mark_at st k).kind) (put_held (put_state b (with_draw b.state (step b.state.draw))) (set b.held (held_place st k v) (draw_of (step b.state.draw)))) b) (randoms-are k)
      ∙ one-drawn (is_random (mark_at st k).kind) d (held_place st k v) m
      ∙ ap (λ (t : Bool). drawn_world (cond t (step d) d) (cond t (set m (held_place st k v) (draw_of (step d))) m)) (random-kind (mark_at st k).kind)

  module _ (n : Note) where
    abbrev pub velocity_world : World
    velocity_world =
        let st = w.state in
        let x = setting_of w n in
        put_held
        (put_state w (with_velocity st (notes_with st.velocity v x.takes x.velocity x.time x.rate)))
        (value_in st.mark (lane_in st v) 1 x.takes st.velocity x.velocity x.time w.held)

    -- taken, or all as it was
    taken-or-not : (takes : Bool) (a : Notes) (m : List Float) → cond takes (put_held (put_state w (with_velocity w.state a)) m) w
        ≡ put_held (put_state w (with_velocity w.state (cond takes a w.state.velocity))) (cond takes m w.held)
    unfolding with_velocity put_state put_held
    taken-or-not true a m = refl
    taken-or-not false a m = refl

    pub velocity-is : velocity_set v n w ≡ velocity_world
    unfolding notes_with value_in
    velocity-is =
        let st = w.state in
        let x = setting_of w n in
        ap (λ (m : List Float). cond x.takes (put_held (put_state w (with_velocity st (set_note st.velocity v x.velocity x.time x.rate))) (cond (glides_to (value_of st.velocity v) x.velocity x.time) w.held m)) w)
        (held-is st v is_velocity 1 velocity-kind x.velocity (engine_sources st) w.held)
        ∙ taken-or-not x.takes _ _

    abbrev pub key_world : World
    key_world =
        let st = w.state in
        let x = setting_of w n in
        put_held
        (put_state w (with_key st (notes_with st.key v true x.key x.time x.rate)))
        (value_in st.mark (lane_in st v) 2 true st.key x.key x.time w.held)

    pub key-is : key_set v n w ≡ key_world
    unfolding notes_with value_in
    key-is = rw (held-is w.state v is_key 2 key-kind (key_target w n) (engine_sources w.state) w.held)

  abbrev pub alternate_world : World
  alternate_world =
      let st = w.state in
      put_held (put_state w (with_alternate st (not st.alternate))) (alternates_in st.mark (lane_in st v) (not st.alternate) (engine_sources st) w.held)

  pub alternate-is : alternated v w ≡ alternate_world
  alternate-is = rw (alternates-are w.state v (not w.state.alternate) (engine_sources w.state) w.held)

  abbrev pub release_world : Float → World
  release_world x = put_held w (held_in w.state.mark (lane_in w.state v) 3 x (engine_sources w.state) w.held)

  pub release-is : (x : Float) → released_to v x w ≡ release_world x
  release-is x = rw (held-is w.state v is_release 3 release-kind x (engine_sources w.state) w.held)

-- ---- the whole

module _ (v : ℕ) (n : Note) (w : World) where
  pub noted-is : noted_on v n w
      ≡ put_held (put_state w (state_with w.state (sound_on w.state.mark (lane_in w.state v) (sounding_of w.state) (setting_of w n))))
      (held_on w.state.mark (lane_in w.state v) (sounding_of w.state) (setting_of w n) w.held)
  unfolding sound_on held_on with_voices with_marks with_velocity with_key with_alternate with_draw put_state put_held
  noted-is =
      let k = engine_sources w.state in
      let b = note_begun v n w in
      let x = velocity_world v b n in
      let y = key_world v x n in
      let z = randoms_world v y k in
      ap (λ (u : World). released_to v zero32 (alternated v (randoms_set v k (key_set v n u)))) (velocity-is v b n)
      ∙ ap (λ (u : World). released_to v zero32 (alternated v (randoms_set v k u))) (key-is v x n)
      ∙ ap (λ (u : World). released_to v zero32 (alternated v u)) (randoms-are v y k)
      ∙ ap (λ (u : World). released_to v zero32 u) (alternate-is v z)
      ∙ release-is v (alternate_world v z) zero32
