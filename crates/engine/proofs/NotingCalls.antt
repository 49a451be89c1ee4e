-- What the note calls answer, from what their helpers ensure. Assumes nothing.
use mathlib.Core.Path.{◌≡◌, refl, sym, ap, ◌∙◌}
use mathlib.Core.Bool.{Bool, true, false, cond, not, ◌||◌}
use mathlib.Core.List.{List, [], ◌∷◌}
use Rattle.std.specs.Prelude.{Ok, Err}
use Prim.Native.Nat.{ℕ, ◌<◌, min}
use native.Mathlib.Omega.{arith}
use borrow.Author.Tests.{leb-false}
use lib.Dec.{eqb, leb, ltb}
use lib.ListN.{length}
use lib.Ieee.{Float}
use Rattle.config.specs.Sizes.{most_voices}
use Rattle.refusal.specs.Judge.{Row, judged, ◌when◌}
use Rattle.number.specs.Number.{finite}
use Rattle.voice.specs.Voices.{is_sounding}
use Rattle.refusal.specs.declared.Refusal.TheVariants as R
use Rattle.state.specs.declared.State.{State}
use Rattle.model.specs.Counts.{voice_count}
use Rattle.model.specs.World.{World, world_of}
use Rattle.model.specs.States.{with_voices, with_marks, with_velocity, with_key, put_state, put_held}
use Rattle.model.specs.Process.{tables_need_of}
use Rattle.model.specs.Settings.{Done, held_short}
use Rattle.model.specs.NoteCalls.{Note, note_finite, note_on_rows, note_on, noted_on, note_off_rows, note_off, released_to, voice_ended_rows, voice_ended, ended, is_active}
use Rattle.engine_notes.specs.declared.Lane.{Lane}
use Rattle.engine_notes.specs.declared.Setting.{Setting}
use Rattle.engine_notes.specs.declared.Sounding.{Sounding}
use Rattle.engine_notes.specs.Noting.{Inside, held_in, sound_on, held_on, sound_ended}
use Rattle.engine_notes.specs.Parts.{lane_in, sounding_of, state_with, setting_of}
use Rattle.engine_notes.proofs.Whole.{noted-is, release-is}
use Rattle.engine.specs.Said.{flag_said}
use Rattle.engine.proofs.ByNumber.{done-code, done-part, done-kept}

-- where the first row does not apply
first-passed : (a : Bool) (rows : List Row) → judged (2 when a ∷ rows) ≡ 0 → a ≡ false
unfolding judged
first-passed true rows h = absurd (omega arith)
first-passed false rows h = refl

-- an accepted call's voice is there
pub voice-below : (code v voices : ℕ) (a : Bool) (rows : List Row) → a ≡ leb (min voices most_voices) v → code ≡ judged (2 when a ∷ rows) → code ≡ 0 → v < most_voices
voice-below code v voices a rows e h z =
    let f = leb-false (min voices most_voices) v (sym e ∙ first-passed a rows (sym h ∙ z)) in
    omega arith

-- and its lane stands inside
pub inside : (st : State) (v : ℕ) (lane : Lane) → v < most_voices → lane ≡ lane_in st v → Inside lane
inside st v lane h e = rw e (record { few = omega arith; narrow = omega arith; voiced = h })

-- what a call leaves, as a call's answer says it
abbrev pub Left : Done → ℕ → State → List Float → Type 0
Left d code st held = (code ≡ d.code) × ((st ≡ d.world.state) × (held ≡ d.world.held))

-- ---- note-on

module _ (st : State) (held tables : List Float) (v : ℕ) (n : Note) where
  abbrev on_world : World
  on_world = world_of st held [] [] [] [] tables

  module _
      (code : ℕ)
      (missing fits short : Bool)
      (missing-is : missing ≡ leb (voice_count st) v)
      (fits-is : fits ≡ note_finite n)
      (short-is : short ≡ (held_short on_world || ltb (length tables) (tables_need_of st)))
      (code_is : code ≡ judged (2 when missing ∷ 6 when not fits ∷ 14 when short ∷ []))
    where
      -- what sounds by the number, or what sounded before
      sounding-by : (b : Bool) (s : Sounding) → state_with st (cond b s (sounding_of st)) ≡ cond b (state_with st s) st
      sounding-by true s = refl
      sounding-by false s = refl

      pub on-done : (lane : Lane) (x : Setting) (next : Sounding) (after : List Float) → lane ≡ lane_in st v
          → x ≡ setting_of (world_of st held [] [] [] [] tables) n → next ≡ cond (eqb code 0) (sound_on st.mark lane (sounding_of st) x) (sounding_of st)
          → after ≡ cond (eqb code 0) (held_on st.mark lane (sounding_of st) x held) held
          → Left (note_on (world_of st held [] [] [] [] tables) v n) code (state_with st next) after
      unfolding note_on put_state put_held
      on-done lane x next after e f g h =
          let u = world_of st held [] [] [] [] tables in
          let rows = note_on_rows u v n in
          let j : code ≡ judged rows = code_is ∙ rw (missing-is, fits-is, short-is) in
          let made = noted_on v n u in
          let s = ap (λ (y : World). y.state) (noted-is v n u) in
          let m = ap (λ (y : World). y.held) (noted-is v n u) in (
            done-code rows u made code j,
            (
              ap (state_with st) g
                  ∙ sounding-by (eqb code 0) (sound_on st.mark lane (sounding_of st) x)
                  ∙ rw (e, f) (ap (λ (y : State). cond (eqb code 0) y st) (sym s))
                  ∙ done-part rows u made code j (λ (y : World). y.state),
              h
                  ∙ rw (e, f) (ap (λ (y : List Float). cond (eqb code 0) y held) (sym m))
                  ∙ done-part rows u made code j (λ (y : World). y.held),
            ),
          )

-- ---- note-off

module _ (st : State) (held : List Float) (v : ℕ) (x : Float) where
  module _
      (code : ℕ)
      (missing fits short : Bool)
      (missing-is : missing ≡ leb (voice_count st) v)
      (fits-is : fits ≡ finite x)
      (short-is : short ≡ held_short (world_of st held [] [] [] [] []))
      (code_is : code ≡ judged (2 when missing ∷ 6 when not fits ∷ 14 when short ∷ []))
    where
      pub off-done : (lane : Lane) (after : List Float) → lane ≡ lane_in st v → after ≡ cond (eqb code 0) (held_in st.mark lane 3 x lane.sources held) held
          → Left (note_off (world_of st held [] [] [] [] []) v x) code st after
      unfolding note_off put_held
      off-done lane after e h =
          let u = world_of st held [] [] [] [] [] in
          let rows = note_off_rows u v x in
          let j : code ≡ judged rows = code_is ∙ rw (missing-is, fits-is, short-is) in
          let made = released_to v x u in
          let s = ap (λ (y : World). y.state) (release-is v u x) in
          let m = ap (λ (y : World). y.held) (release-is v u x) in (
            done-code rows u made code j,
            (
              done-kept rows u made code j (λ (y : World). y.state) s,
              h
                  ∙ rw e (ap (λ (y : List Float). cond (eqb code 0) y held) (sym m))
                  ∙ done-part rows u made code j (λ (y : World). y.held),
            ),
          )

-- ---- a voice's end

module _ (st : State) (held : List Float) (v : ℕ) where
  module _
      (code : ℕ)
      (missing short : Bool)
      (missing-is : missing ≡ leb (voice_count st) v)
      (short-is : short ≡ held_short (world_of st held [] [] [] [] []))
      (code_is : code ≡ judged (2 when missing ∷ 6 when not true ∷ 14 when short ∷ []))
    where
      end-judged : judged (voice_ended_rows (world_of st held [] [] [] [] []) v) ≡ code
      unfolding judged
      end-judged = sym (code_is ∙ rw (missing-is, short-is))

      -- what sounds by the number, or what sounded before
      abbrev heard : Sounding → State
      heard s = with_key (with_velocity (with_marks (with_voices st s.voices) s.marks) s.velocity) s.key

      heard-by : (b : Bool) → heard (cond b (sound_ended (sounding_of st) v) (sounding_of st)) ≡ cond b (ended st v) st
      unfolding sound_ended with_voices with_marks with_velocity with_key
      heard-by true = refl
      heard-by false = refl

      pub end-done : (next : Sounding) → next ≡ cond (eqb code 0) (sound_ended (sounding_of st) v) (sounding_of st)
          → (code ≡ (voice_ended (world_of st held [] [] [] [] []) v).code)
          × (with_key (with_velocity (with_marks (with_voices st next.voices) next.marks) next.velocity) next.key
          ≡ (voice_ended (world_of st held [] [] [] [] []) v).world.state)
      unfolding voice_ended put_state
      end-done next e =
          let u = world_of st held [] [] [] [] [] in
          let rows = voice_ended_rows u v in
          let made = put_state u (ended st v) in (
            done-code rows u made code (sym end-judged),
            ap heard e ∙ heard-by (eqb code 0) ∙ done-part rows u made code (sym end-judged) (λ (y : World). y.state),
          )

-- ---- whether a voice is active

module _ (st : State) (v : ℕ) (missing : Bool) (missing-is : missing ≡ leb (voice_count st) v) where
  pub no-such-voice : missing ≡ true → flag_said (Err R.Voice) ≡ is_active st v
  unfolding is_active judged
  no-such-voice h = simp (sym missing-is ∙ h)

  pub such-a-voice : missing ≡ false → (on : Bool) → on ≡ is_sounding st.voices v → flag_said (Ok on) ≡ is_active st v
  unfolding is_active judged
  such-a-voice h on e = simp (sym missing-is ∙ h, e)
