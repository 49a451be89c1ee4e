-- The answers of the calls that read one number, case by case. Assumes nothing.
use mathlib.Core.Path.{◌≡◌, refl, sym, ap, ◌∙◌}
use mathlib.Core.Bool.{Bool, true, false, not, cond, ◌&&◌, ◌||◌}
use mathlib.Core.List.{List, [], ◌∷◌}
use Prim.Native.Nat.{ℕ, ◌+◌, ◌-◌, ◌*◌, ◌≤◌, ◌<◌}
use native.Mathlib.Omega.{arith}
use borrow.Author.Tests.{lt-ltb, le-ltb}
use lib.Dec.{ltb}
use lib.ListN.{get_or}
use lib.Ieee.{Float, nan}
use Rattle.refusal.specs.Judge.{Row, ◌when◌, judged}
use Rattle.config.specs.Sizes.{most_voices}
use Rattle.state.specs.declared.State.{State}
use Rattle.state.specs.Reading as R
use Rattle.model.specs.Counts.{voice_count, frame_count, plan_at}
use Rattle.model.specs.Chunks.{chunk_total}
use Rattle.model.specs.NoteCalls.{voice_row}
use Rattle.model.specs.Outputs.{values_short, audio_short, plan_place, has_plan, is_audio_plan, is_control_plan, has_latest, latest_number, audio_number, to_number, audio_at, control_value, latest_of}
use Rattle.engine_reads.specs.Spot.{spot_of}
use Rattle.engine_reads.specs.declared.Spot.{Spot}
use Rattle.engine_reads.proofs.Readings.{read-refused, read-nothing, read-value, accepted}
use Rattle.engine_reads.proofs.Spots.{audio-is, control-is, audio-number-is, to-number-is}

-- the test of row 14, computed
pub same_code : {code : ℕ} (r : Row) {a b : Bool} → code ≡ judged (r ∷ 14 when a ∷ []) → a ≡ b → code ≡ judged (r ∷ 14 when b ∷ [])
same_code r e q = e ∙ ap (λ (x : Bool). judged (r ∷ 14 when x ∷ [])) q

pub voice-most : (st : State) (v : ℕ) (b : Bool) {code : ℕ} → code ≡ judged (voice_row st v ∷ 14 when b ∷ []) → code ≡ 0 → v ≤ most_voices
voice-most st v b e z = omega (arith, accepted (voice_count st) v b (sym e ∙ z))

-- ---- at

module _ (st : State) (m : List Float) (d k v : ℕ) {code : ℕ} (e : code ≡ judged (voice_row st v ∷ 14 when audio_short st m ∷ [])) where
  abbrev at_rows : List Row
  at_rows = voice_row st v ∷ 14 when audio_short st m ∷ []

  abbrev at_there : Bool
  at_there = is_audio_plan st d && ltb k (frame_count st)

  pub at-refused : (code ≡ 0 → ⊥) → R.Refused code ≡ audio_at st m d k v
  unfolding audio_at
  at-refused h = read-refused at_rows at_there (audio_number st m d k v) e h

  module _ (z : code ≡ 0) (s : Spot) (q : s ≡ spot_of st d) where
    pub at_none : s.audio ≡ false → R.Nothing ≡ audio_at st m d k v
    unfolding audio_at
    at_none a =
        let no : is_audio_plan st d ≡ false = sym (audio-is st d s q) ∙ a in
        read-nothing at_rows at_there (audio_number st m d k v) e z (rw no)

    pub at-past : s.audio ≡ true → frame_count st ≤ k → R.Nothing ≡ audio_at st m d k v
    unfolding audio_at
    at-past a b =
        let yes : is_audio_plan st d ≡ true = sym (audio-is st d s q) ∙ a in
        read-nothing at_rows at_there (audio_number st m d k v) e z (rw (yes, le-ltb k (frame_count st) b))

    pub at_value : s.audio ≡ true → k < frame_count st → {y : Float} → y ≡ get_or m (s.rows + k * s.width + cond s.voice v 0) nan
        → R.Value y ≡ audio_at st m d k v
    unfolding audio_at
    at_value a b y-is =
        let yes : is_audio_plan st d ≡ true = sym (audio-is st d s q) ∙ a in
        read-value at_rows at_there (audio_number st m d k v) e z (rw (yes, lt-ltb k (frame_count st) b)) (y-is ∙ audio-number-is st d s q m k v)

-- ---- value

module _ (st : State) (m : List Float) (d k v : ℕ) {code : ℕ} (e : code ≡ judged (voice_row st v ∷ 14 when values_short st m ∷ [])) where
  abbrev value_rows : List Row
  value_rows = voice_row st v ∷ 14 when values_short st m ∷ []

  abbrev value_there : Bool
  value_there = is_control_plan st d && ltb k (chunk_total st.block)

  pub value-refused : (code ≡ 0 → ⊥) → R.Refused code ≡ control_value st m d k v
  unfolding control_value
  value-refused h = read-refused value_rows value_there (to_number st m d k v) e h

  module _ (z : code ≡ 0) (s : Spot) (q : s ≡ spot_of st d) where
    pub value_none : s.control ≡ false → R.Nothing ≡ control_value st m d k v
    unfolding control_value
    value_none a =
        let no : is_control_plan st d ≡ false = sym (control-is st d s q) ∙ a in
        read-nothing value_rows value_there (to_number st m d k v) e z (rw no)

    pub value-past : s.control ≡ true → chunk_total st.block ≤ k → R.Nothing ≡ control_value st m d k v
    unfolding control_value
    value-past a b =
        let yes : is_control_plan st d ≡ true = sym (control-is st d s q) ∙ a in
        read-nothing value_rows value_there (to_number st m d k v) e z (rw (yes, le-ltb k (chunk_total st.block) b))

    pub value-value : s.control ≡ true → k < chunk_total st.block → {y : Float} → y ≡ get_or m (s.to + k * s.width + cond s.voice v 0) nan
        → R.Value y ≡ control_value st m d k v
    unfolding control_value
    value-value a b y-is =
        let yes : is_control_plan st d ≡ true = sym (control-is st d s q) ∙ a in
        read-value value_rows value_there (to_number st m d k v) e z (rw (yes, lt-ltb k (chunk_total st.block) b)) (y-is ∙ to-number-is st d s q m k v)

-- ---- latest

-- a plan is at audio rate or at control rate
by-audio : (a b : Bool) → (a && b) ≡ true → a ≡ true
by-audio true b h = refl
by-audio false b h = h

by-neither : (a b : Bool) → (a && b) ≡ false → (a && not b) ≡ false → a ≡ false
by-neither true true h g = h
by-neither true false h g = g
by-neither false b h g = refl

module _ (st : State) (d : ℕ) where
  pub audio-has : is_audio_plan st d ≡ true → has_plan st d ≡ true
  audio-has h = by-audio (has_plan st d) (plan_at st (plan_place st d)).audio h

  pub control-has : is_control_plan st d ≡ true → has_plan st d ≡ true
  control-has h = by-audio (has_plan st d) (not (plan_at st (plan_place st d)).audio) h

  pub neither-has : is_audio_plan st d ≡ false → is_control_plan st d ≡ false → has_plan st d ≡ false
  neither-has h g = by-neither (has_plan st d) (plan_at st (plan_place st d)).audio h g

module _ (st : State) (values audio : List Float) (d v : ℕ) {code : ℕ}
    (e : code ≡ judged (voice_row st v ∷ 14 when (values_short st values || audio_short st audio) ∷ [])) where
  abbrev latest_rows : List Row
  latest_rows = voice_row st v ∷ 14 when (values_short st values || audio_short st audio) ∷ []

  pub latest-refused : (code ≡ 0 → ⊥) → R.Refused code ≡ latest_of st values audio d v
  unfolding latest_of
  latest-refused h = read-refused latest_rows (has_latest st d) (latest_number st values audio d v) e h

  module _ (z : code ≡ 0) where
    no-latest : has_latest st d ≡ false → R.Nothing ≡ latest_of st values audio d v
    unfolding latest_of
    no-latest h = read-nothing latest_rows (has_latest st d) (latest_number st values audio d v) e z h

    pub latest-empty : chunk_total st.block ≡ 0 → R.Nothing ≡ latest_of st values audio d v
    latest-empty h = no-latest (go (has_plan st d))
      where
        go : (b : Bool) → (b && ltb 0 (chunk_total st.block)) ≡ false
        go true = le-ltb 0 (chunk_total st.block) (omega arith)
        go false = refl

    module _ (some : chunk_total st.block ≡ 0 → ⊥) (s : Spot) (q : s ≡ spot_of st d) where
      ticked : ltb 0 (chunk_total st.block) ≡ true
      ticked = lt-ltb 0 (chunk_total st.block) (omega arith)

      pub latest-none : s.audio ≡ false → s.control ≡ false → R.Nothing ≡ latest_of st values audio d v
      latest-none a b = no-latest (rw (neither-has st d (sym (audio-is st d s q) ∙ a) (sym (control-is st d s q) ∙ b)))

      pub latest-audio : s.audio ≡ true → {y : Float} → y ≡ get_or audio (s.rows + (st.block.end - 1) * s.width + cond s.voice v 0) nan
          → R.Value y ≡ latest_of st values audio d v
      unfolding latest_of
      latest-audio a y-is =
          let yes : is_audio_plan st d ≡ true = sym (audio-is st d s q) ∙ a in
          read-value latest_rows (has_latest st d) (latest_number st values audio d v) e z (rw (audio-has st d yes, ticked)) (rw yes (y-is ∙ audio-number-is st d s q audio (st.block.end - 1) v))

      pub latest-control : s.audio ≡ false → s.control ≡ true → {y : Float}
          → y ≡ get_or values (s.to + (chunk_total st.block - 1) * s.width + cond s.voice v 0) nan → R.Value y ≡ latest_of st values audio d v
      unfolding latest_of
      latest-control a b y-is =
          let no : is_audio_plan st d ≡ false = sym (audio-is st d s q) ∙ a in
          let yes : is_control_plan st d ≡ true = sym (control-is st d s q) ∙ b in
          read-value latest_rows (has_latest st d) (latest_number st values audio d v) e z (rw (control-has st d yes, ticked)) (rw no (y-is ∙ to-number-is st d s q values (chunk_total st.block - 1) v))
