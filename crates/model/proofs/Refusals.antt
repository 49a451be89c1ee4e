-- THE THEOREM ON REFUSALS: whatever the call and the state, a number other than 0 leaves engine, programs and every lent number as they came; the number is that of the first row that
-- applies, in the call's order, and is handed back only where it applies. Assumes nothing.
use mathlib.Core.Path.{◌≡◌, refl, sym, ap, ◌∙◌}
use mathlib.Core.Logic.{◌≢◌, ◌⊎◌, inl, inr}
use mathlib.Core.Bool.{Bool, true, false, cond, ◌||◌}
use mathlib.Core.List.{List, [], ◌∷◌}
use Prim.Native.Nat.{ℕ, max}
use native.Mathlib.Decide.{ℕ_discrete}
use lib.Dec.{ltb}
use lib.ListN.{length, set}
use lib.Ieee.{Float}
use borrow.Author.Tests.{eq-eqb, ne_eqb}
use Rattle.config.specs.Sizes.{most_signal_stride}
use Rattle.config.specs.declared.Config.{Config}
use Rattle.refusal.specs.Judge.{Row, First, ◌when◌, judged}
use Rattle.refusal.proofs.Laws.{judged-first}
use Rattle.feed.proofs.Tests.{which}
use Rattle.state.specs.declared.Sources.{Sources}
use Rattle.state.specs.declared.Destinations.{Destinations}
use Rattle.state.specs.declared.Signals.{Signals}
use Rattle.state.specs.Reading as R
use Rattle.state.specs.declared.State.{State}
use Rattle.model.specs.World.{World, held_place}
use Rattle.model.specs.States.{with_gains, with_draw, with_limit, put_state, put_held, put_bases}
use Rattle.model.specs.Process.{process_rows, process}
use Rattle.model.specs.Settings.{Done, done_by, held_rows, held_world, voice_held_rows, base_rows, gain_rows, with_amount, with_output, set_held, set_voice_held, set_base, set_amount, set_output, set_voice_limit, set_draw, swap_program, refused_state, new_rows, new_engine, bind_signal}
use Rattle.model.specs.Outputs.{reading_number, ramped_number, reading_by, values_short, is_control_plan, ramped, ramp_of, ramp_length, latest_all}
use Rattle.model.specs.NoteCalls.{voice_row, Note, note_on_rows, noted_on, note_off_rows, released_to, voice_ended_rows, ended, note_on, note_off, voice_ended}
use Rattle.model.specs.Calls.{Call, block, other, Other, set-held, set-voice-held, set-base, set-amount, set-output, set-limit, set-draw, start-note, release-note, end-voice, install, lend-program, lend-engine, look, Runner, on_world, program_at, effect_of, called, code_of, call_rows}

-- the number of a call is what its rows say
effect-judged : (o : Other) (r : Runner) → (effect_of o r).code ≡ judged (effect_of o r).rows
unfolding set_held set_voice_held set_base set_amount set_output set_voice_limit set_draw note_on note_off voice_ended swap_program done_by judged
effect-judged (set-held i x) r = refl
effect-judged (set-voice-held i v x) r = refl
effect-judged (set-base d x) r = refl
effect-judged (set-amount n x) r = refl
effect-judged (set-output n x) r = refl
effect-judged (set-limit n) r = refl
effect-judged (set-draw x) r = refl
effect-judged (start-note v n) r = refl
effect-judged (release-note v x) r = refl
effect-judged (end-voice v) r = refl
effect-judged (install k) r = refl
effect-judged (lend-program k values audio tables) r = refl
effect-judged (lend-engine held globals bases) r = refl
effect-judged look r = refl

pub code-judged : (c : Call) (r : Runner) → code_of c r ≡ judged (call_rows c r)
unfolding process judged
code-judged (block samples signals start end) r = refl
code-judged (other o) r = effect-judged o r

-- the first row that applies
pub code-first : (c : Call) (r : Runner) → code_of c r ≢ 0 → First (call_rows c r) (code_of c r)
code-first c r h = judged-first (call_rows c r) (code_of c r) (sym (code-judged c r)) h

-- a call whose rows are judged and whose next world is taken where they accept
abbrev Judged : Done → World → Type 0
Judged d w = d.code ≢ 0 → d.world ≡ w

done_refused : (rows : List Row) (w next : World) → Judged (done_by rows w next) w
unfolding done_by
done_refused rows w next h = simp (ne_eqb (judged rows) 0 h)

module _ (w : World) where
  held-refused : (i : ℕ) (x : Float) → Judged (set_held w i x) w
  unfolding set_held
  held-refused i x h = done_refused (held_rows w i x) w (held_world w i x) h

  voice-held-refused : (i v : ℕ) (x : Float) → Judged (set_voice_held w i v x) w
  unfolding set_voice_held
  voice-held-refused i v x h = done_refused (voice_held_rows w i v x) w (put_held w (set w.held (held_place w.state i v) x)) h

  base-refused : (d : ℕ) (x : Float) → Judged (set_base w d x) w
  unfolding set_base
  base-refused d x h = done_refused (base_rows w d x) w (put_bases w (set w.bases d x)) h

  amount-refused : (n : ℕ) (x : Float) → Judged (set_amount w n x) w
  unfolding set_amount
  amount-refused n x h = done_refused (gain_rows n x) w (put_state w (with_gains w.state (with_amount w.state.gains n x))) h

  output-refused : (n : ℕ) (x : Float) → Judged (set_output w n x) w
  unfolding set_output
  output-refused n x h = done_refused (gain_rows n x) w (put_state w (with_gains w.state (with_output w.state.gains n x))) h

  limit-refused : (n : ℕ) → Judged (set_voice_limit w n) w
  unfolding set_voice_limit
  limit-refused n h = done_refused [] w (put_state w (with_limit w.state (max n 1))) h

  draw-refused : (x : ℕ) → Judged (set_draw w x) w
  unfolding set_draw
  draw-refused x h = done_refused [] w (put_state w (with_draw w.state x)) h

  note-on-refused : (v : ℕ) (n : Note) → Judged (note_on w v n) w
  unfolding note_on
  note-on-refused v n h = done_refused (note_on_rows w v n) w (noted_on v n w) h

  note-off-refused : (v : ℕ) (x : Float) → Judged (note_off w v x) w
  unfolding note_off
  note-off-refused v x h = done_refused (note_off_rows w v x) w (released_to v x w) h

  ended-refused : (v : ℕ) → Judged (voice_ended w v) w
  unfolding voice_ended
  ended-refused v h = done_refused (voice_ended_rows w v) w (put_state w (ended w.state v)) h

  block_refused : (samples : List Float) (signals : Signals) (start end : ℕ) → (process w samples signals start end).code ≢ 0 → (process w samples signals start end).world ≡ w
  unfolding process
  block_refused samples signals start end h = simp (ne_eqb (judged (process_rows w samples signals end)) 0 h)

-- nothing changes
effect-refused : (o : Other) (r : Runner) → (effect_of o r).code ≢ 0 → (effect_of o r).left ≡ r
effect-refused (set-held i x) r h = ap (on_world r) (held-refused r.world i x h)
effect-refused (set-voice-held i v x) r h = ap (on_world r) (voice-held-refused r.world i v x h)
effect-refused (set-base d x) r h = ap (on_world r) (base-refused r.world d x h)
effect-refused (set-amount n x) r h = ap (on_world r) (amount-refused r.world n x h)
effect-refused (set-output n x) r h = ap (on_world r) (output-refused r.world n x h)
effect-refused (set-limit n) r h = ap (on_world r) (limit-refused r.world n h)
effect-refused (set-draw x) r h = ap (on_world r) (draw-refused r.world x h)
effect-refused (start-note v n) r h = ap (on_world r) (note-on-refused r.world v n h)
effect-refused (release-note v x) r h = ap (on_world r) (note-off-refused r.world v x h)
effect-refused (end-voice v) r h = ap (on_world r) (ended-refused r.world v h)
effect-refused (install k) r h = simp (ne_eqb (swap_program r.world.state (program_at r k)).code 0 h)
effect-refused (lend-program k values audio tables) r h = absurd (h refl)
effect-refused (lend-engine held globals bases) r h = absurd (h refl)
effect-refused look r h = absurd (h refl)

pub refused-leaves : (c : Call) (r : Runner) → code_of c r ≢ 0 → called c r ≡ r
refused-leaves (block samples signals start end) r h = ap (on_world r) (block_refused r.world samples signals start end h)
refused-leaves (other o) r h = effect-refused o r h

-- ---- the calls that make an engine, bind a signal, or write what is read

module _ (ss : Sources) (ds : Destinations) (c : Config) (w : World) where
  -- the memories as they came, and the engine of the refusal
  pub new-refused : (new_engine ss ds c w).code ≢ 0 → (new_engine ss ds c w).world ≡ put_state w refused_state
  unfolding new_engine
  new-refused h = simp (ne_eqb (judged (new_rows ss ds c w)) 0 h)

  pub new-first : (new_engine ss ds c w).code ≢ 0 → First (new_rows ss ds c w) (new_engine ss ds c w).code
  unfolding new_engine
  new-first h = judged-first (new_rows ss ds c w) (judged (new_rows ss ds c w)) refl h

pub bind-refused : (s : Signals) (src a n stride : ℕ) → (bind_signal s src a n stride).code ≢ 0 → (bind_signal s src a n stride).signals ≡ s
unfolding bind_signal
bind-refused s src a n stride h = simp (ne_eqb (judged (13 when ltb most_signal_stride stride ∷ [])) 0 h)

module _ (st : State) (values : List Float) where
  pub latest-all-refused : (audio : List Float) (n : ℕ) (out : List Float) → (latest_all st values audio n out).code ≢ 0 → (latest_all st values audio n out).out ≡ out
  unfolding latest_all
  latest-all-refused audio n out h = simp (ne_eqb (latest_all st values audio n out).code 0 h)

  pub ramp-refused : (d v : ℕ) (out : List Float) → ramped_number (ramp_of st values d v out).answer ≢ 0 → (ramp_of st values d v out).out ≡ out
  unfolding ramp_of
  ramp-refused d v out h = go (ℕ_discrete code 0)
    where
      code : ℕ
      code = judged (voice_row st v ∷ 14 when (values_short st values || ltb (length out) (ramp_length st)) ∷ [])

      by-plan : (is_control_plan st d ≡ true) ⊎ (is_control_plan st d ≡ false) → ramped_number (ramped st values d v out).answer ≡ 0
      by-plan (inl t) = rw t refl
      by-plan (inr t) = rw t refl

      go : Dec (code ≡ 0) → (ramp_of st values d v out).out ≡ out
      go (yes e) = absurd (h (simp (eq-eqb code 0 e) (by-plan (which (is_control_plan st d)))))
      go (no ne) = simp (ne_eqb code 0 ne)

-- what a reader answers: the number of its rows
pub reading-judged : (rows : List Row) (b : Bool) (x : Float) → reading_number (reading_by rows b x) ≡ judged rows
reading-judged rows b x = go (ℕ_discrete (judged rows) 0)
  where
    there : (b ≡ true) ⊎ (b ≡ false) → reading_number (cond b (R.Value x) R.Nothing) ≡ 0
    there (inl t) = rw t refl
    there (inr t) = rw t refl

    go : Dec (judged rows ≡ 0) → reading_number (reading_by rows b x) ≡ judged rows
    go (yes e) = simp (eq-eqb (judged rows) 0 e) (there (which b) ∙ sym e)
    go (no ne) = simp (ne_eqb (judged rows) 0 ne)
