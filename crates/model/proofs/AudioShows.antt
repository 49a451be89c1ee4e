-- WHAT STANDS AT A FRAME of an audio plan after the steps of a block: in each lane the number that the frame gave, from values and audio rows as they stood before it.
-- Assumes nothing.
use mathlib.Core.Path.{◌≡◌, refl, sym, ap, subst, ◌∙◌}
use mathlib.Core.Bool.{Bool, ◌&&◌}
use mathlib.Core.Logic.{◌≢◌, ⊎_elim}
use mathlib.Core.List.{List}
use Prim.Native.Nat.{ℕ, zero, suc, ◌+◌, ◌-◌, ◌≤◌, ◌<◌}
use native.Mathlib.Nat.{eq-or-lt_of_le, le_of_suc-le-suc}
use native.Mathlib.Omega.{arith}
use lib.Dec.{eqb}
use lib.ListN.{length}
use lib.Ieee.{Float}
use Rattle.state.specs.declared.Block.{Block}
use Rattle.state.specs.declared.Chunk.{Chunk}
use Rattle.state.specs.declared.Signals.{Signals}
use Rattle.state.specs.declared.State.{State}
use Rattle.model.specs.Counts.{voice_count, frame_count, stride_of, plan_total, control_total, plan_at, at}
use Rattle.model.specs.Env.{Env}
use Rattle.model.specs.Mix.{plan_mix}
use Rattle.model.specs.Layout.{plan_width, of_frame, row_width, start}
use Rattle.model.specs.Tick.{fill_from, lanes_from, rows_of, own_of, tick_of}
use Rattle.model.specs.Audio.{Sounds, new_audio, row_start, audio_frame, at_frame, audio_frames, audio_plans, audio_of}
use Rattle.model.specs.Chunks.{chunk_of}
use Rattle.model.specs.World.{World}
use Rattle.model.specs.States.{put_state, put_held, put_values, put_audio}
use Rattle.model.specs.Process.{audio_need_of, glided, env_of, snap_at, primed_with, ticked, rowed, after_tick, chunk_step, chunk_steps}
use Rattle.model.proofs.Conds.{cond_of}
use Rattle.model.proofs.LayoutHolds.{parts-inside, parts-apart}
use Rattle.model.proofs.ProgramLayout.{stride-least}
use Rattle.model.proofs.FillFrom.{fill-length, fill-inside, fill-outside}
use Rattle.model.proofs.ShownRows.{sizes_at}
use Rattle.model.proofs.BlockLaws.{clear-of, frames-differ, plans-differ}

-- THE NUMBER THAT FRAME j OF A CHUNK GIVES plan d in lane l; m: as it stood before the frame
abbrev pub given_at : State → Env → Chunk → ℕ → ℕ → Sounds → ℕ → Float
given_at st t c d j m l =
    new_audio (at_frame t (c.start + j) (c.start + c.len) (t.snap && eqb j 0)) (plan_mix st d) (rows_of st m.values) (own_of st m.values d)
    (lanes_from m.audio (row_start st d (c.start + j))) l

module _ (st : State) (t : Env) (same : t.stride ≡ stride_of st) (c : Chunk) where
  frames-long : (d n : ℕ) (m : Sounds) → length (audio_frames st t c d n m).audio ≡ length m.audio
  unfolding audio_frames audio_frame
  frames-long d zero m = refl
  frames-long d (suc n) m = simp (fill-length, frames-long d n m)

  plans-long : (n : ℕ) (m : Sounds) → length (audio_plans st t c n m).audio ≡ length m.audio
  unfolding audio_plans
  plans-long zero m = refl
  plans-long (suc n) m = frames-long (control_total st.program + n) c.len (audio_plans st t c n m) ∙ plans-long n m

  module _ (d j l : ℕ) (there : d < plan_total st.program) (inside : c.start + c.len ≤ frame_count (st)) (early : j < c.len) (lane : l < row_width (sizes_at st) d) where
    abbrev spot : ℕ
    spot = start (sizes_at st) (of_frame d (c.start + j)) + l

    wide : (e : ℕ) → plan_width t.stride (plan_at st e).voice ≡ row_width (sizes_at st) e
    wide e = ap (λ (s : ℕ). plan_width s (plan_at st e).voice) same

    -- another row is filled
    row-keeps : (e f : ℕ) (m : List Float) (g : ℕ → Float) → e < plan_total st.program → f < frame_count st → of_frame e f ≢ of_frame d (c.start + j)
        → at (fill_from m (start (sizes_at st) (of_frame e f)) g (plan_width t.stride (plan_at st e).voice)) spot ≡ at m spot
    row-keeps e f m g a b ne =
        ap (λ (x : ℕ). at (fill_from m (start (sizes_at st) (of_frame e f)) g x) spot) (wide e)
        ∙ fill-outside m (start (sizes_at st) (of_frame e f)) g (row_width (sizes_at st) e) spot
        (clear-of (sizes_at st) (of_frame e f) (of_frame d (c.start + j)) l lane
        (parts-apart (sizes_at st) (stride-least (voice_count st)) (of_frame e f) (of_frame d (c.start + j)) (a, b) (there, omega arith) ne))

    frame-gives : (m : Sounds) → audio_need_of st ≤ length m.audio → at (audio_frames st t c d (suc j) m).audio spot ≡ given_at st t c d j (audio_frames st t c d j m) l
    unfolding audio_frames audio_frame
    frame-gives m room =
        let e = parts-inside (sizes_at st) (stride-least (voice_count st)) (of_frame d (c.start + j)) (there, omega arith) in
        fill-inside (audio_frames st t c d j m).audio (start (sizes_at st) (of_frame d (c.start + j))) (given_at st t c d j (audio_frames st t c d j m)) (plan_width t.stride (plan_at st d).voice) l
        (subst (λ (x : ℕ). l < x) (sym (wide d)) lane) (omega (arith, frames-long d j m))

    frames-give : (m : Sounds) → audio_need_of st ≤ length m.audio → (n : ℕ) → j < n → n ≤ c.len → at (audio_frames st t c d n m).audio spot ≡ given_at st t c d j (audio_frames st t c d j m) l
    unfolding audio_frames audio_frame
    frames-give m room zero h b = absurd (omega arith)
    frames-give m room (suc n) h b =
        ⊎_elim
        (λ (e : j ≡ n). subst (λ (x : ℕ). at (audio_frames st t c d (suc x) m).audio spot ≡ given_at st t c d j (audio_frames st t c d j m) l) e (frame-gives m room))
        (λ (e : j < n).
        let away : c.start + n ≢ c.start + j = λ x. omega arith in
        row-keeps d (c.start + n) (audio_frames st t c d n m).audio _ there (omega arith) (frames-differ d d (c.start + j) (c.start + n) away)
        ∙ frames-give m room n e (omega arith))
        (eq-or-lt_of_le (le_of_suc-le-suc h))

    -- the frames of another plan
    others-keep : (e : ℕ) → e < plan_total st.program → e ≢ d → (n : ℕ) → n ≤ c.len → (m : Sounds) → at (audio_frames st t c e n m).audio spot ≡ at m.audio spot
    unfolding audio_frames audio_frame
    others-keep e a ne zero b m = refl
    others-keep e a ne (suc n) b m =
        row-keeps e (c.start + n) (audio_frames st t c e n m).audio _ a (omega arith) (plans-differ e d (c.start + j) (c.start + n) ne) ∙ others-keep e a ne n (omega arith) m

    -- AFTER ALL AUDIO PLANS, d being number p of them
    plans-give : (p : ℕ) → d ≡ control_total st.program + p → (m : Sounds) → audio_need_of st ≤ length m.audio → (n : ℕ) → p < n → control_total st.program + n ≤ plan_total st.program
        → at (audio_plans st t c n m).audio spot ≡ given_at st t c d j (audio_frames st t c d j (audio_plans st t c p m)) l
    unfolding audio_plans
    plans-give p is m room zero h b = absurd (omega arith)
    plans-give p is m room (suc n) h b =
        ⊎_elim
        (λ (e : p ≡ n).
        subst (λ (x : ℕ). at (audio_frames st t c (control_total st.program + x) c.len (audio_plans st t c x m)).audio spot ≡ given_at st t c d j (audio_frames st t c d j (audio_plans st t c p m)) l) e
        (subst (λ (x : ℕ). at (audio_frames st t c x c.len (audio_plans st t c p m)).audio spot ≡ given_at st t c d j (audio_frames st t c d j (audio_plans st t c p m)) l) is
        (frames-give (audio_plans st t c p m) (omega (arith, plans-long p m)) c.len early (omega arith))))
        (λ (e : p < n).
        others-keep (control_total st.program + n) (omega arith) (λ x. omega arith) c.len (omega arith) (audio_plans st t c n m)
        ∙ plans-give p is m room n e (omega arith))
        (eq-or-lt_of_le (le_of_suc-le-suc h))

    pub sounds-give : (p : ℕ) → d ≡ control_total st.program + p → (m : Sounds) → audio_need_of st ≤ length m.audio
        → at (audio_of st t c m).audio spot ≡ given_at st t c d j (audio_frames st t c d j (audio_plans st t c p m)) l
    unfolding audio_of
    sounds-give p is m room = plans-give p is m room (plan_total st.program - control_total st.program) (omega arith) (omega arith)

-- ---- a step, and the steps of a block

module _ (samples : List Float) (signals : Signals) where
  -- the chunk's audio rows begin with these memories, u being the world after its tick
  abbrev pub sounds_at : ℕ → World → Sounds
  sounds_at n u = record { values = (rowed n u).values; audio = u.audio }

  abbrev pub env_in : ℕ → Chunk → Bool → World → Env
  env_in n c snap u = env_of (rowed n u) samples signals c snap

  after-long : (n : ℕ) (c : Chunk) (snap : Bool) (u : World) → length (after_tick samples signals n c snap u).audio ≡ length u.audio
  unfolding glided put_held put_state put_values put_audio audio_of
  after-long n c snap u = plans-long u.state (env_in n c snap u) refl c (plan_total u.state.program - control_total u.state.program) (sounds_at n u)

  step-long : (n : ℕ) (c : Chunk) (u : World) → length (chunk_step samples signals n c u).audio ≡ length u.audio
  unfolding chunk_step put_state put_values
  step-long n c u =
      after-long n c (snap_at n u) (ticked samples signals c (snap_at n u) u)
      ∙ cond_of (λ (y : World). length y.audio ≡ length u.audio) c.tick (primed_with u (tick_of u.state (env_of u samples signals c (snap_at n u)) c.phase u.values)) u refl refl

  pub steps-long : (b : Block) (n : ℕ) (u : World) → length (chunk_steps samples signals b n u).audio ≡ length u.audio
  unfolding chunk_steps
  steps-long b zero u = refl
  steps-long b (suc n) u = step-long n (chunk_of b n) (chunk_steps samples signals b n u) ∙ steps-long b n u

  -- WHAT STANDS AT FRAME j OF A CHUNK AFTER ITS STEP, u being the world after its tick
  pub after-gives : (n : ℕ) (c : Chunk) (snap : Bool) (u : World) (p j l : ℕ) → control_total u.state.program + p < plan_total u.state.program
      → c.start + c.len ≤ frame_count u.state → j < c.len → l < row_width (sizes_at u.state) (control_total u.state.program + p) → audio_need_of u.state ≤ length u.audio
      → at (after_tick samples signals n c snap u).audio (start (sizes_at u.state) (of_frame (control_total u.state.program + p) (c.start + j)) + l)
      ≡ given_at u.state (env_in n c snap u) c (control_total u.state.program + p) j
      (audio_frames u.state (env_in n c snap u) c (control_total u.state.program + p) j (audio_plans u.state (env_in n c snap u) c p (sounds_at n u))) l
  unfolding glided put_held put_state put_values put_audio
  after-gives n c snap u p j l there inside early lane room =
      sounds-give u.state (env_in n c snap u) refl c (control_total u.state.program + p) j l there inside early lane p refl (sounds_at n u) room

-- frames of a later chunk come later
pub chunks-follow : (b : Block) (n m j : ℕ) → n < m → j < (chunk_of b n).len → suc ((chunk_of b n).start + j) ≤ (chunk_of b m).start
unfolding chunk_of
chunks-follow b n zero j h e = absurd (omega arith)
chunks-follow b zero (suc m) j h e = omega arith
chunks-follow b (suc n) (suc m) j h e = omega arith
