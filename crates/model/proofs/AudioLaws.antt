-- AT EACH FRAME OF A BLOCK, of each audio plan and in each lane, stands after all its steps the number that the frame gave: no later frame, plan or chunk moves it.
-- Assumes nothing.
use mathlib.Core.Path.{◌≡◌, refl, ap₂, subst, ◌∙◌}
use mathlib.Core.Logic.{◌≢◌, ⊎_elim}
use mathlib.Core.List.{List}
use Prim.Native.Nat.{ℕ, zero, suc, ◌+◌, ◌≤◌, ◌<◌, min}
use native.Mathlib.Nat.{eq-or-lt_of_le, le_of_suc-le-suc}
use native.Mathlib.Omega.{arith}
use lib.ListN.{length}
use lib.Ieee.{Float}
use Rattle.config.specs.Sizes.{slots, most_voices, most_frames}
use Rattle.config.specs.declared.Config.{Config}
use Rattle.state.specs.declared.Block.{Block}
use Rattle.state.specs.declared.Program.{Program}
use Rattle.state.specs.declared.Signals.{Signals}
use Rattle.state.specs.declared.Wiring.{Wiring}
use Rattle.model.specs.Plans.{compiled}
use Rattle.model.specs.Need.{audio_need}
use Rattle.model.specs.Counts.{voice_count, frame_count, plan_total, control_total, at}
use Rattle.model.specs.Layout.{Sizes, of_frame, row_width, start}
use Rattle.model.specs.Audio.{audio_frames, audio_plans}
use Rattle.model.specs.Chunks.{chunk_of}
use Rattle.model.specs.World.{World}
use Rattle.model.specs.States.{put_state, put_values}
use Rattle.model.specs.Tick.{tick_of}
use Rattle.model.specs.Process.{audio_need_of, env_of, snap_at, primed_with, ticked, chunk_step, chunk_steps}
use Rattle.model.proofs.Conds.{cond_of}
use Rattle.model.proofs.LayoutHolds.{parts-apart}
use Rattle.model.proofs.ProgramLayout.{stride-least}
use Rattle.model.proofs.Frames.{Frame, frame_on, ticked-frame, steps-frame}
use Rattle.model.proofs.ShownRows.{sizes_at}
use Rattle.model.proofs.BlockShows.{sizes-frame}
use Rattle.model.proofs.BlockLeaves.{OffAudio}
use Rattle.model.proofs.BlockUntouched.{moved, step-stay, chunk-last}
use Rattle.model.proofs.BlockLaws.{clear-of, frames-differ}
use Rattle.model.proofs.AudioShows.{given_at, sounds_at, env_in, steps-long, after-gives, chunks-follow}

audio-needs : {u v : World} → Frame u v → audio_need_of v.state ≡ audio_need_of u.state
audio-needs f = ap₂ needs f.config f.program
  where
    needs : Config → Program → ℕ
    needs c p = audio_need (min c.voices most_voices) (min c.max_frames most_frames) (plan_total p)

module _ (w : Wiring) (slotted : length w.matrix.slot ≡ slots) (samples : List Float) (signals : Signals) (b : Block) (u : World) (is : u.state.program ≡ compiled w)
    (room : audio_need_of u.state ≤ length u.audio) (fits : b.end ≤ frame_count u.state) (n p j l : ℕ) where
  abbrev z : Sizes
  z = sizes_at u.state

  -- audio plan number p, and the frame
  abbrev d : ℕ
  d = control_total u.state.program + p

  abbrev f : ℕ
  f = (chunk_of b n).start + j

  -- the world before chunk n, and after its tick
  abbrev y : World
  y = chunk_steps samples signals b n u

  abbrev x : World
  x = ticked samples signals (chunk_of b n) (snap_at n y) y

  -- what the frame gives
  abbrev pub given : Float
  given =
      let t = env_in samples signals n (chunk_of b n) (snap_at n y) x in
      let e = control_total x.state.program + p in
      given_at x.state t (chunk_of b n) e j (audio_frames x.state t (chunk_of b n) e j (audio_plans x.state t (chunk_of b n) p (sounds_at samples signals n x))) l

  x-frame : Frame u x
  x-frame = frame_on (steps-frame samples signals b n u) (ticked-frame samples signals (chunk_of b n) (snap_at n y) y)

  x-long : length x.audio ≡ length u.audio
  unfolding put_state put_values
  x-long =
      cond_of (λ (o : World). length o.audio ≡ length y.audio) (chunk_of b n).tick
      (primed_with y (tick_of y.state (env_of y samples signals (chunk_of b n) (snap_at n y)) (chunk_of b n).phase y.values)) y refl refl
      ∙ steps-long samples signals b n u

  Gives : Sizes → ℕ → Type 0
  Gives s c = c + p < s.plans → (chunk_of b n).start + (chunk_of b n).len ≤ s.frames → l < row_width s (c + p)
      → at (chunk_steps samples signals b (suc n) u).audio (start s (of_frame (c + p) f) + l) ≡ given

  module _ (there : d < plan_total u.state.program) (early : j < (chunk_of b n).len) (lane : l < row_width z d) where
    inside : (chunk_of b n).start + (chunk_of b n).len ≤ frame_count u.state
    unfolding chunk_of
    inside = omega arith

    here : at (chunk_steps samples signals b (suc n) u).audio (start z (of_frame d f) + l) ≡ given
    unfolding chunk_steps chunk_step Gives
    here =
        let g : Gives (sizes_at x.state) (control_total x.state.program) =
        λ a i k. after-gives samples signals n (chunk_of b n) (snap_at n y) x p j l a i early k (omega (arith, audio-needs x-frame, x-long)) in
        subst (λ (s : Sizes). Gives s (control_total u.state.program)) (sizes-frame x-frame)
        (subst (λ (q : Program). Gives (sizes_at x.state) (control_total q)) x-frame.program g) there inside lane

    off : OffAudio z (control_total u.state.program) (suc f) b.end (start z (of_frame d f) + l)
    off e g a k s q =
        let away : g ≢ f = λ r. omega arith in
        clear-of z (of_frame e g) (of_frame d f) l lane
        (parts-apart z (stride-least (voice_count u.state)) (of_frame e g) (of_frame d f) (k, omega arith) (there, omega (arith, inside)) (frames-differ e d f g away))

    -- AFTER EACH LATER CHUNK
    pub audio-shown : (k : ℕ) → n < k → at (chunk_steps samples signals b k u).audio (start z (of_frame d f) + l) ≡ given
    unfolding chunk_steps
    audio-shown zero h = absurd (omega arith)
    audio-shown (suc k) h =
        ⊎_elim
        (λ (e : n ≡ k). subst (λ (i : ℕ). at (chunk_steps samples signals b (suc i) u).audio (start z (of_frame d f) + l) ≡ given) e here)
        (λ (e : n < k).
        let o = chunk_steps samples signals b k u in
        let g = steps-frame samples signals b k u in
        step-stay w slotted samples signals (start z (of_frame d f) + l) (suc f) b.end k (chunk_of b k) o (g.program ∙ is)
        (moved w slotted samples signals (λ s c. OffAudio s c (suc f) b.end (start z (of_frame d f) + l)) g off) (chunks-follow b n k j e early) (chunk-last w slotted samples signals b k)
        ∙ audio-shown k e)
        (eq-or-lt_of_le (le_of_suc-le-suc h))
