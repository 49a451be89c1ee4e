-- Frames and plans done one after the other are the audio of the chunk. Assumes nothing.
use mathlib.Core.Path.{◌≡◌, refl, sym, ap, ap₂, ◌∙◌, subst}
use mathlib.Core.Bool.{Bool, ◌&&◌}
use mathlib.Core.List.{List}
use Prim.Native.Nat.{ℕ, zero, suc, ◌+◌, ◌-◌, ◌*◌, ◌≤◌, ◌<◌}
use native.Mathlib.Nat.{zero-add, add-mul}
use native.Mathlib.Numerals.{add-one}
use native.Mathlib.Omega.{arith}
use lib.Dec.{eqb}
use lib.ListN.{length, get_or}
use lib.Ieee.{Float}
use Rattle.list.specs.Part.{part, on_part}
use Rattle.state_filled.specs.Filled.{no_plan}
use Rattle.state.specs.declared.Chunk.{Chunk}
use Rattle.state.specs.declared.Plan.{Plan}
use Rattle.state.specs.declared.Route.{Route}
use Rattle.state.specs.declared.State.{State}
use Rattle.model.specs.Audio.{Sounds, new_audio, row_start, at_frame, audio_frame, audio_frames, audio_plans, audio_of}
use Rattle.model.specs.Counts.{stride_of, chunks_most, frame_count, control_total, plan_at, at}
use Rattle.model.specs.Env.{Env, Rows, Own}
use Rattle.model.specs.Layout.{plan_width, audio_row}
use Rattle.model.specs.Mix.{Mix, plan_mix}
use Rattle.model.specs.Tick.{mix_width, fill_from, lanes_from, rows_of, own_of, put_slews, slew_after}
use Rattle.model.proofs.FillFrom.{fill-same}
use Rattle.lane_input.specs.Reads.{plan_rows}
use Rattle.lane.specs.View.{own_rows}
use Rattle.plan_sum.specs.declared.Job.{Job}
use Rattle.plan_sum.specs.Job.{lane_count, IsMix, Sums}
use Rattle.plan_sum.proofs.Jobs.{plan-mix, job-sums, job-width}
use Rattle.config.specs.Sizes.{slots}
use Rattle.plan_slews.specs.Put.{IsNew}
use Rattle.plan_slews.specs.Rows.{IsRow}
use Rattle.plan_slews.specs.Seen as S
use Rattle.audio_rows.specs.declared.Work.{Work}
use Rattle.audio_rows.specs.Rows.{sounds, job_at, job_env, Of, width_at, row_frame, row_frames}
use Rattle.audio_rows.specs.Work.{Installed, job_of, work_env}
use Rattle.audio_rows.proofs.Parts.{with_part, frames-part}

-- ---- one frame

module _ (st : State) (d : ℕ) (w : Job) (o : Of st d w) where
  is-mix : IsMix (plan_mix st d) w.plan w.routes
  is-mix =
      subst (λ (r : List Route). IsMix (plan_mix st d) w.plan r) o.routes
      (subst (λ (p : Plan). IsMix (plan_mix st d) p st.program.route) o.plan (plan-mix st d))

  lies : S.Lies st d w.scene.stride w.chunks w.plans w.plan.first
  lies = record { stride = o.stride; chunks = o.chunks; plans = o.plans; first = ap (λ (p : Plan). p.first) o.plan }

  abbrev rows : List Float → Rows
  rows v = plan_rows w.scene.stride w.chunks v

  abbrev owns : List Float → Own
  owns v = own_rows w.scene.stride w.chunks w.plans w.plan.first v

  rows_are : (v : List Float) → rows v ≡ rows_of st v
  rows_are v = ap₂ (λ (s c : ℕ). plan_rows s c v) (sym o.stride) (sym o.chunks)

  owns-are : (v : List Float) → owns v ≡ own_of st v d
  owns-are v =
      ap₂ (λ (s c : ℕ). own_rows s c w.plans w.plan.first v) (sym o.stride) (sym o.chunks)
      ∙ ap₂ (λ (n a : ℕ). own_rows (stride_of st) (chunks_most st) n a v) (sym o.plans) (sym (ap (λ (p : Plan). p.first) o.plan))

  width_is : lane_count w ≡ width_at st d
  width_is = sym (ap₂ plan_width o.stride (ap (λ (p : Plan). p.voice) o.plan))

  module _ (h g a b i : List Float) where
    -- the row put, and the slews
    frame-put : (t : Env) (start n : ℕ) (v u v' u' row : List Float) → lane_count w ≡ mix_width t (plan_mix st d) → n ≡ lane_count w
        → v' ≡ put_slews st d (slew_after t (plan_mix st d) (rows v) (owns v)) (plan_mix st d).count v
        → u' ≡ fill_from u start (at row) n
        → IsRow (lane_count w) (new_audio t (plan_mix st d) (rows v) (owns v) (lanes_from u start)) row
        → sounds v' u' ≡ row_frame st t d start (sounds v u)
    unfolding row_frame
    frame-put t start n v u v' u' row width many e k r =
        let x : Mix = plan_mix st d in
        let new : Rows → Own → ℕ → Float = λ f s. new_audio t x f s (lanes_from u start) in
        ap₂ sounds
        (e ∙ ap₂ (λ (f : Rows) (s : Own). put_slews st d (slew_after t x f s) x.count v) (rows_are v) (owns-are v))
        (k
        ∙ ap (fill_from u start (at row)) many
        ∙ fill-same u start (at row) (new (rows v) (owns v)) (lane_count w) r
        ∙ ap (fill_from u start (new (rows v) (owns v))) width
        ∙ ap₂ (λ (f : Rows) (s : Own). fill_from u start (new f s) (mix_width t x)) (rows_are v) (owns-are v))

    -- THE FRAME, by what its parts say
    pub frame-done : (start n : ℕ) (v u v' u' old row new : List Float) → n ≡ lane_count w → IsRow n (lanes_from u start) old
        → ((t : Env) (f : Rows) (s : Own) (x : Mix) → Sums t f s x w h g a b i v
        → ((q : ℕ → Float) → IsRow (lane_count w) q old → IsRow (lane_count w) (new_audio t x f s q) row) × ((j : ℕ) → j < x.count → j < slots → IsNew t x f s j (x.route j) new))
        → ((t : Env) (x : Mix) (st : State) (d : ℕ) → t.stride ≡ w.scene.stride → IsMix x w.plan w.routes → S.Lies st d w.scene.stride w.chunks w.plans w.plan.first
        → ((j : ℕ) → j < x.count → j < slots → IsNew t x (rows v) (owns v) j (x.route j) new) → v' ≡ put_slews st d (slew_after t x (rows v) (owns v)) x.count v)
        → u' ≡ fill_from u start (at row) n → sounds v' u' ≡ row_frame st (job_env w h g a b i) d start (sounds v u)
    frame-done start n v u v' u' old row new many was made slews put =
        let x : Mix = plan_mix st d in
        let t : Env = job_env w h g a b i in
        let sums : Sums t (rows v) (owns v) x w h g a b i v = job-sums w x h g a b i v is-mix in
        let all = made t (rows v) (owns v) x sums in
        frame-put t start n v u v' u' row (job-width sums.mixes.job) many (slews t x st d refl is-mix lies all.1) put
        (all.0 (lanes_from u start) (λ l b. was l (omega arith)))

    -- ---- frame after frame

    pub frames-none : (c : Chunk) (m : Sounds) → m ≡ row_frames st (job_env w h g a b i) c d 0 0 m
    unfolding row_frames
    frames-none c m = refl

    at-frame : (c : Chunk) (n : ℕ) → Of st d (job_at w c n)
    at-frame c n = record { stride = o.stride; chunks = o.chunks; plans = o.plans; plan = o.plan; routes = o.routes }

    pub frames-more : (c : Chunk) (n start width : ℕ) (m₀ m m' : Sounds) {here : Job} → here ≡ job_at w c n → width ≡ lane_count w → start ≡ n * width
        → m ≡ row_frames st (job_env w h g a b i) c d 0 n m₀
        → ((st : State) (d : ℕ) → Of st d here → m' ≡ row_frame st (job_env here h g a b i) d start m)
        → m' ≡ row_frames st (job_env w h g a b i) c d 0 (n + 1) m₀
    unfolding row_frames
    frames-more c n start width m₀ m m' {here} e k p q f =
        let t : Env = job_env (job_at w c n) h g a b i in
        rw add-one
        (subst (λ (z : Job). Of st d z → m' ≡ row_frame st (job_env z h g a b i) d start m) e (f st d) (at-frame c n)
        ∙ ap (λ (z : ℕ). row_frame st t d z m) (p ∙ ap (λ (z : ℕ). n * z) (k ∙ width_is) ∙ sym (zero-add (n * width_at st d)))
        ∙ ap (row_frame st t d (0 + n * width_at st d)) q)

    pub frames-end : (c : Chunk) (n k : ℕ) (m₀ m : Sounds) → m ≡ row_frames st (job_env w h g a b i) c d 0 n m₀ → n ≡ k → m ≡ row_frames st (job_env w h g a b i) c d 0 k m₀
    frames-end c n k m₀ m e q = e ∙ ap (λ (z : ℕ). row_frames st (job_env w h g a b i) c d 0 z m₀) q

-- ---- where the rows lie

place-more : (p k n w : ℕ) → p + k * w + n * w ≡ p + (k + n) * w
place-more p k n w = omega (arith, add-mul k n w)

-- the frame of the definition has its row there
pub frame_is : (st : State) (t : Env) (d : ℕ) (m : Sounds) → row_frame st t d (row_start st d t.frame) m ≡ audio_frame st t d m
unfolding row_frame audio_frame
frame_is st t d m = refl

abbrev at_n : Env → Chunk → ℕ → Env
at_n t c n = at_frame t (c.start + n) (c.start + c.len) (t.snap && eqb n 0)

pub frames-are : (st : State) (t : Env) (c : Chunk) (d n : ℕ) (m : Sounds) → row_frames st t c d (row_start st d c.start) n m ≡ audio_frames st t c d n m
unfolding row_frames audio_frames
frames-are st t c d zero m = refl
frames-are st t c d (suc n) m =
    let a : ℕ = row_start st d c.start in
    ap (λ (z : Sounds). row_frame st (at_n t c n) d (a + n * width_at st d) z) (frames-are st t c d n m)
    ∙ ap (λ (z : ℕ). row_frame st (at_n t c n) d z (audio_frames st t c d n m)) (place-more (d * (stride_of st * frame_count st)) c.start n (width_at st d))
    ∙ frame_is st (at_n t c n) d (audio_frames st t c d n m)

-- ---- plan after plan

module _ (st : State) (w : Work) (e : Installed st w) (h g a b i : List Float) (c : Chunk) where
  plan-of : (d : ℕ) (y : Bool) → Of st d (job_of w (get_or w.plan d no_plan) y)
  unfolding plan_at
  plan-of d y =
      record { stride = e.stride; chunks = e.chunks; plans = e.plans; plan = ap (λ (l : List Plan). get_or l d no_plan) e.plan; routes = e.routes }

  start_is : (d from width : ℕ) (y : Bool) → width ≡ lane_count (job_of w (get_or w.plan d no_plan) y) → from ≡ audio_row w.scene.stride w.frames d width c.start → from ≡ row_start st d c.start
  start_is d from width y k p =
      p
      ∙ ap (λ (z : ℕ). audio_row w.scene.stride w.frames d z c.start) (k ∙ width_is st d (job_of w (get_or w.plan d no_plan) y) (plan-of d y))
      ∙ ap₂ (λ (s f : ℕ). audio_row s f d (width_at st d) c.start) (sym e.stride) (sym e.frames)

  -- THE PLAN, by what its frames say of the part of the audio that is theirs
  pub plan-done : (d from to width : ℕ) (v u v' u' : List Float) {job : Job} → job ≡ job_of w (get_or w.plan d no_plan) job.simple → width ≡ lane_count job → from ≡ audio_row w.scene.stride w.frames d width c.start
      → to ≡ from + c.len * width → to ≤ length u
      → ((st : State) (d : ℕ) → Of st d job → sounds v' u' ≡ row_frames st (job_env job h g a b i) c d 0 c.len (sounds v (part u from to)))
      → sounds v' (on_part u from to u') ≡ audio_frames st (work_env w h g a b i) c d c.len (sounds v u)
  plan-done d from to width v u v' u' {job = found} q k p r long f =
      let y : Bool = found.simple in
      let job : Job = job_of w (get_or w.plan d no_plan) y in
      let t : Env = work_env w h g a b i in
      let wide : width ≡ width_at st d = k ∙ ap lane_count q ∙ width_is st d job (plan-of d y) in
      let end : to ≡ from + c.len * width_at st d = r ∙ ap (λ (z : ℕ). from + c.len * z) wide in
      ap (with_part u from to) (subst (λ (z : Job). Of st d z → sounds v' u' ≡ row_frames st (job_env z h g a b i) c d 0 c.len (sounds v (part u from to))) q (f st d) (plan-of d y))
      ∙ frames-part st t c d from to c.len v u (sym e.stride) (omega arith) long (omega arith)
      ∙ ap (λ (z : ℕ). row_frames st t c d z c.len (sounds v u)) (start_is d from width y (k ∙ ap lane_count q) p)
      ∙ frames-are st t c d c.len (sounds v u)

  pub plans-none : (m : Sounds) → m ≡ audio_plans st (work_env w h g a b i) c 0 m
  unfolding audio_plans
  plans-none m = refl

  pub plans-more : (k : ℕ) (m₀ m m' : Sounds) → m ≡ audio_plans st (work_env w h g a b i) c k m₀ → m' ≡ audio_frames st (work_env w h g a b i) c (w.control + k) c.len m
      → m' ≡ audio_plans st (work_env w h g a b i) c (k + 1) m₀
  unfolding audio_plans
  plans-more k m₀ m m' p q =
      let t : Env = work_env w h g a b i in
      rw add-one
      (q
      ∙ ap (λ (z : ℕ). audio_frames st t c (z + k) c.len m) (sym e.control)
      ∙ ap (audio_frames st t c (control_total st.program + k) c.len) p)

  pub plans-end : (k n : ℕ) (m₀ m : Sounds) → m ≡ audio_plans st (work_env w h g a b i) c k m₀ → k ≡ n → m ≡ audio_plans st (work_env w h g a b i) c n m₀
  plans-end k n m₀ m p q = p ∙ ap (λ (z : ℕ). audio_plans st (work_env w h g a b i) c z m₀) q

  pub plans-done : (k : ℕ) (m₀ m : Sounds) → m ≡ audio_plans st (work_env w h g a b i) c k m₀ → k ≡ w.plans - w.control → m ≡ audio_of st (work_env w h g a b i) c m₀
  unfolding audio_of
  plans-done k m₀ m p q =
      p ∙ ap (λ (z : ℕ). audio_plans st (work_env w h g a b i) c z m₀) (q ∙ ap₂ ◌-◌ (sym e.plans) (sym e.control))
