-- What the turns of a tick go by is what swept plans ask for. Assumes nothing.
use mathlib.Core.Path.{◌≡◌, sym, ap, ap₂, subst, ◌∙◌}
use mathlib.Core.Bool.{true}
use mathlib.Core.Logic.{⊎_elim}
use mathlib.Core.List.{List}
use Prim.Native.Nat.{ℕ, ◌+◌, ◌-◌, ◌≤◌, ◌<◌}
use native.Mathlib.Nat.{mul-le-mul_right, eq-or-lt_of_le}
use native.Mathlib.Omega.{arith}
use lib.ListN.{get_or}
use lib.Ieee.{Float}
use Rattle.config.specs.Sizes.{slots, most_frames}
use Rattle.state_filled.specs.Filled.{no_plan}
use Rattle.state.specs.declared.Gains.{Gains}
use Rattle.state.specs.declared.Plan.{Plan}
use Rattle.state.specs.declared.State.{State}
use Rattle.model.specs.Counts.{plan_at, at}
use Rattle.model.specs.Env.{Env}
use Rattle.model.specs.Mix.{plan_mix}
use Rattle.model.specs.Sums.{base_in}
use Rattle.plan_sum.specs.Job.{base_by}
use Rattle.plan_slews.specs.declared.Tick.{Tick}
use Rattle.plan_sweep.specs.declared.Leads.{Leads}
use Rattle.plan_sweep.specs.Leads.{Led, Leading, Fielded}
use Rattle.plan_sweep.proofs.Plains.{base-is}
use Rattle.plan_turning.specs.declared.Round.{Round}
use Rattle.plan_turning.specs.Turns.{Ready, Prepared}
use Rattle.voice.specs.declared.Voices.{Voices}
use Rattle.control_tick.specs.declared.Work.{Work}
use Rattle.control_tick.specs.Rounds.{Sized, IsRound, IsLed, AreBases, Works}

-- d moves on to r, by k
pub nearer : (n d k r : ℕ) → d < n → d ≤ k → k ≤ r → r ≤ n → (k < n → k < r) → n - r < n - d
nearer n d k r near a b c more = let e : k ≤ n = omega arith in ⊎_elim (λ (h : k ≡ n). omega arith) (λ (h : k < n). omega (arith, more h)) (eq-or-lt_of_le e)

-- the leads up to n, which is the last frame where that is not too far
pub led-is : (w : Work) (xs : List Float) (l : Leads) (n : ℕ) → (w.scene.up_to ≤ most_frames → n ≡ w.scene.up_to)
    → Leading w.signals w.scene.gains w.scene.stride n xs w.routes l → IsLed w xs l
led-is w xs l n e k =
    record {
      starts = k.starts;
      steps = k.steps;
      gains = k.gains;
      offsets = k.offsets;
      led =
          λ h.
          subst (λ (m : ℕ). Led w.signals w.scene.gains w.scene.stride m xs w.routes l.starts l.steps l.gains l.offsets slots) (e h) k.led;
    }

module _ (w : Work) (r : Round) (xs : List Float) (l : Leads) (of : IsRound w r) (k : IsLed w xs l) where
  -- WHAT THE CODE ASKS FOR
  pub ready-is : Sized w → Ready r xs l.starts l.steps l.gains l.offsets
  ready-is z =
      record {
        starts = k.starts;
        steps = k.steps;
        gains = k.gains;
        offsets = k.offsets;
        stride = omega (arith, of.field.stride, z.fits.stride);
        chunks = omega (arith, of.chunks, z.fits.chunks);
        control = omega (arith, of.control, z.control, z.fits.plans);
        within = λ b. omega (arith, of.field.stride, of.field.within b);
        frame = λ b. omega (arith, of.frame, (of.here b).0, (of.here b).1);
        wide = λ b i h p. omega (arith, of.field.stride, (k.led (of.here b).1 i h p).wide);
        inside =
            λ b i h p.
            let before : r.frame + 1 ≤ w.scene.up_to = omega (arith, of.frame, (of.here b).0) in
            omega (arith, (k.led (of.here b).1 i h p).inside, mul-le-mul_right (get_or l.steps i 0) before);
      }

  -- WHAT THE CONTRACT ASKS FOR
  module _ (st : State) (t : Env) (h g a tb b : List Float) (of-work : Works st t w h g a tb xs) (bs : AreBases w g a b) (z : Sized w) where
    base-at : (d : ℕ) → d < w.control → at b d ≡ base_in t (plan_mix st d)
    unfolding plan_at
    base-at d n =
        let here : Plan = get_or w.plan d no_plan in
        let plan : plan_at st d ≡ here = ap (λ (y : List Plan). get_or y d no_plan) of-work.0.plan in
        let e = of-work.1 in
        bs d n
        ∙ sym
        (base-is t (plan_at st d).dest (plan_at st d).base
        ∙ ap (λ (y : Plan). base_by t.gains t.globals t.bases y.dest y.base) plan
        ∙ ap (λ (y : Gains). base_by y t.globals t.bases here.dest here.base) e.scene.gains
        ∙ ap₂ (λ (y v : List Float). base_by w.scene.gains y v here.dest here.base) e.globals e.bases)

    field_at : Fielded t.voices.active t.stride 1 r.field
    field_at =
        let e = of-work.1.scene in
        subst (λ (n : ℕ). Fielded t.voices.active n 1 r.field) (sym e.stride)
        (subst (λ (v : Voices). Fielded v.active w.scene.stride 1 r.field) (sym e.voices) of.field)

    led-at : r.field.on ≡ true → Led t.signals t.gains t.stride t.up_to xs st.program.route l.starts l.steps l.gains l.offsets slots
    led-at on =
        let e = of-work.1.scene in
        let first : Led w.signals w.scene.gains w.scene.stride w.scene.up_to xs w.routes l.starts l.steps l.gains l.offsets slots = k.led (of.here on).1 in
        rw (e.signals, e.gains, e.stride, e.up_to, of-work.0.routes) first

    pub prepared-is : Prepared st t r w.plan b xs l.starts l.steps l.gains l.offsets
    prepared-is =
        let p = of-work.0 in
        let e = of-work.1 in
        record {
          plan = p.plan;
          control = omega (arith, of.control, z.control, p.plans);
          lanes = p.stride ∙ sym of.field.stride;
          chunks = p.chunks ∙ sym of.chunks;
          stride = e.scene.stride ∙ sym of.field.stride;
          frame = e.scene.frame ∙ sym of.frame;
          primed = e.scene.primed ∙ sym (ap (λ (y : Tick). y.primed) of.tick);
          snap = e.scene.snap ∙ sym (ap (λ (y : Tick). y.snap) of.tick);
          fresh = e.scene.fresh ∙ sym (ap (λ (y : Tick). y.fresh) of.tick);
          voice = ap (λ (y : Tick). y.voice) of.tick;
          samples = e.samples;
          base = λ d n. base-at d (omega (arith, of.control));
          field = field_at;
          before = λ on. omega (arith, e.scene.frame, e.scene.up_to, (of.here on).0);
          led = led-at;
        }
