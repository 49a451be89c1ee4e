-- The rows of a plan that is swept are those of the model. Assumes nothing.
use mathlib.Core.Path.{◌≡◌, refl, sym, ap, ap₂, ◌∙◌, subst}
use mathlib.Core.Bool.{Bool, true, false, cond, ◌&&◌, ◌||◌}
use mathlib.Core.List.{List}
use Prim.Native.Nat.{ℕ, zero, suc, ◌+◌, ◌-◌, ◌*◌, ◌≤◌, ◌<◌}
use native.Mathlib.Nat.{le_refl, mul-le-mul_right, add-mul}
use native.Mathlib.Omega.{arith}
use lib.Dec.{eqb, leb, ltb}
use lib.ListN.{length, get_or}
use lib.Ieee.{Float, inf, lt}
use Rattle.config.specs.Sizes.{slots, lanes}
use Rattle.number.specs.Number.{plus, times, hold}
use Rattle.state_filled.specs.Filled.{no_plan, no_route}
use Rattle.state.specs.declared.Chunk.{Chunk}
use Rattle.state.specs.declared.Gains.{Gains}
use Rattle.state.specs.declared.Plan.{Plan}
use Rattle.state.specs.declared.Route.{Route}
use Rattle.state.specs.declared.State.{State}
use Rattle.model.specs.Audio.{Sounds, new_audio, row_start, at_frame, audio_frames, audio_plans}
use Rattle.model.specs.Counts.{stride_of, plan_at, route_at, at}
use Rattle.model.specs.Env.{Env, Rows, Own, gain_of}
use Rattle.model.specs.Layout.{plan_width, audio_row}
use Rattle.model.specs.Mix.{Mix, plan_mix}
use Rattle.model.specs.RouteValue.{raw_in, plain}
use Rattle.model.specs.Sums.{base_in, offsets, scaled_gain, plains}
use Rattle.model.specs.Tick.{mix_width, fill_from, lanes_from, rows_of, own_of}
use Rattle.plan_sum.specs.Job.{slot_gain, base_by}
use Rattle.plan_sweep.specs.declared.Field.{Field}
use Rattle.plan_sweep.specs.declared.Pass.{Pass}
use Rattle.plan_sweep.specs.declared.Leads.{Leads}
use Rattle.plan_sweep.specs.Leads.{Lead, Leading, offset_sum, pass_of, Fielded, Swept}
use Rattle.plan_sweep.specs.Sweep.{place_of, swept, swept_at, swept_row, swept_rows, Within}
use Rattle.plan_sweep.proofs.Kept.{led-sooner}
use Rattle.plan_sweep.proofs.Plains.{slews-still, plain_by, base-is, offsets_are, plains-are, new_is, span-fill}
use Rattle.audio_rows.specs.declared.Sweeping.{Sweeping}
use Rattle.audio_rows.specs.declared.Work.{Work}
use Rattle.audio_rows.specs.Rows.{sounds, width_at, row_frame, row_frames}
use Rattle.audio_rows.specs.Work.{Sized, audio_room, Installed, work_env}
use Rattle.audio_rows.specs.Passes.{row_pass, Ready, Prepared, ReadyBy, PreparedBy}
use Rattle.audio_rows.proofs.Parts.{part-within}
use Rattle.audio_rows.proofs.Chunk.{frames-are, plans-more}

-- ---- what is read lies in the samples

pub within : (q : Field) (c : Chunk) (d n : ℕ) (xs : List Float) (s p : List ℕ) (g o : List Float) (x : Plan) (base : Float) {z : Pass} → z ≡ row_pass q x base o
    → Ready q c (d + 1) n xs s p g o → Swept q x p → Within s p g xs z (c.start + c.len)
within q c d n xs s p g o x base e r y =
    let route : (i : ℕ) → x.first ≤ i → i < x.first + x.count → 0 < get_or p i 0 =
    λ i a b.
    let j : ℕ = i - x.first in
    let same : x.first + j ≡ i = omega arith in
    subst (λ (k : ℕ). 0 < get_or p k 0) same (y.led j (omega arith)) in
    subst (λ (z : Pass). Within s p g xs z (c.start + c.len)) (sym e)
    (record {
      starts = r.starts;
      steps = r.steps;
      gains = r.gains;
      routes = y.routes;
      span = r.within y.on;
      width = r.stride;
      frames = omega (arith, r.end, r.frames);
      number = y.number;
      wide = λ i a b. r.wide i (omega (arith, y.routes)) (route i a b);
      inside = λ i a b. r.inside i (omega (arith, y.routes)) (route i a b);
    })

-- ---- a plan

-- held to the bounds of a plan
abbrev held_to : Plan → Float → Float
held_to x y = cond (lt (inf true) x.min || lt x.max (inf false)) (hold x.min x.max y) y

module _ (st : State) (w : Work) (e : Installed st w) (h g a b xs : List Float) (c : Chunk) (q : Field) (plans : List Plan) (control : ℕ) (v : Gains) (s p : List ℕ) (gs o : List Float)
    (z : Prepared w c q plans control v xs s p gs o) (d : ℕ) (x : Plan) (is : x ≡ get_or plans d no_plan) (y : Swept q x p) where
  abbrev all : Env
  all = work_env w h g a b xs

  abbrev env : ℕ → Env
  env n = at_frame all (c.start + n) (c.start + c.len) (all.snap && eqb n 0)

  abbrev mix : Mix
  mix = plan_mix st d

  abbrev pass : Pass
  pass = row_pass q x (base_by v g a x.dest x.base) o

  abbrev route : ℕ → Route
  route j = get_or w.routes (x.first + j) no_route

  plan-is : plan_at st d ≡ x
  unfolding plan_at
  plan-is = ap (λ (l : List Plan). get_or l d no_plan) (e.plan ∙ z.plan) ∙ sym is

  voice-is : mix.voice ≡ true
  voice-is = ap (λ (k : Plan). k.voice) plan-is ∙ y.voice

  count-is : mix.count ≡ x.count
  count-is = ap (λ (k : Plan). k.count) plan-is

  route-is : (j : ℕ) → mix.route j ≡ route j
  unfolding route_at
  route-is j = ap₂ (λ (l : List Route) (i : ℕ). get_or l (i + j) no_route) e.routes (ap (λ (k : Plan). k.first) plan-is)

  lead : (j : ℕ) → j < mix.count → Lead w.signals v w.scene.stride (c.start + c.len) xs (route j) (get_or s (x.first + j) 0) (get_or p (x.first + j) 0) (at gs (x.first + j)) (at o (x.first + j))
  lead j k =
      let near : j < x.count = rw count-is at k in
      z.led (x.first + j) (omega (arith, y.routes)) (y.led j near)

  plain_at : (n j : ℕ) → j < mix.count → plain (env n) mix.voice (mix.route j) ≡ true
  plain_at n j k =
      let f = lead j k in
      subst (λ (r : Route). plain (env n) mix.voice r ≡ true) (sym (route-is j))
      (plain_by (env n) mix.voice (route j) voice-is (z.field.sounds y.on (env n) refl refl) f.simple (f.rows (env n) refl refl (le_refl (c.start + c.len))))

  gain-at : (n j : ℕ) → j < mix.count → scaled_gain (env n) (mix.route j) ≡ at gs (x.first + j)
  gain-at n j k =
      subst (λ (r : Route). scaled_gain (env n) r ≡ at gs (x.first + j)) (sym (route-is j))
      (ap (λ (u : Gains). times (route j).scale (slot_gain u (route j).slot)) z.gains ∙ sym (lead j k).gain)

  offset_at : (n j : ℕ) → j < mix.count → times (mix.route j).offset (gain_of (env n) (mix.route j)) ≡ at o (x.first + j)
  offset_at n j k =
      subst (λ (r : Route). times r.offset (gain_of (env n) r) ≡ at o (x.first + j)) (sym (route-is j))
      (ap (λ (u : Gains). times (route j).offset (slot_gain u (route j).slot)) z.gains ∙ sym (lead j k).offset)

  raw_at : (n : ℕ) → n < c.len → (f : Rows) (u : Own) (l j : ℕ) → l < w.scene.stride → j < mix.count → raw_in (env n) f u j l (mix.route j) ≡ at xs (place_of s p (x.first + j) (c.start + n) l)
  raw_at n m f u l j b k =
      subst (λ (r : Route). raw_in (env n) f u j l r ≡ at xs (place_of s p (x.first + j) (c.start + n) l)) (sym (route-is j))
      ((lead j k).reads (env n) f _ l refl refl (omega arith) b)

  begun-is : (n : ℕ) → plus (base_in (env n) mix) (offsets (env n) mix mix.count) ≡ pass.begun
  begun-is n =
      ap₂ plus
      (base-is (env n) mix.dest mix.base ∙ ap₂ (λ (u : Gains) (k : Plan). base_by u g a k.dest k.base) z.gains plan-is)
      (offsets_are (env n) mix o x.first mix.count (plain_at n) (offset_at n) ∙ ap (offset_sum o x.first) count-is)

  plains-is : (n : ℕ) → n < c.len → (f : Rows) (u : Own) (l : ℕ) → l < w.scene.stride
      → plains (env n) f u mix l mix.count ≡ swept s p gs xs x.first (c.start + n) l pass.begun x.count
  plains-is n m f u l b =
      plains-are (env n) mix f u l s p gs xs x.first mix.count (plain_at n) (gain-at n) (λ j k. raw_at n m f u l j b k)
      ∙ ap₂ (swept s p gs xs x.first (c.start + n) l) (begun-is n) count-is

  -- a lane
  lane-is : (n : ℕ) → n < c.len → (f : Rows) (u : Own) (old : ℕ → Float) (l : ℕ) → l < w.scene.stride
      → new_audio (env n) mix f u old l ≡ cond (leb q.from l && ltb l (q.from + q.groups * lanes)) (swept_at s p gs xs pass (c.start + n) l) (old l)
  lane-is n m f u old l b =
      let some : 0 < mix.count = rw count-is y.some in
      let sum : Float = plains (env n) f u mix l mix.count in
      new_is (env n) mix f u old l some (plain_at n)
      ∙ ap (λ (k : Bool). cond k (held_to (plan_at st d) sum) (old l)) (z.field.span y.on (env n) refl refl l b)
      ∙ ap (λ (k : Float). cond (leb q.from l && ltb l (q.from + q.groups * lanes)) k (old l)) (ap₂ held_to plan-is (plains-is n m f u l b))

  width_is : (n : ℕ) → mix_width (env n) mix ≡ w.scene.stride
  width_is n = ap (λ (k : Bool). plan_width w.scene.stride k) voice-is

  wide_is : q.stride ≡ width_at st d
  wide_is = z.field.stride ∙ sym e.stride ∙ ap (λ (k : Bool). plan_width (stride_of st) k) (sym voice-is)

  -- a frame
  frame-swept : (n start : ℕ) (vs us : List Float) → n < c.len → row_frame st (env n) d start (sounds vs us) ≡ sounds vs (swept_row s p gs xs pass start (c.start + n) us)
  unfolding row_frame swept_row
  frame-swept n start vs us m =
      let f : Rows = rows_of st vs in
      let u : Own = own_of st vs d in
      let new : ℕ → Float = new_audio (env n) mix f u (lanes_from us start) in
      ap₂ sounds
      (slews-still st d (env n) mix f u vs mix.count (λ j r l. refl) (plain_at n))
      (ap (fill_from us start new) (width_is n)
      ∙ span-fill us start w.scene.stride q.from (q.groups * lanes) new (swept_at s p gs xs pass (c.start + n)) (z.field.within y.on) (λ l k. lane-is n m f u (lanes_from us start) l k))

  -- frame after frame
  frames-swept : (n start : ℕ) (vs us : List Float) → n ≤ c.len → sounds vs (swept_rows s p gs xs pass start c.start n us) ≡ row_frames st all c d start n (sounds vs us)
  unfolding row_frames swept_rows
  frames-swept zero start vs us m = refl
  frames-swept (suc n) start vs us m =
      sym (frame-swept n (start + n * q.stride) vs (swept_rows s p gs xs pass start c.start n us) (omega arith))
      ∙ ap₂ (λ (k : ℕ) (r : Sounds). row_frame st (env n) d (start + n * k) r) wide_is (frames-swept n start vs us (omega arith))

  place_is : audio_row q.stride q.frames d q.stride c.start ≡ row_start st d c.start
  place_is =
      ap (λ (k : ℕ). audio_row q.stride q.frames d k c.start) wide_is
      ∙ ap₂ (λ (i k : ℕ). audio_row i k d (width_at st d) c.start) (z.field.stride ∙ sym e.stride) (z.field.frames ∙ sym e.frames)

  -- THE PLAN
  pub plan-swept : (vs us u : List Float) → u ≡ swept_rows s p gs xs pass (audio_row q.stride q.frames d q.stride c.start) c.start c.len us
      → sounds vs u ≡ audio_frames st all c d c.len (sounds vs us)
  plan-swept vs us u k =
      ap (sounds vs) k
      ∙ frames-swept c.len (audio_row q.stride q.frames d q.stride c.start) vs us (le_refl c.len)
      ∙ ap (λ (i : ℕ). row_frames st all c d i c.len (sounds vs us)) place_is
      ∙ frames-are st all c d c.len (sounds vs us)

-- ---- plan after plan

-- one plan more of those that have audio
pub plans-swept : (st : State) (w : Work) (e : Installed st w) (h g a b xs : List Float) (c : Chunk) (q : Field) (plans : List Plan) (control : ℕ) (v : Gains) (s p : List ℕ) (gs o : List Float)
    → Prepared w c q plans control v xs s p gs o → (k : ℕ) (x : Plan) → x ≡ get_or plans (control + k) no_plan → Swept q x p → (m : Sounds) (vs us u : List Float)
    → sounds vs us ≡ audio_plans st (work_env w h g a b xs) c k m
    → u ≡ swept_rows s p gs xs (row_pass q x (base_by v g a x.dest x.base) o) (audio_row q.stride q.frames (control + k) q.stride c.start) c.start c.len us
    → sounds vs u ≡ audio_plans st (work_env w h g a b xs) c (k + 1) m
plans-swept st w e h g a b xs c q plans control v s p gs o z k x is y m vs us u done here =
    plans-more st w e h g a b xs c k m (sounds vs us) (sounds vs u) done
    (plan-swept st w e h g a b xs c q plans control v s p gs o z (control + k) x is y vs us u here
    ∙ ap (λ (n : ℕ). audio_frames st (work_env w h g a b xs) c (n + k) c.len (sounds vs us)) (sym z.control))

-- fewer plans, in as much room
pub ready-less : (q : Field) (c : Chunk) (n k size room : ℕ) (xs : List Float) (s p : List ℕ) (g o : List Float) → k ≤ n → size ≡ room → Ready q c n size xs s p g o → Ready q c k room xs s p g o
ready-less q c n k size room xs s p g o h e r =
    record {
      starts = r.starts;
      steps = r.steps;
      gains = r.gains;
      offsets = r.offsets;
      stride = r.stride;
      frames = r.frames;
      plans = omega (arith, r.plans);
      end = r.end;
      within = r.within;
      wide = r.wide;
      inside = r.inside;
      room = λ d b. omega (arith, r.room d (omega arith));
    }

-- the rows of a plan end within the audio
pub rows-room : (q : Field) (c : Chunk) (d n from width : ℕ) (xs : List Float) (s p : List ℕ) (g o : List Float) → from ≡ audio_row q.stride q.frames d q.stride c.start → width ≡ q.stride
    → Ready q c (d + 1) n xs s p g o → from + c.len * width ≤ n
rows-room q c d n from width xs s p g o e k r =
    subst (λ (z : ℕ). from + c.len * z ≤ n) (sym k) (omega (arith, e, r.room d (omega arith)))

-- of the work
ready-is : (w : Work) (c : Chunk) (n : ℕ) (q : Field) (xs : List Float) (l : Leads) → Sized w c → audio_room w ≤ n
    → Fielded w.scene.voices.active w.scene.stride w.frames q → Leading w.signals w.scene.gains w.scene.stride (c.start + c.len) xs w.routes l
    → Ready q c w.plans n xs l.starts l.steps l.gains l.offsets
ready-is w c n q xs l z room f k =
    record {
      starts = k.starts;
      steps = k.steps;
      gains = k.gains;
      offsets = k.offsets;
      stride = omega (arith, f.stride, z.stride);
      frames = omega (arith, f.frames, z.frames);
      plans = z.plans;
      end = omega (arith, f.frames, z.end);
      within = λ b. omega (arith, f.stride, f.within b);
      wide = λ i b h. omega (arith, f.stride, (k.led i b h).wide);
      inside = λ i b h. (k.led i b h).inside;
      room =
          λ d b.
          subst (λ (s : ℕ). audio_row s q.frames d s c.start + c.len * s ≤ n) (sym f.stride)
          (subst (λ (m : ℕ). audio_row w.scene.stride m d w.scene.stride c.start + c.len * w.scene.stride ≤ n) (sym f.frames)
          (part-within d w.plans w.scene.stride w.frames c.start c.len n true z.lanes b z.end room));
    }

abbrev sweeping_of : Work → Field → Leads → Sweeping
sweeping_of w q l =
    record { field = q; plan = w.plan; control = w.control; count = w.plans - w.control; levels = w.scene.gains; leads = l }

pub sweeping-is : (w : Work) (c : Chunk) (q : Field) (xs : List Float) (l : Leads) → Sized w c
    → Fielded w.scene.voices.active w.scene.stride w.frames q → Leading w.signals w.scene.gains w.scene.stride (c.start + c.len) xs w.routes l
    → PreparedBy w c (sweeping_of w q l) xs × ((n : ℕ) → audio_room w ≤ n → ReadyBy c n (sweeping_of w q l) xs)
sweeping-is w c q xs l z f k = (
  (refl, record { plan = refl; control = refl; gains = refl; field = f; led = k.led }),
  λ n room.
      ready-less q c w.plans (w.control + (w.plans - w.control)) n n xs l.starts l.steps l.gains l.offsets (omega (arith, z.control)) refl (ready-is w c n q xs l z room f k),
)

-- ---- what a plan is swept by

pub pass-is : (q : Field) (x : Plan) (base y : Float) (o : List Float) (b : Bool) {z : Pass} → z ≡ pass_of q x y b o → y ≡ base
    → b ≡ (lt (inf true) x.min || lt x.max (inf false)) → z ≡ row_pass q x base o
pass-is q x base y o b e h k = e ∙ ap₂ (λ (t : Float) (i : Bool). pass_of q x t i o) h k

-- the plan that stands there
pub swept-at : (q : Field) (plans : List Plan) (d : ℕ) (p : List ℕ) {x : Plan} → x ≡ get_or plans d no_plan → Swept q (get_or plans d no_plan) p → Swept q x p
swept-at q plans d p e h = subst (λ (y : Plan). Swept q y p) (sym e) h

pub plan-fits : (q : Field) (plans : List Plan) (d : ℕ) (p : List ℕ) (o : List Float) {x : Plan} → x ≡ get_or plans d no_plan → Swept q (get_or plans d no_plan) p → length o ≡ slots
    → x.first + x.count ≤ length o
plan-fits q plans d p o {x} e h n = let y : Swept q x p = swept-at q plans d p e h in omega (arith, n, y.routes)

-- ---- up to an earlier frame

pub ready-sooner : (q : Field) (c d : Chunk) (n size room : ℕ) (xs : List Float) (s p : List ℕ) (g o : List Float) → d.start + d.len ≤ c.start + c.len → room ≡ size
    → Ready q c n size xs s p g o → Ready q d n room xs s p g o
ready-sooner q c d n size room xs s p g o h e r =
    record {
      starts = r.starts;
      steps = r.steps;
      gains = r.gains;
      offsets = r.offsets;
      stride = r.stride;
      frames = r.frames;
      plans = r.plans;
      end = omega (arith, r.end);
      within = r.within;
      wide = r.wide;
      inside = λ i a b. omega (arith, r.inside i a b, mul-le-mul_right (get_or p i 0) h);
      room = λ i b. omega (arith, r.room i b, mul-le-mul_right q.stride h, add-mul d.start d.len q.stride, add-mul c.start c.len q.stride);
    }

pub prepared-sooner : (w u : Work) (c d : Chunk) (z : Sweeping) (xs : List Float) → u.plan ≡ w.plan → u.routes ≡ w.routes → u.plans ≡ w.plans → u.control ≡ w.control
    → u.frames ≡ w.frames → u.signals ≡ w.signals → u.scene.stride ≡ w.scene.stride → u.scene.gains ≡ w.scene.gains
    → u.scene.voices.active ≡ w.scene.voices.active → d.start + d.len ≤ c.start + c.len → PreparedBy w c z xs → PreparedBy u d z xs
prepared-sooner w u c d z xs ep er en ec ef es et eg ea h r = (
  r.0 ∙ ap₂ ◌-◌ (sym en) (sym ec),
  record {
    plan = ep ∙ r.1.plan;
    control = ec ∙ r.1.control;
    gains = eg ∙ r.1.gains;
    field = rw (ea, et, ef) r.1.field;
    led =
        rw (es, et, er)
        (led-sooner w.signals z.levels w.scene.stride (c.start + c.len) (d.start + d.len) xs w.routes z.leads.starts z.leads.steps z.leads.gains z.leads.offsets slots h r.1.led);
  },
)
