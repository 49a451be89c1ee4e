-- What a job's routes are, and that their views show what the environment has. Assumes nothing.
use Rattle.std.specs.Prelude.{Option, Some, None}
use mathlib.Core.Path.{◌≡◌, refl, sym, ap, ◌∙◌}
use mathlib.Core.Bool.{Bool, true, false, cond}
use mathlib.Core.Logic.{⊎_elim}
use mathlib.Core.List.{List}
use Prim.Native.Nat.{ℕ, ◌+◌, ◌*◌, ◌≤◌, ◌<◌}
use native.Mathlib.Omega.{arith}
use borrow.Author.Tests.{ltb-true, ltb-false, lt-ltb, le-ltb}
use lib.Dec.{ltb}
use lib.ListN.{length, get_or}
use lib.Ieee.{Float}
use Rattle.config.specs.Sizes.{slots, most_sources}
use Rattle.list.proofs.Elements.{get_or-inside, get_or_past}
use Rattle.state.specs.declared.Base.{Base}
use Rattle.state.specs.declared.Base.TheVariants as B
use Rattle.state.specs.declared.Gains.{Gains}
use Rattle.state.specs.declared.Read.{Read}
use Rattle.state.specs.declared.Read.TheVariants as D
use Rattle.state.specs.declared.Input.{Input}
use Rattle.state.specs.declared.Route.{Route}
use Rattle.state.specs.declared.SignalPart.{SignalPart}
use Rattle.state.specs.declared.Signals.{Signals}
use Rattle.state_filled.specs.Filled.{no_route}
use Rattle.model.specs.Counts.{at}
use Rattle.model.specs.Env.{Env, Rows, Own, no_part, part_of, live_amount_of, live_output_of, base_of}
use Rattle.model.specs.Lanes.{sounding}
use Rattle.model.specs.Layout.{plan_width}
use Rattle.model.specs.Mix.{Mix}
use Rattle.model.specs.RouteValue.{raw_in, route_value, plain}
use Rattle.model.specs.Sums.{base_in}
use Rattle.model.specs.Tick.{lanes_from}
use Rattle.lane_input.specs.Reads.{Works, part_for, point_of}
use Rattle.lane_input.proofs.Numbers.{which}
use Rattle.lane.specs.declared.View.{View}
use Rattle.lane.specs.View.{aux_part, IsOwn, Viewed}
use Rattle.lane.proofs.Views.{no-route-value}
use Rattle.plan_sum.specs.declared.Job.{Job}
use Rattle.plan_sum.specs.declared.Ground.{Ground}
use Rattle.plan_sum.specs.Job.{Bounded, lane_count, route_of, base_by, IsScene, IsJob, Mixes, Shown}
use Rattle.plan_sum.specs.Ground.{Based, ground_of, Chosen, part_key, aux_key, view_by}

-- ---- sizes

width-most : (n : ℕ) (voice : Bool) → n ≤ 64 → plan_width n voice ≤ 64
width-most n true h = h
width-most n false h = omega arith

-- a row has at most 64 lanes
pub lanes-most : (w : Job) → Bounded w → lane_count w ≤ 64
lanes-most w b = width-most w.scene.stride w.plan.voice b.stride

pub own-none : (n a : ℕ) → slots ≤ n → 0 ≡ cond (ltb n slots) a 0
own-none n a h = rw (le-ltb n slots h)

pub own-some : (n : ℕ) {a r : ℕ} → n < slots → r ≡ a → r ≡ cond (ltb n slots) a 0
own-some n h e = rw (lt-ltb n slots h) e

-- what a ground has of its job's sizes
pub ground-based : (w : Job) {g : Ground} → g ≡ ground_of w → Bounded w → Based g
ground-based w e b = rw e (record { sized = record { stride = b.stride; chunks = b.chunks }; plans = b.plans })

pub ground-stride : (w : Job) {g : Ground} {n : ℕ} → g ≡ ground_of w → n ≤ w.scene.stride → n ≤ g.point.stride
ground-stride w e h = rw e h

width_one : (n : ℕ) (voice : Bool) → voice ≡ false → plan_width n voice ≤ 1
width_one n voice e = rw e (omega arith)

-- a plan that is not per voice has one lane
pub one_lane : (w : Job) {g : Ground} {n : ℕ} → g ≡ ground_of w → n ≡ lane_count w → g.voice ≡ false → n ≤ 1
one_lane w e d h = rw d (width_one w.scene.stride w.plan.voice (rw e at h))

-- ---- routes

pub route-is : {t : Env} {x : Mix} {w : Job} (j : ℕ) {r : Route} → IsJob t x w → j < x.count → r ≡ route_of w j → x.route j ≡ r
route-is j k h e = k.mix.route j (omega (arith, k.mix.count)) ∙ sym e

pub plain-is : {t : Env} {x : Mix} {w : Job} (r : Route) {b : Bool} → IsJob t x w → b ≡ plain t w.plan.voice r → b ≡ plain t x.voice r
plain-is r k e = rw k.mix.voice e

-- what a loop over the routes has is the job's
pub record From (w : Job) (g : Ground) (rs : List Route) (ps : List SignalPart) (a n : ℕ) : Type 0 where
  pub ground : g ≡ ground_of w
  pub routes : rs ≡ w.routes
  pub parts : ps ≡ w.signals.part
  pub first : a ≡ w.plan.first
  pub count : n ≡ w.plan.count

module _ {A : Type 0} where
  -- what was read at i, where n is below the length, is what stands at n
  found : (l : List A) (n i most : ℕ) (d e : A) {r : A} → length l ≡ most → (n < most → i ≡ n) → r ≡ cond (ltb n most) (get_or l i d) e → r ≡ get_or l n e
  found l n i most d e long near k =
      ⊎_elim
      (λ (p : ltb n most ≡ true).
      let b : n < most = ltb-true n most p in
      (rw p at k) ∙ ap (λ (z : ℕ). get_or l z d) (near b) ∙ get_or-inside l n d e (omega arith))
      (λ (p : ltb n most ≡ false). (rw p at k) ∙ sym (get_or_past l n e (omega (arith, ltb-false n most p))))
      (which (ltb n most))

pub chosen : {w : Job} {g : Ground} {routes : List Route} {parts : List SignalPart} {first count : ℕ} → From w g routes parts first count → (j i : ℕ) (d : Route) {r : Route} → length routes ≡ slots
    → (first + j < slots → i ≡ first + j) → r ≡ cond (ltb (first + j) slots) (get_or routes i d) no_route → Chosen w g j r
chosen {w} {g} {routes} {first = first} k j i d {r} long near e =
    let at : r ≡ get_or routes (first + j) no_route = found routes (first + j) i slots d no_route long near e in
    record {
      ground = k.ground;
      route = at ∙ ap (λ (z : List Route). get_or z (first + j) no_route) k.routes ∙ ap (λ (z : ℕ). get_or w.routes (z + j) no_route) k.first;
      past = λ h. at ∙ get_or_past routes (first + j) no_route (omega (arith, k.first));
    }

part-found : (s : Signals) (read : Read) {r : SignalPart} → length s.part ≡ most_sources → r ≡ get_or s.part (part_key read) no_part → r ≡ part_for s read
unfolding part_of
part-found s (D.Signal src voice) long e = e
part-found s (D.Held src voice) long e = e ∙ get_or_past s.part most_sources no_part (omega arith)
part-found s (D.Fed p voice) long e = e ∙ get_or_past s.part most_sources no_part (omega arith)
part-found s D.Constant long e = e ∙ get_or_past s.part most_sources no_part (omega arith)
part-found s D.RouteRandom long e = e ∙ get_or_past s.part most_sources no_part (omega arith)

aux-found : (s : Signals) (aux : Option Input) {r : SignalPart} → length s.part ≡ most_sources → r ≡ get_or s.part (aux_key aux) no_part → r ≡ aux_part s aux
aux-found s None long e = e ∙ get_or_past s.part most_sources no_part (omega arith)
aux-found s (Some i) long e = part-found s i.read long e

module _ {w : Job} {g : Ground} {routes : List Route} {parts : List SignalPart} {first count : ℕ} (k : From w g routes parts first count) where
  at_key : (key n i : ℕ) (d : SignalPart) {r : SignalPart} → length parts ≡ most_sources → key ≡ n → (key < most_sources → i ≡ key) → r ≡ cond (ltb key most_sources) (get_or parts i d) no_part
      → r ≡ get_or w.signals.part n no_part
  at_key key n i d long q near e =
      found parts key i most_sources d no_part long near e ∙ ap (λ (z : List SignalPart). get_or z key no_part) k.parts ∙ ap (λ (z : ℕ). get_or w.signals.part z no_part) q

  long-parts : length parts ≡ most_sources → length w.signals.part ≡ most_sources
  long-parts long = ap (length {A = SignalPart}) (sym k.parts) ∙ long

  pub source-from : (route : Route) (key i : ℕ) (d : SignalPart) {r : SignalPart} → length parts ≡ most_sources → key ≡ part_key route.source.read → (key < most_sources → i ≡ key)
      → r ≡ cond (ltb key most_sources) (get_or parts i d) no_part → r ≡ part_for w.signals route.source.read
  source-from route key i d long q near e = part-found w.signals route.source.read (long-parts long) (at_key key _ i d long q near e)

  pub aux-from : (route : Route) (key i : ℕ) (d : SignalPart) {r : SignalPart} → length parts ≡ most_sources → key ≡ aux_key route.aux → (key < most_sources → i ≡ key)
      → r ≡ cond (ltb key most_sources) (get_or parts i d) no_part → r ≡ aux_part w.signals route.aux
  aux-from route key i d long q near e = aux-found w.signals route.aux (long-parts long) (at_key key _ i d long q near e)

-- ---- the base

base-from : (t : Env) (dest : ℕ) (b : Base) {s : Gains} {g a : List Float} → t.gains ≡ s → t.globals ≡ g → t.bases ≡ a → base_by s g a dest b ≡ base_of t dest b
base-from t dest B.Set p q r = ap (λ (l : List Float). at l dest) (sym r)
base-from t dest (B.Held src) p q r = ap (λ (l : List Float). at l src) (sym q)
base-from t dest (B.Amount slot) p q r = ap (λ (z : Gains). at z.amount slot) (sym p)
base-from t dest (B.Output slot) p q r = ap (λ (z : Gains). at z.output slot) (sym p)

pub base-of : {t : Env} {x : Mix} {w : Job} {g a : List Float} {r : Float} → IsJob t x w → t.globals ≡ g → t.bases ≡ a
    → r ≡ base_by w.scene.gains g a w.plan.dest w.plan.base → r ≡ base_in t x
base-of {t} {x} {w} k g a e = rw (k.mix.dest, k.mix.base) (e ∙ base-from t w.plan.dest w.plan.base k.scene.gains g a)

-- ---- views

-- own rows that the view has, with which the route's value is the same
pub record Stands (t : Env) (f : Rows) (s : Own) (j : ℕ) (v : View) (r : Route) (m : List Float) : Type 0 where
  pub by : Own
  pub own : IsOwn by j v.own v.point.stride m
  pub raw : (l : ℕ) → raw_in t f by j l r ≡ raw_in t f s j l r
  pub value : (l : ℕ) → route_value t f by j l r ≡ route_value t f s j l r

-- where there is no route, any will do
no-route-raw : (t : Env) (f : Rows) (s s' : Own) (j l : ℕ) {r : Route} → r ≡ no_route → raw_in t f s j l r ≡ raw_in t f s' j l r
no-route-raw t f s s' j l e = rw e

no_value : (t : Env) (f : Rows) (s s' : Own) (j l : ℕ) {r : Route} → r ≡ no_route → route_value t f s j l r ≡ route_value t f s' j l r
no_value t f s s' j l e = rw e (no-route-value t f s s' j l)

pub stands : {t : Env} {f : Rows} {s : Own} {x : Mix} {w : Job} {h g i m : List Float} (j : ℕ) {v : View} {r : Route} (a b : SignalPart) → Mixes t f s x w h g i m
    → v ≡ view_by (ground_of w) j r a b → (slots ≤ w.plan.first + j → r ≡ no_route) → Stands t f s j v r m
stands {t} {f} {s} {w = w} {m = m} j {v} {r} a b k e none =
    ⊎_elim
    (λ (b : ltb (w.plan.first + j) slots ≡ true).
    record {
      by = s;
      own = rw (e, b) (k.own j (ltb-true (w.plan.first + j) slots b));
      raw = λ l. refl;
      value = λ l. refl;
    })
    (λ (b : ltb (w.plan.first + j) slots ≡ false).
    let by : Own = λ j q. lanes_from m (v.own + q * v.point.stride) in
    let past : r ≡ no_route = none (ltb-false (w.plan.first + j) slots b) in
    record {
      by = by;
      own = λ q l. refl;
      raw = λ l. no-route-raw t f by s j l past;
      value = λ l. no_value t f by s j l past;
    })
    (which (ltb (w.plan.first + j) slots))

module _ {t : Env} (w : Job) (j : ℕ) (r : Route) {a b : SignalPart} {v : View} (c : IsScene t w.scene w.signals) (e : v ≡ view_by (ground_of w) j r a b) where
  part-shown : a ≡ part_for w.signals r.source.read → part_for t.signals r.source.read ≡ v.source
  part-shown q = rw e (ap (λ (z : Signals). part_for z r.source.read) c.signals ∙ sym q)

  aux-shown : b ≡ aux_part w.signals r.aux → aux_part t.signals r.aux ≡ v.aux
  aux-shown q = rw e (ap (λ (z : Signals). aux_part z r.aux) c.signals ∙ sym q)

  pub amount-shown : live_amount_of t r.slot ≡ v.amount
  amount-shown = rw e (ap (λ (z : Gains). at z.amount r.slot) c.gains)

  pub output-shown : live_output_of t r.slot ≡ v.output
  output-shown = rw e (ap (λ (z : Gains). at z.output r.slot) c.gains)

pub shown : {t : Env} {f : Rows} {s : Own} {x : Mix} {w : Job} {h g i m : List Float} (j : ℕ) {v : View} {r : Route} {a b : SignalPart} → Mixes t f s x w h g i m
    → v ≡ view_by (ground_of w) j r a b → a ≡ part_for w.signals r.source.read → (z : Stands t f s j v r m) → Shown t f z.by j v r h g i m
shown {w = w} j {r = r} k e q z = record { reads = rw e k.reads; own = z.own; source = part-shown w j r k.job.scene e q }

pub viewed : {t : Env} {f : Rows} {s : Own} {x : Mix} {w : Job} {h g b i m : List Float} (j : ℕ) {v : View} {r : Route} {a o : SignalPart} → Mixes t f s x w h g i m
    → Works t (point_of w.scene w.chunks) b → v ≡ view_by (ground_of w) j r a o → a ≡ part_for w.signals r.source.read → o ≡ aux_part w.signals r.aux
    → (z : Stands t f s j v r m) → Viewed t f z.by j v r h g b i m
viewed {w = w} j {r = r} k work e q p z =
    record {
      reads = rw e k.reads;
      works = rw e work;
      own = z.own;
      source = part-shown w j r k.job.scene e q;
      aux = aux-shown w j r k.job.scene e p;
      amount = amount-shown w j r k.job.scene e;
      output = output-shown w j r k.job.scene e;
    }

-- whether it is plain, by what the ground has
pub plain_by : {t : Env} (w : Job) (r : Route) {a : SignalPart} {g : Ground} {b : Bool} → g ≡ ground_of w → IsScene t w.scene w.signals → a ≡ part_for w.signals r.source.read
    → (g.sounds ≡ sounding t → t.stride ≡ g.point.stride → t.up_to ≡ g.up_to → part_for t.signals r.source.read ≡ a → b ≡ plain t g.voice r)
    → b ≡ plain t w.plan.voice r
unfolding sounding
plain_by {t} w r e c q by =
    (rw e at by) (rw (c.voices, c.stride)) c.stride c.up_to (ap (λ (z : Signals). part_for z r.source.read) c.signals ∙ sym q)
