-- The turn of a control plan that is swept is the model's. Assumes nothing.
use mathlib.Core.Path.{◌≡◌, refl, sym, ap, ap₂, ◌∙◌, subst}
use mathlib.Core.Bool.{Bool, true, false, cond, ◌&&◌}
use mathlib.Core.Logic.{inr}
use mathlib.Core.List.{List}
use Prim.Native.Nat.{ℕ, ◌+◌, ◌-◌, ◌*◌, ◌≤◌, ◌<◌}
use native.Mathlib.Nat.{mul-add}
use native.Mathlib.Numerals.{add-one}
use native.Mathlib.Nat.{le_refl}
use native.Mathlib.Omega.{arith}
use lib.Dec.{leb, ltb}
use lib.ListN.{get_or}
use lib.Ieee.{Float}
use Rattle.config.specs.Sizes.{lanes}
use Rattle.number.specs.Number.{plus, times, hold}
use Rattle.list.proofs.Rows.{row_inside}
use Rattle.state_filled.specs.Filled.{no_plan, no_route}
use Rattle.state.specs.declared.Plan.{Plan}
use Rattle.state.specs.declared.Route.{Route}
use Rattle.state.specs.declared.State.{State}
use Rattle.model.specs.Counts.{stride_of, chunks_most, plan_total, plan_at, route_at, at}
use Rattle.model.specs.Env.{Env, Rows, Own, gain_of}
use Rattle.model.specs.Lanes.{in_span}
use Rattle.model.specs.Layout.{plan_width, plan_size, plan_from}
use Rattle.model.specs.Mix.{Mix, plan_mix}
use Rattle.model.specs.RouteValue.{raw_in, plain}
use Rattle.model.specs.Sums.{base_in, offsets, scaled_gain, plains, begun, tick_sum}
use Rattle.model.specs.Tick.{mix_width, new_to, new_from, fill_from, lanes_from, from_start, to_start, own_start, rows_of, own_of, put_slews, slew_after, turn, turns}
use Rattle.model.proofs.FillFrom.{fill-outside}
use Rattle.plan_slews.specs.Seen.{Ticks}
use Rattle.plan_sweep.specs.declared.Pass.{Pass}
use Rattle.plan_sweep.specs.Leads.{Lead, offset_sum, Fielded, Swept}
use Rattle.plan_sweep.specs.Sweep.{place_of, swept, Within}
use Rattle.plan_sweep.proofs.Kept.{never}
use Rattle.plan_sweep.proofs.Plains.{slews-still, plain_by, some_is, others-none, offsets_are, plains-are}
use Rattle.plan_turning.specs.declared.Round.{Round}
use Rattle.plan_turning.specs.Turns.{sum_pass, Sums, turned, Ready, Prepared}

-- ---- what the turns go by

-- a field that is off
pub no_field : (active : List Bool) (n : ℕ) → Fielded active n 1 (record { on = false; stride = n; frames = 1; from = 0; groups = 0 })
no_field active n =
    record { stride = refl; frames = refl; within = λ h. never h; sounds = λ h. never h; span = λ h. never h }

-- ---- what is read lies in the samples

pub within : (r : Round) (xs : List Float) (s p : List ℕ) (g o : List Float) (x : Plan) (base : Float) {z : Pass} → z ≡ sum_pass r.field x base o → Ready r xs s p g o
    → Swept r.field x p → Within s p g xs z (r.frame + 1)
within r xs s p g o x base e k y =
    let route : (i : ℕ) → x.first ≤ i → i < x.first + x.count → 0 < get_or p i 0 =
    λ i a b.
    let j : ℕ = i - x.first in
    let same : x.first + j ≡ i = omega arith in
    subst (λ (n : ℕ). 0 < get_or p n 0) same (y.led j (omega arith)) in
    subst (λ (z : Pass). Within s p g xs z (r.frame + 1)) (sym e)
    (record {
      starts = k.starts;
      steps = k.steps;
      gains = k.gains;
      routes = y.routes;
      span = k.within y.on;
      width = k.stride;
      frames = k.frame y.on;
      number = y.number;
      wide = λ i a b. k.wide y.on i (omega (arith, y.routes)) (route i a b);
      inside = λ i a b. k.inside y.on i (omega (arith, y.routes)) (route i a b);
    })

-- ---- places

plan-block : (s c : ℕ) → 2 * s ≤ plan_size s c
plan-block s c = omega (arith, mul-add s (2 * c) 6)

-- both rows of a plan end before the routes start
rows_end : (s c : ℕ) {d n : ℕ} → d < n → plan_from s c d + s + s ≤ n * plan_size s c
rows_end s c h = omega (arith, row_inside (plan_size s c) h, plan-block s c)

-- ---- a plan

module _ (st : State) (t : Env) (r : Round) (plans : List Plan) (b xs : List Float) (s p : List ℕ) (g o : List Float) (z : Prepared st t r plans b xs s p g o) (d : ℕ) (x : Plan)
    (is : x ≡ get_or plans d no_plan) (y : Swept r.field x p) (near : d < r.control) where
  abbrev mix : Mix
  mix = plan_mix st d

  abbrev base : Float
  base = at b d

  abbrev pass : Pass
  pass = sum_pass r.field x base o

  abbrev route : ℕ → Route
  route j = get_or st.program.route (x.first + j) no_route

  plan-is : plan_at st d ≡ x
  unfolding plan_at
  plan-is = ap (λ (l : List Plan). get_or l d no_plan) z.plan ∙ sym is

  voice-is : mix.voice ≡ true
  voice-is = ap (λ (k : Plan). k.voice) plan-is ∙ y.voice

  count-is : mix.count ≡ x.count
  count-is = ap (λ (k : Plan). k.count) plan-is

  route-is : (j : ℕ) → mix.route j ≡ route j
  unfolding route_at
  route-is j = ap (λ (k : Plan). get_or st.program.route (k.first + j) no_route) plan-is

  lead : (j : ℕ) → j < mix.count → Lead t.signals t.gains t.stride t.up_to xs (route j) (get_or s (x.first + j) 0) (get_or p (x.first + j) 0) (at g (x.first + j)) (at o (x.first + j))
  lead j k =
      let close : j < x.count = rw count-is at k in
      z.led y.on (x.first + j) (omega (arith, y.routes)) (y.led j close)

  plain_at : (j : ℕ) → j < mix.count → plain t mix.voice (mix.route j) ≡ true
  plain_at j k =
      let f = lead j k in
      subst (λ (n : Route). plain t mix.voice n ≡ true) (sym (route-is j))
      (plain_by t mix.voice (route j) voice-is (z.field.sounds y.on t refl refl) f.simple (f.rows t refl refl (le_refl _)))

  gain-at : (j : ℕ) → j < mix.count → scaled_gain t (mix.route j) ≡ at g (x.first + j)
  gain-at j k = subst (λ (n : Route). scaled_gain t n ≡ at g (x.first + j)) (sym (route-is j)) (sym (lead j k).gain)

  offset_at : (j : ℕ) → j < mix.count → times (mix.route j).offset (gain_of t (mix.route j)) ≡ at o (x.first + j)
  offset_at j k = subst (λ (n : Route). times n.offset (gain_of t n) ≡ at o (x.first + j)) (sym (route-is j)) (sym (lead j k).offset)

  raw_at : (f : Rows) (u : Own) (l j : ℕ) → l < t.stride → j < mix.count → raw_in t f u j l (mix.route j) ≡ at xs (place_of s p (x.first + j) t.frame l)
  raw_at f u l j h k =
      subst (λ (n : Route). raw_in t f u j l n ≡ at xs (place_of s p (x.first + j) t.frame l)) (sym (route-is j))
      ((lead j k).reads t f _ l refl z.samples (z.before y.on) h)

  begun-is : plus (base_in t mix) (offsets t mix mix.count) ≡ pass.begun
  begun-is =
      ap₂ plus (sym (z.base d near))
      (offsets_are t mix o x.first mix.count plain_at offset_at ∙ ap (offset_sum o x.first) count-is)

  plains-is : (f : Rows) (u : Own) (l : ℕ) → l < t.stride → plains t f u mix l mix.count ≡ swept s p g xs x.first t.frame l pass.begun x.count
  plains-is f u l h =
      plains-are t mix f u l s p g xs x.first mix.count plain_at gain-at (λ j k. raw_at f u l j h k)
      ∙ ap₂ (swept s p g xs x.first t.frame l) begun-is count-is

  -- only plain routes: nothing else is added
  tick_is : (f : Rows) (u : Own) (l : ℕ) → tick_sum t f u mix l ≡ cond (in_span t l) (plains t f u mix l mix.count) (base_in t mix)
  unfolding tick_sum
  tick_is f u l =
      let some : 0 < mix.count = rw count-is y.some in
      others-none t mix f u l (begun t f u mix l) mix.count plain_at
      ∙ ap (λ (k : Bool). cond (k && in_span t l) (plains t f u mix l mix.count) (base_in t mix)) (some_is t mix mix.count some plain_at)

  -- THE SUM in a lane
  sum_is : (f : Rows) (u : Own) (l : ℕ) → l < t.stride
      → tick_sum t f u mix l ≡ cond (leb r.field.from l && ltb l (r.field.from + r.field.groups * lanes)) (swept s p g xs x.first r.frame l pass.begun x.count) base
  sum_is f u l h =
      tick_is f u l
      ∙ ap (λ (k : Bool). cond k (plains t f u mix l mix.count) (base_in t mix)) (z.field.span y.on t refl refl l h)
      ∙ ap₂ (λ (i j : Float). cond (leb r.field.from l && ltb l (r.field.from + r.field.groups * lanes)) i j)
      (plains-is f u l h ∙ ap (λ (k : ℕ). swept s p g xs x.first k l pass.begun x.count) z.frame)
      (sym (z.base d near))

  pub sums-of : (f : Rows) (u : Own) → Sums t mix f u s p g xs pass base r.frame
  sums-of f u l h =
      let lane : l < t.stride = omega (arith, z.stride) in
      ap₂ (λ (k : Plan) (v : Float). hold k.min k.max v) (sym plan-is) (sym (sum_is f u l lane))

  pub ticks-of : Ticks t mix r.tick
  ticks-of = record { primed = z.primed; snap = z.snap; fresh = z.fresh; voice = voice-is ∙ sym z.voice }

  -- ---- its turn

  module _ (phase : ℕ) (m : List Float) where
    abbrev rows : Rows
    rows = rows_of st m

    abbrev own : Own
    own = own_of st m d

    -- rows of n lanes, from i on and from j on
    abbrev rows_by : ℕ → ℕ → ℕ → List Float
    rows_by n i j = fill_from (fill_from m i (new_from t phase mix rows own (lanes_from m j) (lanes_from m i)) n) j (new_to t phase mix rows own (lanes_from m j)) n

    turn_is : turn st t phase d m ≡ put_slews st d (slew_after t mix rows own) mix.count (rows_by (mix_width t mix) (from_start st d) (to_start st d))
    unfolding turn
    turn_is = refl

    -- the slews lie behind the rows
    own-stays : (n i j k q l : ℕ) → i + n ≤ plan_total st.program * plan_size (stride_of st) (chunks_most st) → j + n ≤ plan_total st.program * plan_size (stride_of st) (chunks_most st)
        → own k q l ≡ at (rows_by n i j) (own_start st ((plan_at st d).first + k) q + l)
    own-stays n i j k q l e h =
        let place : ℕ = own_start st ((plan_at st d).first + k) q + l in
        let lower : i + n ≤ place = omega arith in
        let upper : j + n ≤ place = omega arith in
        sym
        (fill-outside (fill_from m i (new_from t phase mix rows own (lanes_from m j) (lanes_from m i)) n) j (new_to t phase mix rows own (lanes_from m j)) n place (inr upper)
        ∙ fill-outside m i (new_from t phase mix rows own (lanes_from m j) (lanes_from m i)) n place (inr lower))

    width_is : mix_width t mix ≡ stride_of st
    width_is = ap (λ (k : Bool). plan_width t.stride k) voice-is ∙ z.stride ∙ sym z.lanes

    -- THE TURN: both rows; the slews stand still
    pub plan-turned : (v : List Float) → v ≡ turned t phase mix rows own (plan_from r.field.stride r.chunks d) r.field.stride m → v ≡ turn st t phase d m
    plan-turned v e =
        let w : ℕ = stride_of st in
        let i : ℕ = from_start st d in
        let low : plan_from r.field.stride r.chunks d ≡ i = sym (ap₂ (λ (k c : ℕ). plan_from k c d) z.lanes z.chunks) in
        let ends : i + w + w ≤ plan_total st.program * plan_size w (chunks_most st) = rows_end w (chunks_most st) (omega (arith, z.control)) in
        e
        ∙ ap₂ (λ (k n : ℕ). rows_by n k (k + n)) low (sym z.lanes)
        ∙ sym
        (slews-still st d t mix rows own (rows_by w i (to_start st d)) mix.count (λ j q l. own-stays w i (to_start st d) j q l (omega arith) (omega arith)) plain_at)
        ∙ ap (λ (n : ℕ). put_slews st d (slew_after t mix rows own) mix.count (rows_by n i (to_start st d))) (sym width_is)
        ∙ sym turn_is

-- one plan more
pub turns_more : (st : State) (t : Env) (phase : ℕ) (m : List Float) (k : ℕ) (v r : List Float) → v ≡ turns st t phase k m → r ≡ turn st t phase k v → r ≡ turns st t phase (k + 1) m
unfolding turns
turns_more st t phase m k v r e h = rw (add-one, ← e) h
