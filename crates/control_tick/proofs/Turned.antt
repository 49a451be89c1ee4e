-- What a plan's turn puts, and the turns one after the other. Assumes nothing.
use mathlib.Core.Path.{◌≡◌, refl, sym, ap, subst, ◌∙◌}
use mathlib.Core.Bool.{Bool}
use mathlib.Core.List.{List}
use Prim.Native.Nat.{ℕ, ◌+◌, ◌*◌, ◌≤◌, ◌<◌}
use native.Mathlib.Omega.{arith}
use lib.ListN.{get_or}
use lib.Ieee.{Float}
use Rattle.state.specs.declared.Plan.{Plan}
use Rattle.state.specs.declared.Route.{Route}
use Rattle.state.specs.declared.Signals.{Signals}
use Rattle.state.specs.declared.State.{State}
use Rattle.state_filled.specs.Filled.{no_plan}
use Rattle.number.specs.Number.{hold}
use Rattle.model.specs.Counts.{voice_count, stride_of, chunks_most, plan_total, control_total, plan_at, at}
use Rattle.model.specs.Env.{Env, Rows, Own}
use Rattle.model.specs.Layout.{plan_size, plan_from, plan_to}
use Rattle.model.specs.Mix.{Mix, plan_mix}
use Rattle.model.specs.Sums.{tick_sum}
use Rattle.model.specs.Tick.{mix_width, held_sum, new_to, new_from, fill_from, lanes_from, from_start, to_start, rows_of, own_of, put_slews, slew_after, turn, turns, tick_of}
use Rattle.model.proofs.FillFrom.{fill-same}
use Rattle.model.proofs.ProgramLayout.{stride-least}
use Rattle.lane_input.specs.declared.Scene.{Scene}
use Rattle.lane_input.specs.Reads.{plan_rows}
use Rattle.lane.specs.View.{own_rows}
use Rattle.lane.proofs.Views.{own-rows}
use Rattle.plan_sum.specs.declared.Job.{Job}
use Rattle.plan_sum.specs.Job.{lane_count, IsMix, Sums}
use Rattle.plan_sum.proofs.Jobs.{plan-mix, job-width}
use Rattle.plan_slews.specs.declared.Tick.{Tick}
use Rattle.plan_slews.specs.Rows.{IsRow}
use Rattle.plan_slews.specs.Seen as S
use Rattle.control_tick.specs.Turn.{Given, IsTurn, job_of, IsTick}
use Rattle.control_tick.proofs.Apart.{slews-swap, width-most, from-ends, to-ends}

-- ---- sums

pub held_of : (t : Env) (f : Rows) (s : Own) (x : Mix) (l : ℕ) {p q y v : Float} → x.min ≡ p → x.max ≡ q → y ≡ tick_sum t f s x l → v ≡ hold p q y → v ≡ held_sum t f s x l
held_of t f s x l {p} {q} a b c e =
    let y = tick_sum t f s x l in
    e ∙ ap (hold p q) c ∙ ap (λ (z : Float). hold z q y) (sym a) ∙ ap (λ (z : Float). hold x.min z y) (sym b)

pub row-wide : {n k : ℕ} (g : ℕ → Float) (r : List Float) → n ≡ k → IsRow k g r → IsRow n g r
row-wide g r e i l h = i l (omega arith)

-- ---- what is handed in

mix-of : (st : State) (d : ℕ) {p : Plan} {r : List Route} → plan_at st d ≡ p → st.program.route ≡ r → IsMix (plan_mix st d) p r
mix-of st d {r = r} e q = subst (λ (y : Plan). IsMix (plan_mix st d) y r) e (subst (λ (y : List Route). IsMix (plan_mix st d) (plan_at st d) y) q (plan-mix st d))

-- what a tick's new numbers go by
abbrev tick_by : Scene → ℕ → Job → Tick
tick_by s phase w = record { phase = phase; voice = w.plan.voice; primed = s.primed; snap = s.snap; fresh = s.fresh }

module _ (st : State) (t : Env) (d : ℕ) (w : Job) (m h g a b i : List Float) (of : IsTurn st d w) (k : Given t w.scene w.signals h g a b i) where
  -- the rows of all plans and the own rows of this plan's routes
  abbrev rows_by : Rows
  rows_by = plan_rows w.scene.stride w.chunks m

  abbrev own_by : Own
  own_by = own_rows w.scene.stride w.chunks w.plans w.plan.first m

  pub mix-is : IsMix (plan_mix st d) w.plan w.routes
  mix-is = mix-of st d of.plan of.routes

  pub sums-of : Sums t rows_by own_by (plan_mix st d) w h g a b i m
  sums-of =
      record {
        mixes =
            record {
              job = record { scene = k.scene; mix = mix-is };
              reads =
                  record {
                    stride = k.scene.stride;
                    frame = k.scene.frame;
                    held = k.held;
                    globals = k.globals;
                    samples = k.samples;
                    rows = λ e l. refl;
                  };
              own = λ j q. own-rows w.scene.stride w.chunks w.plans w.plan.first j _ m refl;
            };
        works = record { steps = k.scene.steps; tables = k.tables };
        bases = k.bases;
      }

  pub lies-of : S.Lies st d w.scene.stride w.chunks w.plans w.plan.first
  lies-of = record { stride = of.stride; chunks = of.chunks; plans = of.plans; first = ap (λ (y : Plan). y.first) of.plan }

  pub ticks-of : (phase : ℕ) {y : Tick} → y ≡ tick_by w.scene phase w → S.Ticks t (plan_mix st d) y
  ticks-of phase e = rw e (record { primed = k.scene.primed; snap = k.scene.snap; fresh = k.scene.fresh; voice = mix-is.voice })

  -- ---- the turn

  -- what a turn puts: width n, the rows from a on and from b on
  abbrev put_by : ℕ → ℕ → ℕ → ℕ → Rows → Own → List Float
  put_by phase n from to f s =
      put_slews st d (slew_after t (plan_mix st d) f s) (plan_at st d).count
      (fill_from (fill_from m from (new_from t phase (plan_mix st d) f s (lanes_from m to) (lanes_from m from)) n) to (new_to t phase (plan_mix st d) f s (lanes_from m to)) n)

  turn_is : (phase : ℕ) → turn st t phase d m ≡ put_by phase (mix_width t (plan_mix st d)) (from_start st d) (to_start st d) (rows_of st m) (own_of st m d)
  unfolding turn
  turn_is phase = refl

  put-alike : {p p' n n' x x' y y' : ℕ} {f f' : Rows} {s s' : Own} → p ≡ p' → n ≡ n' → x ≡ x' → y ≡ y' → f ≡ f' → s ≡ s' → put_by p n x y f s ≡ put_by p' n' x' y' f' s'
  put-alike e₀ e₁ e₂ e₃ e₄ e₅ = rw (e₀, e₁, e₂, e₃, e₄, e₅)

  rows_are : rows_by ≡ rows_of st m
  rows_are = sym (ap (λ (y : ℕ). plan_rows y (chunks_most st) m) of.stride ∙ ap (λ (y : ℕ). plan_rows w.scene.stride y m) of.chunks)

  own_is : own_by ≡ own_of st m d
  own_is =
      sym
      (ap (λ (y : ℕ). own_rows y (chunks_most st) (plan_total st.program) (plan_at st d).first m) of.stride
      ∙ ap (λ (y : ℕ). own_rows w.scene.stride y (plan_total st.program) (plan_at st d).first m) of.chunks
      ∙ ap (λ (y : ℕ). own_rows w.scene.stride w.chunks y (plan_at st d).first m) of.plans
      ∙ ap (λ (y : Plan). own_rows w.scene.stride w.chunks w.plans y.first m) of.plan)

  from_is : plan_from w.scene.stride w.chunks d ≡ from_start st d
  from_is = sym (ap (λ (y : ℕ). plan_from y (chunks_most st) d) of.stride ∙ ap (λ (y : ℕ). plan_from w.scene.stride y d) of.chunks)

  to_is : plan_from w.scene.stride w.chunks d + w.scene.stride ≡ to_start st d
  to_is = sym (ap (λ (y : ℕ). plan_to y (chunks_most st) d) of.stride ∙ ap (λ (y : ℕ). plan_to w.scene.stride y d) of.chunks)

  width_is : lane_count w ≡ mix_width t (plan_mix st d)
  width_is = job-width {t = t} {x = plan_mix st d} {w = w} (record { scene = k.scene; mix = mix-is })

  narrow : mix_width t (plan_mix st d) ≤ stride_of st
  narrow = rw (k.scene.stride ∙ sym of.stride) (width-most (stride_of st) (plan_at st d).voice (stride-least (voice_count st)))

  -- THE TURN: the slews, then both rows
  pub turn-of : (phase n from to : ℕ) (starts ends m₁ m₂ m₃ : List Float) {y : Tick} → d < w.plans → y ≡ tick_by w.scene phase w → n ≡ lane_count w
      → from ≡ plan_from w.scene.stride w.chunks d → to ≡ from + w.scene.stride
      → IsRow n (new_from t y.phase (plan_mix st d) rows_by own_by (lanes_from m to) (lanes_from m from)) starts
      → IsRow n (new_to t y.phase (plan_mix st d) rows_by own_by (lanes_from m to)) ends
      → m₁ ≡ put_slews st d (slew_after t (plan_mix st d) rows_by own_by) (plan_at st d).count m
      → m₂ ≡ fill_from m₁ from (at starts) n
      → m₃ ≡ fill_from m₂ to (at ends) n
      → m₃ ≡ turn st t phase d m
  turn-of phase n from to starts ends m₁ m₂ m₃ {y} below ey en ef et rs re e₁ e₂ e₃ =
      let x = plan_mix st d in
      let put = put_slews st d (slew_after t x rows_by own_by) (plan_at st d).count in
      let start = new_from t y.phase x rows_by own_by (lanes_from m to) (lanes_from m from) in
      let end = new_to t y.phase x rows_by own_by (lanes_from m to) in
      let wide : n ≡ mix_width t x = en ∙ width_is in
      let low : from ≡ from_start st d = ef ∙ from_is in
      let high : to ≡ to_start st d = et ∙ ap (λ (z : ℕ). z + w.scene.stride) ef ∙ to_is in
      let inside : d < plan_total st.program = omega (arith, of.plans) in
      let fits : n ≤ stride_of st = omega (arith, wide, narrow) in
      let from_end : from + n ≤ plan_total st.program * plan_size (stride_of st) (chunks_most st) = rw low (from-ends (stride_of st) (chunks_most st) inside fits) in
      let to_end : to + n ≤ plan_total st.program * plan_size (stride_of st) (chunks_most st) = rw high (to-ends (stride_of st) (chunks_most st) inside fits) in
      e₃
      ∙ fill-same m₂ to (at ends) end n re
      ∙ ap (λ (z : List Float). fill_from z to end n)
      (e₂ ∙ fill-same m₁ from (at starts) start n rs ∙ ap (λ (z : List Float). fill_from z from start n) e₁
      ∙ slews-swap st d (slew_after t x rows_by own_by) (plan_at st d).count m from start n from_end)
      ∙ slews-swap st d (slew_after t x rows_by own_by) (plan_at st d).count (fill_from m from start n) to end n to_end
      ∙ put-alike (ap (λ (z : Tick). z.phase) ey) wide low high rows_are own_is
      ∙ sym (turn_is phase)

-- ---- the tick

pub job-made : (p : List Plan) (d : ℕ) (r : List Route) (s : Scene) (z : Signals) (chunks plans : ℕ) (b : Bool) {y : Plan} → y ≡ get_or p d no_plan
    → ◌≡◌ {A = Job} (record { plan = y; routes = r; scene = s; signals = z; chunks = chunks; plans = plans; simple = b }) (job_of p d r s z chunks plans b)
job-made p d r s z chunks plans b e = rw e

-- a plan's job is that of the plan
pub job-turn : (st : State) (p : List Plan) (c : ℕ) (r : List Route) (s : Scene) (z : Signals) (chunks plans d : ℕ) {w : Job} → w ≡ job_of p d r s z chunks plans w.simple
    → IsTick st p c r s.stride chunks plans → IsTurn st d w
unfolding plan_at
job-turn st p c r s z chunks plans d e k =
    rw e
    (record {
      stride = k.stride;
      chunks = k.chunks;
      plans = k.plans;
      plan = ap (λ (y : List Plan). get_or y d no_plan) k.plan;
      routes = k.routes;
    })

pub job-given : (t : Env) (p : List Plan) (r : List Route) (s : Scene) (z : Signals) (chunks plans d : ℕ) (h g a b i : List Float) {w : Job} → w ≡ job_of p d r s z chunks plans w.simple
    → Given t s z h g a b i → Given t w.scene w.signals h g a b i
job-given t p r s z chunks plans d h g a b i e k = rw e k

module _ (st : State) (t : Env) (phase : ℕ) (m : List Float) where
  pub turns-none : m ≡ turns st t phase 0 m
  unfolding turns
  turns-none = refl

  pub tick-end : (k c : ℕ) (v : List Float) → v ≡ turns st t phase k m → k ≡ c → control_total st.program ≡ c → v ≡ tick_of st t phase m
  unfolding tick_of
  tick-end k c v e h q = e ∙ ap (λ (y : ℕ). turns st t phase y m) (h ∙ sym q)
