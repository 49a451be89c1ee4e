-- A route per voice into a plan per voice, group by group, and its slews afterwards. Assumes nothing.
use Rattle.std.specs.Prelude.{Option, Some, None}
use mathlib.Core.Path.{◌≡◌, refl, sym, ap, ◌∙◌, subst}
use mathlib.Core.Bool.{Bool, true, false}
use mathlib.Core.Logic.{⊎_elim}
use mathlib.Core.List.{List}
use Prim.Native.Nat.{ℕ, zero, suc, ◌+◌, ◌-◌, ◌*◌, ◌/◌, ◌≤◌, ◌<◌}
use native.Mathlib.Omega.{arith}
use borrow.Author.Tests.{ltb-true, ltb-false}
use lib.Dec.{ltb}
use lib.ListN.{get_or}
use lib.Ieee.{Float}
use Rattle.state.specs.declared.Input.{Input}
use Rattle.state.specs.declared.Route.{Route}
use Rattle.model.specs.Counts.{at}
use Rattle.model.specs.Env.{Env, Rows, Own}
use Rattle.model.specs.Lanes.{in_group}
use Rattle.model.specs.Mix.{Mix}
use Rattle.model.specs.RouteValue.{idle, plain}
use Rattle.model.specs.Slews.{moves_in, aux_slew, source_after, aux_after}
use Rattle.model.specs.Tick.{slew_after}
use Rattle.lane_input.proofs.Numbers.{which}
use Rattle.lane.specs.declared.View.{View}
use Rattle.lane.specs.View.{Viewed}
use Rattle.plan_sum.specs.declared.Place.{Place}
use Rattle.plan_slews.specs.Put.{still, new_start}
use Rattle.lanes16.specs.Told.{Stands, AuxStands}
use Rattle.plan_mix.specs.Mixed.{Apart, Beside, aux_by, slew_by, sum_by, NewGroup, SumGroup}

-- lane l of the sums and of the new slews, by whether its group is worked out
abbrev pub Lane : Env → Rows → Own → ℕ → Route → Bool → List Float → List Float → List Float → ℕ → Type 0
Lane t f s j r on new old out l =
    (at out l ≡ sum_by t f s j r on l (at old l)) × (still r ≡ false → (q : ℕ) → q < 2 → at new (new_start j q + l) ≡ slew_by t f s j r on q l)

-- the lanes before k are done
pub record Voiced (j : ℕ) (r : Route) (v : View) (h e b i m : List Float) (groups fresh : List Bool) (snap : Bool) (source with : Place) (k : ℕ) (before new old out : List Float) : Type 0 where
  pub left : (p : ℕ) → p < new_start j 0 → at new p ≡ at before p
  pub rest : (l : ℕ) → k ≤ l → at out l ≡ at old l
  pub done : (t : Env) (f : Rows) (s : Own) → t.snap ≡ snap → t.fresh ≡ fresh → r.voice ≡ true → Viewed t f s j v r h e b i m → Stands t f s j 0 r.source.read source v.point.stride h i m
      → AuxStands t f s j r.aux with v.point.stride h i m → (l : ℕ) → l < k → Lane t f s j r (get_or groups (l / 16) false) new old out l

module _ (j : ℕ) (r : Route) (v : View) (h e b i m : List Float) (groups fresh : List Bool) (snap : Bool) (source with : Place) where
  pub voiced-none : (new old : List Float) → Voiced j r v h e b i m groups fresh snap source with 0 new new old old
  voiced-none new old = record { left = λ p k. refl; rest = λ l k. refl; done = λ t f s n o c w d x l k. absurd (omega arith) }

  pub voiced-more : (g : ℕ) (on : Bool) (before new new' old out out' : List Float) → on ≡ get_or groups g false
      → Voiced j r v h e b i m groups fresh snap source with (g * 16) before new old out → Apart j (g * 16) new new' → Beside (g * 16) out out'
      → ((t : Env) (f : Rows) (s : Own) → t.snap ≡ snap → t.fresh ≡ fresh → r.voice ≡ true → Viewed t f s j v r h e b i m → Stands t f s j 0 r.source.read source v.point.stride h i m
      → AuxStands t f s j r.aux with v.point.stride h i m → NewGroup t f s j r on (g * 16) new' × SumGroup t f s j r on (g * 16) out out')
      → Voiced j r v h e b i m groups fresh snap source with ((g + 1) * 16) before new' old out'
  voiced-more g on before new new' old out out' is z apart beside group =
      record {
        left = λ p k. apart.left p k ∙ z.left p k;
        rest = λ l k. beside.rest l (omega arith) ∙ z.rest l (omega arith);
        done = λ t f s n o c w d x l k.
            ⊎_elim
            (λ (y : ltb l (g * 16) ≡ true).
            let low : l < g * 16 = ltb-true l (g * 16) y in
            let was = z.done t f s n o c w d x l low in
            (beside.left l low ∙ was.0, λ off q u. apart.below q l u low ∙ was.1 off q u))
            (λ (y : ltb l (g * 16) ≡ false).
            let high : g * 16 ≤ l = ltb-false l (g * 16) y in
            let same : g * 16 + (l - g * 16) ≡ l = omega arith in
            let near : l - g * 16 < 16 = omega arith in
            let quot : l / 16 ≡ g = omega arith in
            let here = group t f s n o c w d x in
            let on' : on ≡ get_or groups (l / 16) false = is ∙ ap (λ (a : ℕ). get_or groups a false) (sym quot) in
            let sum : at out' l ≡ sum_by t f s j r on l (at out l) = subst (λ (a : ℕ). at out' a ≡ sum_by t f s j r on a (at out a)) same (here.1 (l - g * 16) near) in
            subst (λ (a : Bool). Lane t f s j r a new' old out' l) on' (
              sum ∙ ap (sum_by t f s j r on l) (z.rest l high),
              λ off q u. subst (λ (a : ℕ). at new' (new_start j q + a) ≡ slew_by t f s j r on q a) same (here.0 off q (l - g * 16) u near),
            ))
            (which (ltb l (g * 16)));
      }

-- all groups, by which have an active voice
pub voiced-done : {j : ℕ} {r : Route} {v : View} {h e b i m : List Float} {groups fresh : List Bool} {snap : Bool} {source with : Place} {k : ℕ} {before new old out : List Float} {z : List Bool}
    → Voiced j r v h e b i m groups fresh snap source with k before new old out → groups ≡ z → (t : Env) (f : Rows) (s : Own) → t.snap ≡ snap → t.fresh ≡ fresh → r.voice ≡ true
    → Viewed t f s j v r h e b i m → Stands t f s j 0 r.source.read source v.point.stride h i m → AuxStands t f s j r.aux with v.point.stride h i m → (l : ℕ) → l < k
    → get_or z (l / 16) false ≡ in_group t l → Lane t f s j r (in_group t l) new old out l
voiced-done {j} {r} {new = new} {old = old} {out = out} y same t f s n o c w d x l k on =
    subst (λ (a : Bool). Lane t f s j r a new old out l) (ap (λ (a : List Bool). get_or a (l / 16) false) same ∙ on) (y.done t f s n o c w d x l k)

-- ---- slews afterwards

module _ (t : Env) (x : Mix) (f : Rows) (s : Own) (j : ℕ) (r : Route) (q : x.route j ≡ r) (p : plain t x.voice r ≡ false) (i : idle t r ≡ false) (v : x.voice ≡ true) (w : r.voice ≡ true) (l : ℕ) where
  moves-is : moves_in t x r l ≡ in_group t l
  moves-is = rw (p, i, v, w)

  aux-is : (aux : Option Input) → aux_by t f s j r (in_group t l) l aux ≡ aux_slew t x f s j r l aux
  aux-is None = refl
  aux-is (Some u) = rw moves-is

  source_is : slew_by t f s j r (in_group t l) 0 l ≡ source_after t x f s j l
  unfolding source_after
  source_is = rw (q, moves-is)

  after_is : slew_by t f s j r (in_group t l) 1 l ≡ aux_after t x f s j l
  unfolding aux_after
  after_is = rw q (aux-is r.aux)

  pub slew-is : (a : ℕ) → a < 2 → slew_by t f s j r (in_group t l) a l ≡ slew_after t x f s j a l
  slew-is zero h = source_is
  slew-is (suc zero) h = after_is
  slew-is (suc (suc a)) h = absurd (omega arith)
