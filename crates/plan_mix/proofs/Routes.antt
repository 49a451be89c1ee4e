-- The sums and the new slews of a plan, route by route. Assumes nothing.
use mathlib.Core.Path.{◌≡◌, refl, sym, ◌∙◌}
use mathlib.Core.Bool.{Bool, true, false, not, ◌&&◌, ◌||◌}
use mathlib.Core.Logic.{⊎_elim}
use mathlib.Core.List.{List}
use Prim.Native.Nat.{ℕ, ◌+◌, ◌≤◌, ◌<◌}
use native.Mathlib.Nat.{eq-or-lt_of_le, le_of_suc-le-suc}
use native.Mathlib.Omega.{arith}
use borrow.Author.Tests.{ltb-true, ltb-false, lt-ltb}
use lib.Dec.{ltb}
use lib.Ieee.{Float}
use Rattle.config.specs.Sizes.{slots}
use Rattle.state.specs.declared.Route.{Route}
use Rattle.state.specs.declared.SignalPart.{SignalPart}
use Rattle.state_filled.specs.Filled.{no_route}
use Rattle.model.specs.Counts.{at}
use Rattle.model.specs.Env.{Env, Rows, Own}
use Rattle.model.specs.Layout.{plan_width}
use Rattle.model.specs.Mix.{Mix}
use Rattle.model.specs.RouteValue.{idle, plain}
use Rattle.model.specs.Sums.{other_step}
use Rattle.lane_input.specs.Reads.{Works, part_for, point_of}
use Rattle.lane_input.proofs.Numbers.{which}
use Rattle.lane.specs.declared.View.{View}
use Rattle.lane.specs.View.{aux_part, Viewed}
use Rattle.plan_sum.specs.declared.Job.{Job}
use Rattle.plan_sum.specs.declared.Ground.{Ground}
use Rattle.plan_sum.specs.Job.{lane_count, Mixes}
use Rattle.plan_sum.specs.Ground.{Based, ground_of, view_by}
use Rattle.plan_sum.proofs.Found.{viewed}
use Rattle.plan_sum.proofs.Steps.{other-plain, other-idle}
use Rattle.plan_slews.specs.Put.{still, new_start, IsNew}
use Rattle.plan_slews.proofs.News.{still-new}
use Rattle.plan_mix.proofs.Laws.{never}

-- ---- whether a route is added

pub both-off : (p i : Bool) {r : Bool} → r ≡ not (p || i) && true → r ≡ true → (p ≡ false) × (i ≡ false)
both-off true i e h = never (sym e ∙ h)
both-off false true e h = never (sym e ∙ h)
both-off false false e h = (refl, refl)

rests : (t : Env) (f : Rows) (s : Own) (x : Mix) (j l : ℕ) (a : Float) {r : Route} (b d : Bool) → x.route j ≡ r → b ≡ plain t x.voice r → d ≡ idle t r → not (b || d) && true ≡ false
    → a ≡ other_step t f s x j l (x.route j) a
rests t f s x j l a true d q e i h = other-plain t f s x j l a q e refl
rests t f s x j l a false true q e i h = other-idle t f s x j l a q e refl i refl
rests t f s x j l a false false q e i h = never (sym h)

pub other-rests : (t : Env) (f : Rows) (s : Own) (x : Mix) (j l : ℕ) (a : Float) {r : Route} (b d : Bool) {m : Bool} → x.route j ≡ r → b ≡ plain t x.voice r → d ≡ idle t r
    → m ≡ not (b || d) && true → m ≡ false → a ≡ other_step t f s x j l (x.route j) a
other-rests t f s x j l a b d q e i n h = rests t f s x j l a b d q e i (sym n ∙ h)

-- ---- a route that is there

pub viewed-here : {t : Env} {f : Rows} {s : Own} {x : Mix} {w : Job} {h g b i m : List Float} (j : ℕ) {v : View} {r : Route} {a o : SignalPart} → Mixes t f s x w h g i m
    → Works t (point_of w.scene w.chunks) b → v ≡ view_by (ground_of w) j r a o → a ≡ part_for w.signals r.source.read → o ≡ aux_part w.signals r.aux
    → w.plan.first + j < slots → Viewed t f s j v r h g b i m
viewed-here {s = s} {w = w} j k work e q p here =
    viewed j k work e q p (record { by = s; own = rw (e, lt-ltb (w.plan.first + j) slots here) (k.own j here); raw = λ l. refl; value = λ l. refl })

none-still : {r : Route} → r ≡ no_route → still r ≡ true
none-still e = rw e

-- a route that is not there has no slews
pub new-there : (t : Env) (x : Mix) (f : Rows) (s : Own) (j a : ℕ) (r : Route) (n : List Float) → (slots ≤ a → r ≡ no_route) → (a < slots → IsNew t x f s j r n) → IsNew t x f s j r n
new-there t x f s j a r n past there off =
    ⊎_elim
    (λ (b : ltb a slots ≡ true). there (ltb-true a slots b) off)
    (λ (b : ltb a slots ≡ false). never (sym off ∙ none-still (past (ltb-false a slots b))))
    (which (ltb a slots))

-- ---- one route more

pub new-next : (t : Env) (x : Mix) (f : Rows) (s : Own) (j : ℕ) (r : Route) (m n : List Float) → t.stride ≤ 64 → ((p : ℕ) → p < new_start j 0 → at n p ≡ at m p) → x.route j ≡ r
    → (j < slots → IsNew t x f s j r n) → ((i : ℕ) → i < j → i < slots → IsNew t x f s i (x.route i) m) → (i : ℕ) → i < j + 1 → i < slots → IsNew t x f s i (x.route i) n
new-next t x f s j r m n small left q here before i h b =
    ⊎_elim
    (λ (z : i ≡ j). rw (z, q) (here (omega arith)))
    (λ (z : i < j). still-new t x f s i j (x.route i) m n z small left (before i z b))
    (eq-or-lt_of_le (le_of_suc-le-suc (omega arith)))

-- ---- sizes

pub stride-small : (t : Env) (w : Job) {g : Ground} → g ≡ ground_of w → Based g → t.stride ≡ w.scene.stride → t.stride ≤ 64
stride-small t w e b q = rw q (rw e at b).sized.stride

width-all : (n : ℕ) (voice : Bool) → voice ≡ true → plan_width n voice ≤ n
width-all n voice e = rw e (omega arith)

-- a plan per voice has as many lanes as there are
pub wide-lanes : (w : Job) {g : Ground} {n : ℕ} → g ≡ ground_of w → n ≡ lane_count w → g.voice ≡ true → n ≤ g.point.stride
wide-lanes w e d h = rw (d, e) (width-all w.scene.stride w.plan.voice (rw e at h))
