-- A plan of which every route is plain: its slews stand still, and its numbers are the sums of its products. Assumes nothing.
use Rattle.std.specs.Prelude.{Option, Some, None}
use mathlib.Core.Path.{◌≡◌, refl, sym, ap, ap₂, ◌∙◌}
use mathlib.Core.Bool.{Bool, true, false, not, cond, ◌&&◌, ◌||◌}
use mathlib.Core.Logic.{inr}
use mathlib.Core.List.{List}
use Prim.Native.Nat.{ℕ, zero, suc, ◌+◌, ◌-◌, ◌≤◌, ◌<◌}
use native.Mathlib.Omega.{arith}
use borrow.Author.Tests.{le-leb, lt-leb, lt-ltb, le-ltb}
use lib.Dec.{leb, ltb}
use lib.Ieee.{Float}
use Rattle.number.specs.Number.{plus, times, hold}
use Rattle.state.specs.declared.Base.{Base}
use Rattle.state.specs.declared.Base.TheVariants as B
use Rattle.state.specs.declared.Input.{Input}
use Rattle.state.specs.declared.Route.{Route}
use Rattle.state.specs.declared.State.{State}
use Rattle.model.specs.Audio.{bounded, whole_plain, new_audio}
use Rattle.model.specs.Counts.{stride_of, plan_at, at}
use Rattle.model.specs.Env.{Env, Rows, Own, gain_of, base_of}
use Rattle.model.specs.Lanes.{in_span, sounding}
use Rattle.model.specs.Mix.{Mix}
use Rattle.model.specs.RouteValue.{is_zero, source_in, aux_in, raw_in, whole_row, plain}
use Rattle.model.specs.Routes.{free_slew}
use Rattle.model.specs.Slews.{aux_slew, source_after, aux_after}
use Rattle.model.specs.Sums.{base_in, offsets, some_plain, all_plain, scaled_gain, plains, others, audio_begun, audio_sum}
use Rattle.model.specs.Tick.{fill_from, own_start, put_slews, slew_after}
use Rattle.model.proofs.FillFrom.{fill-outside, fill-same, fill-self}
use Rattle.plan_sum.specs.Job.{base_by}
use Rattle.plan_sweep.specs.Sweep.{swept_step, place_of, swept}
use Rattle.plan_sweep.proofs.Laws.{fill-append}
use Rattle.plan_sweep.specs.Leads.{offset_sum}

-- ---- tests

and-off : (a : Bool) (p q : Float) → cond (a && false) p q ≡ q
and-off true p q = refl
and-off false p q = refl

or-on : (a : Bool) → (a || true) ≡ true
or-on true = refl
or-on false = refl

either : (b : Bool) (p q : Float) → cond (true && not b) p q ≡ cond b q p
either true p q = refl
either false p q = refl

-- ---- slews

slews-stay : (st : State) (d : ℕ) (g : Own) (m : List Float) (k : ℕ)
    → ((j q l : ℕ) → j < k → q < 2 → l < stride_of st → g j q l ≡ at m (own_start st ((plan_at st d).first + j) q + l)) → put_slews st d g k m ≡ m
unfolding put_slews
slews-stay st d g m zero e = refl
slews-stay st d g m (suc k) e =
    let s : ℕ = stride_of st in
    let r : ℕ = (plan_at st d).first + k in
    ap (λ (y : List Float). fill_from (fill_from y (own_start st r 0) (g k 0) s) (own_start st r 1) (g k 1) s) (slews-stay st d g m k (λ j q l b. e j q l (omega arith)))
    ∙ ap (λ (y : List Float). fill_from y (own_start st r 1) (g k 1) s) (fill-self m (own_start st r 0) (g k 0) s (λ l b. e k 0 l (omega arith) (omega arith) b))
    ∙ fill-self m (own_start st r 1) (g k 1) s (λ l b. e k 1 l (omega arith) (omega arith) b)

module _ (t : Env) (x : Mix) (f : Rows) (s : Own) where
  source_stays : (j l : ℕ) → plain t x.voice (x.route j) ≡ true → source_after t x f s j l ≡ s j 0 l
  unfolding source_after
  source_stays j l h = rw h (and-off (not (free_slew (x.route j).source.slew)) (source_in t f s j l (x.route j)) (s j 0 l))

  aux-is : (j l : ℕ) (r : Route) (a : Option Input) → plain t x.voice r ≡ true → aux_slew t x f s j r l a ≡ s j 1 l
  aux-is j l r None h = refl
  aux-is j l r (Some i) h = rw h (and-off (not (free_slew i.slew)) (aux_in t f s j l r i) (s j 1 l))

  aux-stays : (j l : ℕ) → plain t x.voice (x.route j) ≡ true → aux_after t x f s j l ≡ s j 1 l
  unfolding aux_after
  aux-stays j l h = aux-is j l (x.route j) (x.route j).aux h

  slew-stays : (j q l : ℕ) → plain t x.voice (x.route j) ≡ true → q < 2 → slew_after t x f s j q l ≡ s j q l
  slew-stays j zero l h b = source_stays j l h
  slew-stays j (suc zero) l h b = aux-stays j l h
  slew-stays j (suc (suc q)) l h b = absurd (omega arith)

-- SLEWS of plain routes stand still
pub slews-still : (st : State) (d : ℕ) (t : Env) (x : Mix) (f : Rows) (s : Own) (m : List Float) (k : ℕ)
    → ((j q l : ℕ) → s j q l ≡ at m (own_start st ((plan_at st d).first + j) q + l)) → ((j : ℕ) → j < k → plain t x.voice (x.route j) ≡ true)
    → put_slews st d (slew_after t x f s) k m ≡ m
slews-still st d t x f s m k o h = slews-stay st d (slew_after t x f s) m k (λ j q l b c z. slew-stays t x f s j q l (h j b) c ∙ o j q l)

-- ---- sums

pub plain_by : (t : Env) (voice : Bool) (r : Route) → voice ≡ true → sounding t ≡ true → r.simple ≡ true → whole_row t r.source.read ≡ true → plain t voice r ≡ true
unfolding plain
plain_by t voice r v s p k = rw (v, s, p, k)

pub base-is : (t : Env) (dest : ℕ) (b : Base) → base_of t dest b ≡ base_by t.gains t.globals t.bases dest b
base-is t dest B.Set = refl
base-is t dest (B.Held src) = refl
base-is t dest (B.Amount slot) = refl
base-is t dest (B.Output slot) = refl

module _ (t : Env) (x : Mix) where
  abbrev Plain : ℕ → Type 0
  Plain k = (j : ℕ) → j < k → plain t x.voice (x.route j) ≡ true

  fewer : (k : ℕ) → Plain (suc k) → Plain k
  fewer k h j b = h j (omega arith)

  all_are : (k : ℕ) → Plain k → all_plain t x k ≡ true
  unfolding all_plain
  all_are zero h = refl
  all_are (suc k) h = rw (all_are k (fewer k h), h k (omega arith))

  pub some_is : (k : ℕ) → 0 < k → Plain k → some_plain t x k ≡ true
  unfolding some_plain
  some_is zero b h = absurd (omega arith)
  some_is (suc k) b h = rw (h k (omega arith)) (or-on (some_plain t x k))

  pub others-none : (f : Rows) (s : Own) (l : ℕ) (a : Float) (k : ℕ) → Plain k → others t f s x l a k ≡ a
  unfolding others
  others-none f s l a zero h = refl
  others-none f s l a (suc k) h = rw (h k (omega arith)) (others-none f s l a k (fewer k h))

  offset-same : (p : Bool) (a y : Float) {b z : Float} → p ≡ true → a ≡ b → y ≡ z → cond p (plus a y) a ≡ plus b z
  offset-same p a y hp ha hy = rw (hp, ha, hy)

  pub offsets_are : (o : List Float) (first k : ℕ) → Plain k → ((j : ℕ) → j < k → times (x.route j).offset (gain_of t (x.route j)) ≡ at o (first + j)) → offsets t x k ≡ offset_sum o first k
  unfolding offsets offset_sum
  offsets_are o first zero h e = refl
  offsets_are o first (suc k) h e =
      offset-same (plain t x.voice (x.route k)) (offsets t x k) _ (h k (omega arith)) (offsets_are o first k (fewer k h) (λ j b. e j (omega arith))) (e k (omega arith))

  step_same : (p : Bool) (gain raw a : Float) {g w c : Float} → p ≡ true → gain ≡ g → raw ≡ w → a ≡ c → cond (p && not (is_zero gain)) (plus a (times raw gain)) a ≡ swept_step g w c
  step_same p gain raw a {g} {w} {c} hp hg hw ha = rw (hp, hg, hw, ha) (either (is_zero g) (plus c (times w g)) c)

  pub plains-are : (f : Rows) (s : Own) (l : ℕ) (m n : List ℕ) (g xs : List Float) (first k : ℕ) → Plain k
      → ((j : ℕ) → j < k → scaled_gain t (x.route j) ≡ at g (first + j))
      → ((j : ℕ) → j < k → raw_in t f s j l (x.route j) ≡ at xs (place_of m n (first + j) t.frame l))
      → plains t f s x l k ≡ swept m n g xs first t.frame l (plus (base_in t x) (offsets t x x.count)) k
  unfolding plains swept
  plains-are f s l m n g xs first zero h e r = refl
  plains-are f s l m n g xs first (suc k) h e r =
      step_same (plain t x.voice (x.route k)) (scaled_gain t (x.route k)) (raw_in t f s k l (x.route k)) (plains t f s x l k) (h k (omega arith)) (e k (omega arith)) (r k (omega arith))
      (plains-are f s l m n g xs first k (fewer k h) (λ j b. e j (omega arith)) (λ j b. r j (omega arith)))

  held_in : (bd wp sp : Bool) (mn mx y p o : Float) → wp ≡ true → y ≡ cond sp p o → cond (bd && (not wp || sp)) (hold mn mx y) y ≡ cond sp (cond bd (hold mn mx p) p) o
  held_in bd true true mn mx y p o h e = rw e (with-on bd)
    where
      with-on : (b : Bool) → cond (b && true) (hold mn mx p) p ≡ cond b (hold mn mx p) p
      with-on true = refl
      with-on false = refl
  held_in bd true false mn mx y p o h e = rw e (and-off bd _ _)
  held_in bd false sp mn mx y p o h e = let z : ◌≡◌ {A = ℕ} 0 1 = cc in absurd (omega arith)

  begun-is : (f : Rows) (s : Own) (o : Float) (l : ℕ) → 0 < x.count → Plain x.count → audio_sum t f s x o l ≡ cond (in_span t l) (plains t f s x l x.count) o
  unfolding audio_sum
  begun-is f s o l b h =
      others-none f s l (audio_begun t f s x o l) x.count h
      ∙ ap (λ (z : Bool). cond z (cond (in_span t l) (plains t f s x l x.count) o) (base_in t x)) (some_is x.count b h)

  whole_is : 0 < x.count → Plain x.count → whole_plain t x ≡ true
  whole_is b h = ap₂ ◌&&◌ (some_is x.count b h) (all_are x.count h)

  -- THE NUMBER in a lane
  pub new_is : (f : Rows) (s : Own) (o : ℕ → Float) (l : ℕ) → 0 < x.count → Plain x.count
      → new_audio t x f s o l ≡ cond (in_span t l) (cond (bounded x) (hold x.min x.max (plains t f s x l x.count)) (plains t f s x l x.count)) (o l)
  unfolding new_audio
  new_is f s o l b h =
      held_in (bounded x) (whole_plain t x) (in_span t l) x.min x.max (audio_sum t f s x (o l) l) (plains t f s x l x.count) (o l) (whole_is b h) (begun-is f s (o l) l b h)

-- ---- a row whose lanes outside a span stay as they are

pub inside : (a n l : ℕ) (p q : Float) → l < n → cond (leb a (a + l) && ltb (a + l) (a + n)) p q ≡ p
inside a n l p q h = rw (le-leb a (a + l) (omega arith), lt-ltb (a + l) (a + n) (omega arith))

pub before : (a n l : ℕ) (p q : Float) → l < a → cond (leb a l && ltb l (a + n)) p q ≡ q
before a n l p q h = rw (lt-leb a l h)

pub after : (a n l : ℕ) (p q : Float) → cond (leb a (a + n + l) && ltb (a + n + l) (a + n)) p q ≡ q
after a n l p q = rw (le-leb a (a + n + l) (omega arith), le-ltb (a + n + l) (a + n) (omega arith))

pub span-fill : (m : List Float) (b width a n : ℕ) (g f : ℕ → Float) → a + n ≤ width → ((l : ℕ) → l < width → g l ≡ cond (leb a l && ltb l (a + n)) (f l) (at m (b + l)))
    → fill_from m b g width ≡ fill_from m (b + a) (λ l. f (a + l)) n
span-fill m b width a n g f h e =
    let rest : ℕ = width - (a + n) in
    let all : width ≡ a + n + rest = omega arith in
    let done : List Float = fill_from m (b + a) (λ l. f (a + l)) n in
    let first : fill_from m b g (a + n) ≡ done =
    sym (fill-append m b g a n)
    ∙ ap (λ (y : List Float). fill_from y (b + a) (λ l. g (a + l)) n) (fill-self m b g a (λ l k. e l (omega arith) ∙ before a n l _ _ k))
    ∙ fill-same m (b + a) (λ l. g (a + l)) (λ l. f (a + l)) n (λ l k. e (a + l) (omega arith) ∙ inside a n l _ _ k) in
    ap (fill_from m b g) all
    ∙ sym (fill-append m b g (a + n) rest)
    ∙ ap (λ (y : List Float). fill_from y (b + (a + n)) (λ l. g (a + n + l)) rest) first
    ∙ fill-self done (b + (a + n)) (λ l. g (a + n + l)) rest
    (λ l k.
    let place : b + (a + n + l) ≡ b + (a + n) + l = omega arith in
    e (a + n + l) (omega arith) ∙ after a n l _ _ ∙ ap (at m) place
    ∙ sym (fill-outside m (b + a) (λ l. f (a + l)) n (b + (a + n) + l) (inr (omega arith))))
