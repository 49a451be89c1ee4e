-- The sums of a swept plan in a row, and both rows of a plan at each kind of tick. Assumes nothing.
use mathlib.Core.Path.{◌≡◌, refl, sym, ap, ap₂, ◌∙◌}
use mathlib.Core.Bool.{Bool, true, false, not}
use mathlib.Core.Logic.{inr}
use mathlib.Core.List.{List}
use Prim.Native.Nat.{ℕ, ◌+◌, ◌-◌, ◌*◌, ◌≤◌, ◌<◌}
use native.Mathlib.Omega.{arith}
use borrow.Author.Tests.{ne_eqb}
use lib.Dec.{eqb}
use lib.ListN.{length, set}
use lib.Ieee.{Float}
use Rattle.config.specs.Sizes.{lanes}
use Rattle.number.specs.Number.{hold}
use Rattle.model.specs.Counts.{at}
use Rattle.model.specs.Env.{Env, Rows, Own}
use Rattle.model.specs.Mix.{Mix}
use Rattle.model.specs.Tick.{starting, kept, held_sum, new_to, new_from, fill_from, lanes_from}
use Rattle.model.proofs.FillFrom.{fill-inside, fill-outside, fill-same, fill-self}
use Rattle.plan_slews.specs.declared.Tick.{Tick}
use Rattle.plan_slews.specs.Rows.{IsRow}
use Rattle.plan_slews.specs.Seen.{Ticks}
use Rattle.plan_slews.proofs.Lanes.{fill_more}
use Rattle.plan_slews.proofs.Ticks.{to-kept, to-new, from-kept, from_old}
use Rattle.plan_sweep.specs.declared.Pass.{Pass}
use Rattle.plan_sweep.specs.Sweep.{swept_at, swept_row}
use Rattle.plan_sweep.proofs.Kept.{never}
use Rattle.plan_sweep.proofs.Laws.{fill-append}
use Rattle.plan_sweep.proofs.Plains.{inside, before, after}
use Rattle.plan_turning.specs.Turns.{sum_at, Sums, turned}

-- ---- sums

module _ (s p : List ℕ) (g xs : List Float) (q : Pass) (base : Float) (k : ℕ) (bound : q.bound ≡ true) where
  abbrev sum : ℕ → Float
  sum = sum_at s p g xs q base k

  abbrev span : ℕ
  span = q.groups * lanes

  low-before : (l : ℕ) → l < q.from → hold q.min q.max base ≡ sum l
  low-before l h = ap (hold q.min q.max) (sym (before q.from span l _ base h))

  swept-in : (l : ℕ) → l < span → swept_at s p g xs q k (q.from + l) ≡ sum (q.from + l)
  swept-in l h = rw bound (ap (hold q.min q.max) (sym (inside q.from span l _ base h)))

  low-after : (l : ℕ) → hold q.min q.max base ≡ sum (q.from + span + l)
  low-after l = ap (hold q.min q.max) (sym (after q.from span l _ base))

  -- THE ROW: the lanes before the span, in it, and behind it
  pub sums-row : (a : ℕ) (m m₁ m₂ m₃ : List Float) (low : Float) → q.from + span ≤ q.width → low ≡ hold q.min q.max base
      → m₁ ≡ fill_from m a (λ (l : ℕ). low) q.from
      → m₂ ≡ swept_row s p g xs q a k m₁
      → m₃ ≡ fill_from m₂ (a + (q.from + span)) (λ (l : ℕ). low) (q.width - (q.from + span))
      → m₃ ≡ fill_from m a sum q.width
  unfolding swept_row
  sums-row a m m₁ m₂ m₃ low fits e e₁ e₂ e₃ =
      let rest : ℕ = q.width - (q.from + span) in
      let all : q.from + span + rest ≡ q.width = omega arith in
      let first : m₁ ≡ fill_from m a sum q.from = e₁ ∙ fill-same m a (λ (l : ℕ). low) sum q.from (λ l h. e ∙ low-before l h) in
      let second : m₂ ≡ fill_from m a sum (q.from + span) =
      e₂
      ∙ fill-same m₁ (a + q.from) (λ (l : ℕ). swept_at s p g xs q k (q.from + l)) (λ (l : ℕ). sum (q.from + l)) span (λ l h. swept-in l h)
      ∙ ap (λ (y : List Float). fill_from y (a + q.from) (λ (l : ℕ). sum (q.from + l)) span) first
      ∙ fill-append m a sum q.from span in
      e₃
      ∙ fill-same m₂ (a + (q.from + span)) (λ (l : ℕ). low) (λ (l : ℕ). sum (q.from + span + l)) rest (λ l h. e ∙ low-after l)
      ∙ ap (λ (y : List Float). fill_from y (a + (q.from + span)) (λ (l : ℕ). sum (q.from + span + l)) rest) second
      ∙ fill-append m a sum (q.from + span) rest
      ∙ ap (fill_from m a sum) all

  -- as an array
  pub sums-are : (t : Env) (x : Mix) (f : Rows) (u : Own) (m r : List Float) → q.width ≤ length m → Sums t x f u s p g xs q base k → r ≡ fill_from m 0 sum q.width
      → IsRow q.width (held_sum t f u x) r
  sums-are t x f u m r b all e l h =
      let here : l ≡ 0 + l = omega arith in
      ap₂ at e here ∙ fill-inside m 0 sum q.width l h (omega arith) ∙ all l h

-- ---- a row that becomes the one behind it

pub lower-more : (m v r : List Float) (a n l : ℕ) → l < n → v ≡ fill_from m a (lanes_from m (a + n)) l → r ≡ set v (a + l) (at v (a + n + l))
    → r ≡ fill_from m a (lanes_from m (a + n)) (l + 1)
lower-more m v r a n l h e z =
    fill_more m a (lanes_from m (a + n)) l (at v (a + n + l)) v r e
    (ap (λ (y : List Float). at y (a + n + l)) e ∙ fill-outside m a (lanes_from m (a + n)) l (a + n + l) (inr (omega arith)))
    z

-- ---- ticks

pub quiet : {b : Bool} → not b ≡ true → b ≡ false
quiet {b = true} h = never h
quiet {b = false} h = refl

module _ (t : Env) (x : Mix) (f : Rows) (u : Own) (k : Tick) (y : Ticks t x k) (m : List Float) (a n : ℕ) where
  abbrev phase : ℕ
  phase = k.phase

  abbrev old : ℕ → Float
  old = lanes_from m (a + n)

  -- the rows as they are put
  pub rows-any : (begins ends v r : List Float) → IsRow n (new_from t phase x f u old (lanes_from m a)) begins → IsRow n (new_to t phase x f u old) ends
      → v ≡ fill_from m a (at begins) n → r ≡ fill_from v (a + n) (at ends) n → r ≡ turned t phase x f u a n m
  rows-any begins ends v r b c e h =
      let from : ℕ → Float = new_from t phase x f u old (lanes_from m a) in
      let to : ℕ → Float = new_to t phase x f u old in
      h
      ∙ fill-same v (a + n) (at ends) to n c
      ∙ ap (λ (z : List Float). fill_from z (a + n) to n) (e ∙ fill-same m a (at begins) from n b)

  module _ (primed : k.primed ≡ true) (still : k.snap ≡ false) where
    none-starts : (l : ℕ) → starting t x l ≡ false
    none-starts l = rw (y.snap ∙ still)

    -- IN PHASE: the ramps start at the old numbers
    pub rows_next : (sum : ℕ → Float) (r : List Float) → phase ≡ 0 → ((l : ℕ) → l < n → sum l ≡ held_sum t f u x l) → r ≡ fill_from (fill_from m a old n) (a + n) sum n
        → r ≡ turned t phase x f u a n m
    rows_next sum r zero-phase sums e =
        let on : (l : ℕ) → kept t phase x l ≡ false = λ l. rw zero-phase in
        let from : ℕ → Float = new_from t phase x f u old (lanes_from m a) in
        let to : ℕ → Float = new_to t phase x f u old in
        e
        ∙ fill-same (fill_from m a old n) (a + n) sum to n (λ l h. to-new t phase x f u old (lanes_from m a) l refl (on l) (sums l h))
        ∙ ap (λ (z : List Float). fill_from z (a + n) to n)
        (fill-same m a old from n (λ l h. from_old t phase x f u old (lanes_from m a) l refl (on l) refl (none-starts l) (y.primed ∙ primed) refl refl))

    -- OFF PHASE: every lane keeps its numbers
    pub rows-kept : 0 < phase → m ≡ turned t phase x f u a n m
    rows-kept late =
        let off : eqb phase 0 ≡ false = ne_eqb phase 0 (λ e. omega arith) in
        let stays : (l : ℕ) → kept t phase x l ≡ true = λ l. rw (off, y.primed ∙ primed, y.snap ∙ still) in
        let from : ℕ → Float = new_from t phase x f u old (lanes_from m a) in
        let to : ℕ → Float = new_to t phase x f u old in
        sym
        (ap (λ (z : List Float). fill_from z (a + n) to n)
        (fill-self m a from n (λ l h. sym (from-kept t phase x f u old (lanes_from m a) l refl (stays l) refl)))
        ∙ fill-self m (a + n) to n (λ l h. sym (to-kept t phase x f u old (lanes_from m a) l refl (stays l) refl)))
