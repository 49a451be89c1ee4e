-- What sixteen lanes change in the sums and in the new slews. Assumes nothing.
use Rattle.std.specs.Prelude.{Option, Some, None}
use mathlib.Core.Path.{◌≡◌, refl, sym, ap, ◌∙◌}
use mathlib.Core.Bool.{Bool, true, false, not, cond, ◌&&◌}
use mathlib.Core.Logic.{⊎_elim}
use mathlib.Core.List.{List}
use Prim.Native.Nat.{ℕ, zero, suc, ◌+◌, ◌*◌, ◌≤◌, ◌<◌}
use native.Mathlib.Nat.{eq-or-lt_of_le, le_of_suc-le-suc, zero-add}
use native.Mathlib.Omega.{arith}
use lib.ListN.{length, set, length-set}
use lib.Seq.{get_or-set_same, get_or-set_other}
use lib.Ieee.{Float, nan}
use Rattle.state.specs.declared.Input.{Input}
use Rattle.state.specs.declared.Route.{Route}
use Rattle.model.specs.Counts.{at}
use Rattle.model.specs.Env.{Env, Rows, Own}
use Rattle.model.specs.RouteValue.{aux_in}
use Rattle.model.specs.Routes.{free_slew}
use Rattle.model.specs.Tick.{fill_from}
use Rattle.model.proofs.FillFrom.{fill-length}
use Rattle.plan_slews.specs.Put.{aux_free, still, new_start}
use Rattle.lanes16.specs.Told.{Withs}
use Rattle.plan_mix.specs.Mixed.{Between, Apart, aux_by, slew_by}

pub never : {A : Type 0} → false ≡ true → A
never h = let z : ◌≡◌ {A = ℕ} 0 1 = cc in absurd (omega arith)

-- a route that has no slew has nothing new
pub still-none : {A : Type 0} (r : Route) {b : Bool} → b ≡ still r → b ≡ true → still r ≡ false → A
still-none r e on off = never (sym off ∙ sym e ∙ on)

-- ---- a whole row

pub row-long : (m o : List Float) (g : ℕ → Float) (n k : ℕ) → o ≡ fill_from m 0 g n → length m ≡ k → length o ≡ k
row-long m o g n k e b = ap length e ∙ fill-length m 0 g n ∙ b

-- a number that comes of the one that stood there
pub through : (g : Float → Float) (m : List Float) (l : ℕ) {x y r : Float} → x ≡ y → y ≡ g r → r ≡ at m (0 + l) → x ≡ g (at m l)
through g m l e k d = e ∙ k ∙ ap g (d ∙ ap (at m) (zero-add l))

-- ---- numbers put one after the other

pub between_none : (a : ℕ) (g : ℕ → Float) (m : List Float) → Between a 0 g m m
between_none a g m = record { long = refl; done = λ l h. absurd (omega arith); left = λ p h. refl; rest = λ p h. refl }

pub between_more : {a k : ℕ} {g : ℕ → Float} {old out : List Float} {v : Float} → Between a k g old out → a + k < length old → v ≡ g k → Between a (k + 1) g old (set out (a + k) v)
between_more {a} {k} {g} {old} {out} {v} e b h =
    let inside : a + k < length out = omega (arith, e.long) in
    record {
      long = length-set out (a + k) v ∙ e.long;
      done = λ l p.
          ⊎_elim
          (λ (q : l ≡ k). rw q (get_or-set_same out (a + k) v nan inside ∙ h))
          (λ (q : l < k). get_or-set_other out (a + k) (a + l) v nan (λ z. omega arith) ∙ e.done l q)
          (eq-or-lt_of_le (le_of_suc-le-suc (omega arith)));
      left = λ p q. get_or-set_other out (a + k) p v nan (λ z. omega arith) ∙ e.left p q;
      rest = λ p q. get_or-set_other out (a + k) p v nan (λ z. omega arith) ∙ e.rest p (omega arith);
    }

pub between-end : {a k n : ℕ} {g : ℕ → Float} {old out : List Float} → k ≡ n → Between a k g old out → Between a n g old out
between-end q e = rw (sym q) e

-- ---- the new slews of a route in a group

module _ (j a : ℕ) {g h : ℕ → Float} {m n o : List Float} (most : a + 16 ≤ 64) (e : Between (j * 128 + a) 16 g m n) (d : Between (j * 128 + a + 64) 16 h n o) where
  pub two-long : length o ≡ length m
  two-long = d.long ∙ e.long

  two-below : (q l : ℕ) → q < 2 → l < a → at o (new_start j q + l) ≡ at m (new_start j q + l)
  two-below zero l u v = d.left (new_start j 0 + l) (omega arith) ∙ e.left (new_start j 0 + l) (omega arith)
  two-below (suc zero) l u v = d.left (new_start j 1 + l) (omega arith) ∙ e.rest (new_start j 1 + l) (omega arith)
  two-below (suc (suc q)) l u v = absurd (omega arith)

  pub two-apart : Apart j a m o
  two-apart = record { long = two-long; left = λ p q. d.left p (omega arith) ∙ e.left p (omega arith); below = two-below }

  pub two-done : (y : ℕ → ℕ → Float) → ((l : ℕ) → l < 16 → g l ≡ y 0 (a + l)) → ((l : ℕ) → l < 16 → h l ≡ y 1 (a + l)) → (q l : ℕ) → q < 2 → l < 16 → at o (new_start j q + (a + l)) ≡ y q (a + l)
  two-done y s t zero l u v =
      let same : new_start j 0 + (a + l) ≡ j * 128 + a + l = omega arith in
      ap (at o) same ∙ d.left (j * 128 + a + l) (omega arith) ∙ e.done l v ∙ s l v
  two-done y s t (suc zero) l u v =
      let same : new_start j 1 + (a + l) ≡ j * 128 + a + 64 + l = omega arith in
      ap (at o) same ∙ d.done l v ∙ t l v
  two-done y s t (suc (suc q)) l u v = absurd (omega arith)

and-false : (b : Bool) → b && false ≡ false
and-false true = refl
and-false false = refl

aux-kept : (t : Env) (f : Rows) (s : Own) (j : ℕ) (r : Route) (l : ℕ) (aux : Option Input) → aux_by t f s j r false l aux ≡ s j 1 l
aux-kept t f s j r l None = refl
aux-kept t f s j r l (Some i) = rw (and-false (not (free_slew i.slew)))

-- where a group is not worked out they are as they were
pub kept_by : (t : Env) (f : Rows) (s : Own) (j : ℕ) (r : Route) (q l : ℕ) → q < 2 → s j q l ≡ slew_by t f s j r false q l
kept_by t f s j r zero l h = rw (and-false (not (free_slew r.source.slew)))
kept_by t f s j r (suc zero) l h = sym (aux-kept t f s j r l r.aux)
kept_by t f s j r (suc (suc q)) l h = absurd (omega arith)

-- where it is worked out they are the source and the aux, of those that have a slew
after-by : (free table : Bool) (k raw src : Float) {x y : Float} → x ≡ cond free k y → y ≡ cond (not table && free) raw src → x ≡ cond (not free && true) src k
after-by true table k raw src e d = e
after-by false true k raw src e d = e ∙ d
after-by false false k raw src e d = e ∙ d

pub source-by : {free b : Bool} (table : Bool) (k raw src : Float) {x y : Float} → free ≡ b → x ≡ cond free k y → y ≡ cond (not table && b) raw src → x ≡ cond (not b && true) src k
source-by {b = b} table k raw src {x} {y} n e d = after-by b table k raw src (rw n at e) d

with-by : (free : Bool) (k src : Float) {x y : Float} → x ≡ cond free k y → y ≡ src → x ≡ cond (not free && true) src k
with-by true k src e d = e
with-by false k src e d = e ∙ d

pub aux-by : (t : Env) (f : Rows) (s : Own) (j : ℕ) (r : Route) (aux : Option Input) (a l : ℕ) (z : List Float) {free : Bool} {x : Float} → l < 16 → free ≡ aux_free aux
    → x ≡ cond free (s j 1 (a + l)) (at z l) → Withs t f s j r aux a z → x ≡ aux_by t f s j r true (a + l) aux
aux-by t f s j r None a l z h n e w = rw n at e
aux-by t f s j r (Some i) a l z h n e w = with-by (free_slew i.slew) (s j 1 (a + l)) (aux_in t f s j (a + l) r i) (rw n at e) (w l h)
