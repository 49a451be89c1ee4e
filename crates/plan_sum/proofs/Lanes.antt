-- A loop that stores one number a lane. Assumes nothing.
use mathlib.Core.Path.{◌≡◌, refl, ◌∙◌}
use mathlib.Core.Bool.{true, false, cond, ◌&&◌}
use mathlib.Core.Logic.{⊎_elim}
use mathlib.Core.List.{List}
use Prim.Native.Nat.{ℕ, ◌+◌, ◌≤◌, ◌<◌}
use native.Mathlib.Omega.{arith}
use borrow.Author.Count.{below_more}
use borrow.Author.Tests.{ltb-true, ltb-false, leb-true, leb-false}
use lib.Dec.{ltb, leb}
use lib.ListN.{length, set, length-set}
use lib.Seq.{get_or-set_same, get_or-set_other}
use lib.Ieee.{Float, nan}
use Rattle.model.specs.Counts.{at}
use Rattle.lane_input.proofs.Numbers.{which}

-- the lanes below k are as P has them of the old row's; those from k on are the old row's
pub record Laned (P : ℕ → Float → Float → Type 0) (k : ℕ) (old out : List Float) : Type 0 where
  pub as_long : length out ≡ length old
  pub done : (l : ℕ) → l < k → P l (at old l) (at out l)
  pub rest : (l : ℕ) → k ≤ l → at out l ≡ at old l

pub laned-none : (P : ℕ → Float → Float → Type 0) (old : List Float) → Laned P 0 old old
laned-none P old = record { as_long = refl; done = λ l h. absurd (omega arith); rest = λ l h. refl }

pub laned-more : {P : ℕ → Float → Float → Type 0} {k : ℕ} {old out : List Float} {v : Float} → Laned P k old out → k < length old → P k (at out k) v → Laned P (k + 1) old (set out k v)
laned-more {P} {k} {old} {out} {v} e b h =
    let inside : k < length out = omega (arith, e.as_long) in
    let here : P k (at old k) v = rw (e.rest k (omega arith)) at h in
    record {
      as_long = length-set out k v ∙ e.as_long;
      done =
          below_more (λ (l : ℕ). P l (at old l) (at (set out k v) l)) k
          (λ l p. rw (get_or-set_other out k l v nan (λ q. omega arith)) (e.done l p))
          (rw (get_or-set_same out k v nan inside) here);
      rest = λ l p. get_or-set_other out k l v nan (λ q. omega arith) ∙ e.rest l (omega arith);
    }

-- the lanes from a up to k are as P has them of the old row's; the others are the old row's
pub record Ranged (P : ℕ → Float → Float → Type 0) (a k : ℕ) (old out : List Float) : Type 0 where
  pub as_long : length out ≡ length old
  pub done : (l : ℕ) → a ≤ l → l < k → P l (at old l) (at out l)
  pub left : (l : ℕ) → l < a → at out l ≡ at old l
  pub rest : (l : ℕ) → k ≤ l → at out l ≡ at old l

pub ranged-none : (P : ℕ → Float → Float → Type 0) (a : ℕ) (old : List Float) → Ranged P a a old old
ranged-none P a old = record { as_long = refl; done = λ l h k. absurd (omega arith); left = λ l h. refl; rest = λ l h. refl }

pub ranged-more : {P : ℕ → Float → Float → Type 0} {a k : ℕ} {old out : List Float} {v : Float} → Ranged P a k old out → a ≤ k → k < length old → P k (at out k) v
    → Ranged P a (k + 1) old (set out k v)
ranged-more {P} {a} {k} {old} {out} {v} e o b h =
    let inside : k < length out = omega (arith, e.as_long) in
    let here : P k (at old k) v = rw (e.rest k (omega arith)) at h in
    record {
      as_long = length-set out k v ∙ e.as_long;
      done =
          λ l s p.
          below_more (λ (l : ℕ). a ≤ l → P l (at old l) (at (set out k v) l)) k
          (λ l p s. rw (get_or-set_other out k l v nan (λ q. omega arith)) (e.done l s p))
          (λ s. rw (get_or-set_same out k v nan inside) here)
          l p s;
      left = λ l p. get_or-set_other out k l v nan (λ q. omega arith) ∙ e.left l p;
      rest = λ l p. get_or-set_other out k l v nan (λ q. omega arith) ∙ e.rest l (omega arith);
    }

pub ranged-cond : {P : ℕ → Float → Float → Type 0} {a k : ℕ} {old out : List Float} → Ranged P a k old out → (h : ℕ → Float → Float) → ((l : ℕ) (y z : Float) → P l y z → z ≡ h l y)
    → (l : ℕ) → at out l ≡ cond (leb a l && ltb l k) (h l (at old l)) (at old l)
ranged-cond {P} {a} {k} {old} {out} e h by l =
    ⊎_elim
    (λ (p : leb a l ≡ true).
    ⊎_elim
    (λ (q : ltb l k ≡ true). rw (p, q) (by l (at old l) (at out l) (e.done l (leb-true a l p) (ltb-true l k q))))
    (λ (q : ltb l k ≡ false). rw (p, q) (e.rest l (ltb-false l k q)))
    (which (ltb l k)))
    (λ (p : leb a l ≡ false). rw p (e.left l (leb-false a l p)))
    (which (leb a l))
