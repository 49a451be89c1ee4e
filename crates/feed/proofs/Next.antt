-- The one that `next` takes is the one that document 01 asks for, and no other is. Assumes nothing.
use mathlib.Core.Path.{◌≡◌, ap}
use mathlib.Core.Logic.{◌⊎◌, inl, inr, ◌↔◌}
use mathlib.Core.Bool.{Bool, true, false, not}
use mathlib.Core.List.{List, [], ◌∷◌}
use Prim.Native.Nat.{ℕ, ◌≤◌}
use native.Mathlib.Omega.{arith}
use borrow.Author.Tests.{not-true}
use lib.ListN.{length}
use Rattle.feed.specs.Numbers.{In, Ascending, first_or}
use Rattle.feed.specs.Order.{fed_by, free, next}
use Rattle.feed.specs.Taken.{Taken}
use Rattle.feed.proofs.Tests.{which}
use Rattle.feed.proofs.Count.{hit_same, in-cases, in-length}
use Rattle.feed.proofs.Keep.{keep-in, keep-from, keep-ascending, keep-none, first-in, first-there, first-lowest}

module _ (feeds : ℕ → ℕ → Bool) where
  -- those that no other one left feeds are the free ones
  pub free_in : (left : List ℕ) (b : ℕ) → In b left → fed_by feeds left b ≡ false → In b (free feeds left)
  free_in left b h f = keep-in (λ x. not (fed_by feeds left x)) b left h (ap not f)

  pub free-from : (left : List ℕ) (b : ℕ) → In b (free feeds left) → In b left × (fed_by feeds left b ≡ false)
  free-from left b h = let r = keep-from (λ x. not (fed_by feeds left x)) b left h in (r.0, not-true (fed_by feeds left b) r.1)

  -- the next one stands among those left
  pub next-in : (left : List ℕ) → 1 ≤ length left → In (next feeds left) left
  next-in [] h = absurd (omega arith)
  next-in (u ∷ us) h = elim (in-cases (next feeds (u ∷ us)) u (free feeds (u ∷ us)) (first-in u (free feeds (u ∷ us)))) [
    | inl e ↦ rw e (omega (arith, hit_same u))
    | inr k ↦ (free-from (u ∷ us) (next feeds (u ∷ us)) k).0
  ]

  -- where one is free, the next one is free
  pub next-free : (left : List ℕ) (b : ℕ) → In b left → fed_by feeds left b ≡ false → fed_by feeds left (next feeds left) ≡ false
  next-free left b h f = (free-from left (next feeds left) (first-there (first_or 0 left) b (free feeds left) (free_in left b h f))).1

  -- where none is free, it is the first of those left
  pub next-first : (left : List ℕ) → ((b : ℕ) → In b left → fed_by feeds left b ≡ true) → next feeds left ≡ first_or 0 left
  next-first left all = ap (λ (l : List ℕ). first_or (first_or 0 left) l) (keep-none (λ x. not (fed_by feeds left x)) left (λ b h. ap not (all b h)))

  module _ (left : List ℕ) (up : Ascending left) where
    pub next-taken : 1 ≤ length left → Taken feeds left (next feeds left)
    next-taken h = record {
      unplaced = next-in left h;
      lowest_free = λ b k f. (
        next-free left b k f,
        first-lowest (first_or 0 left) b (free feeds left) (keep-ascending (λ x. not (fed_by feeds left x)) left up) (free_in left b k f),
      );
      lowest_left = λ all b k. rw (next-first left all) (first-lowest 0 b left up k);
    }

  -- the one taken is fed exactly if none of those left is free
  pub taken-fed : (left : List ℕ) (d : ℕ) → Taken feeds left d → (fed_by feeds left d ≡ true) ↔ ((b : ℕ) → In b left → fed_by feeds left b ≡ true)
  taken-fed left d t = (λ fed b k. all fed b k (which (fed_by feeds left b)), λ h. h d t.unplaced)
    where
      all : fed_by feeds left d ≡ true → (b : ℕ) → In b left → (fed_by feeds left b ≡ true) ⊎ (fed_by feeds left b ≡ false) → fed_by feeds left b ≡ true
      all fed b k (inl e) = e
      all fed b k (inr e) = let z : fed_by feeds left d ≡ false = (t.lowest_free b k e).0 in cc

  -- two that are taken are one
  pub taken-one : (left : List ℕ) (d e : ℕ) → Taken feeds left d → Taken feeds left e → d ≡ e
  taken-one left d e t s = go (which (fed_by feeds left d))
    where
      go : (fed_by feeds left d ≡ true) ⊎ (fed_by feeds left d ≡ false) → d ≡ e
      go (inl f) =
          let all = (taken-fed left d t).0 f in
          omega (arith, t.lowest_left all e s.unplaced, s.lowest_left all d t.unplaced)
      go (inr f) =
          let r = s.lowest_free d t.unplaced f in
          omega (arith, r.1, (t.lowest_free e s.unplaced r.0).1)

  pub taken_next : (left : List ℕ) (d : ℕ) → Ascending left → Taken feeds left d → d ≡ next feeds left
  taken_next left d up t = taken-one left d (next feeds left) t (next-taken left up (in-length d left t.unplaced))
