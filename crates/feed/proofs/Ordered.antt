-- In a list that passes the test each feeder stands before what it feeds, and only such a list passes it. Assumes nothing.
use mathlib.Core.Path.{◌≡◌, refl, sym, ◌∙◌}
use mathlib.Core.Logic.{◌≢◌, ◌⊎◌, inl, inr, ◌↔◌}
use mathlib.Core.Bool.{Bool, true, false, not}
use mathlib.Core.List.{List, [], ◌∷◌}
use Prim.Native.Nat.{ℕ, ◌<◌}
use native.Mathlib.Omega.{arith}
use native.Mathlib.Decide.{ℕ_discrete}
use lib.ListN.{length, get_or}
use borrow.Author.Tests.{eq-eqb, ne_eqb, not-true}
use Rattle.feed.specs.Numbers.{In, Distinct, index_of}
use Rattle.feed.specs.Order.{fed_by, ordered}
use Rattle.feed.proofs.Tests.{which, and-true-l, and_true_r}
use Rattle.feed.proofs.Count.{hit_same, hit_other, in-at}
use Rattle.feed.proofs.Index.{index_same, index-other, at-index, index_at}
use Rattle.feed.proofs.Fed.{fed-none, fed-some}

module _ (feeds : ℕ → ℕ → Bool) where
  -- nothing after the first of a list that passes feeds it
  pub first-free : (e : ℕ) (l : List ℕ) → ordered feeds (e ∷ l) ≡ true → fed_by feeds l e ≡ false
  first-free e l t = not-true (fed_by feeds l e) (and-true-l (not (fed_by feeds l e)) (ordered feeds l) t)

  pub ordered-rest : (e : ℕ) (l : List ℕ) → ordered feeds (e ∷ l) ≡ true → ordered feeds l ≡ true
  ordered-rest e l t = and_true_r (not (fed_by feeds l e)) (ordered feeds l) t

  pub ordered-before : (l : List ℕ) → ordered feeds l ≡ true → (a b : ℕ) → In a l → In b l → a ≢ b → feeds a b ≡ true → index_of a l < index_of b l
  ordered-before [] t a b ma mb ne f = omega arith
  ordered-before (e ∷ l) t a b ma mb ne f =
      go (ℕ_discrete a e) (ℕ_discrete b e) (λ ka kb. ordered-before l (ordered-rest e l t) a b ka kb ne f)
    where
      go : Dec (a ≡ e) → Dec (b ≡ e) → (In a l → In b l → index_of a l < index_of b l) → index_of a (e ∷ l) < index_of b (e ∷ l)
      go (yes p) (yes q) ih = absurd (ne (p ∙ sym q))
      go (yes p) (no q) ih = rw (eq-eqb a e p, ne_eqb b e q) (omega arith)
      go (no p) (yes q) ih =
          let last : fed_by feeds l b ≡ false = rw q (first-free e l t) in
          omega (arith, hit_other a e p, fed-none feeds l a b last ne f)
      go (no p) (no q) ih = rw (ne_eqb a e p, ne_eqb b e q) (omega (arith, ih (omega (arith, hit_other a e p)) (omega (arith, hit_other b e q))))

  -- each feeder stands at an earlier place than what stands at i
  pub ordered_at : (l : List ℕ) → Distinct l → ordered feeds l ≡ true → (i : ℕ) → i < length l → (a : ℕ) → In a l → a ≢ get_or l i 0 → feeds a (get_or l i 0) ≡ true
      → (j : ℕ) × (j < i) × (get_or l j 0 ≡ a)
  ordered_at l once t i h a ma ne f =
      (index_of a l, omega (arith, index_at l once i h, ordered-before l t a (get_or l i 0) ma (in-at l i h) ne f), (at-index a l ma).0)

  before-ordered : (l : List ℕ) → Distinct l → ((a b : ℕ) → In a l → In b l → a ≢ b → feeds a b ≡ true → index_of a l < index_of b l) → ordered feeds l ≡ true
  before-ordered [] once h = refl
  before-ordered (e ∷ l) once h = rw (none (which (fed_by feeds l e)), before-ordered l (λ a. omega (arith, once a)) rest)
    where
      apart : (a : ℕ) → In a l → a ≢ e
      apart a k p = omega (arith, once e, hit_same e, rw p at k)

      none : (fed_by feeds l e ≡ true) ⊎ (fed_by feeds l e ≡ false) → fed_by feeds l e ≡ false
      none (inr p) = p
      none (inl p) =
          let r = fed-some feeds l e p in
          absurd (omega (arith, index_same e l, h r.from e (omega (arith, r.stands)) (omega (arith, hit_same e)) r.other r.feed))

      rest : (a b : ℕ) → In a l → In b l → a ≢ b → feeds a b ≡ true → index_of a l < index_of b l
      rest a b ka kb ne f =
          omega (arith, h a b (omega arith) (omega arith) ne f, index-other a e l (apart a ka), index-other b e l (apart b kb))

  -- THE TEST: each feeder stands before what it feeds
  pub ordered-means : (l : List ℕ) → Distinct l → (ordered feeds l ≡ true) ↔ ((a b : ℕ) → In a l → In b l → a ≢ b → feeds a b ≡ true → index_of a l < index_of b l)
  ordered-means l once = (ordered-before l, before-ordered l once)
