-- The order depends only on what feeds what among those left, and goes with a renaming that keeps them apart. So the order of destinations is that of
-- their places. Assumes nothing.
use mathlib.Core.Path.{◌≡◌, refl, sym, ap, ◌∙◌}
use mathlib.Core.Logic.{◌⊎◌, inl, inr}
use mathlib.Core.Bool.{Bool, true, false, not}
use mathlib.Core.List.{List, [], ◌∷◌, map}
use Prim.Native.Nat.{ℕ, zero, suc, ◌+◌, ◌≤◌, ◌<◌}
use native.Mathlib.Omega.{arith}
use native.Mathlib.Decide.{ℕ_discrete}
use lib.Dec.{eqb}
use lib.ListN.{length, get_or, length-map}
use borrow.Author.Tests.{eq-eqb, ne_eqb}
use Rattle.feed.specs.Numbers.{In, Distinct, remove, keep, first_or, up_from, index_of}
use Rattle.feed.specs.Names.{Apart, Renames}
use Rattle.feed.specs.Order.{fed_by, free, next, greedy, order}
use Rattle.feed.proofs.Tests.{which}
use Rattle.feed.proofs.Count.{hit_same, remove-in, length-remove, up_from-bound}
use Rattle.feed.proofs.Index.{index_at}
use Rattle.feed.proofs.Next.{next-in}

module _ (f : ℕ → ℕ) (feeds feeds' : ℕ → ℕ → Bool) where
  eqb_apart : (l : List ℕ) → Apart f l → (a b : ℕ) → In a l → In b l → eqb (f a) (f b) ≡ eqb a b
  eqb_apart l apart a b ma mb = elim (ℕ_discrete a b) [
    | yes e ↦ rw (eq-eqb a b e) (eq-eqb (f a) (f b) (ap f e))
    | no ne ↦ rw (ne_eqb a b ne) (ne_eqb (f a) (f b) (λ e. ne (apart a b ma mb e)))
  ]

  fed-renamed : (l us : List ℕ) → Apart f l → Renames f feeds feeds' l → ((a : ℕ) → In a us → In a l) → (b : ℕ) → In b l → fed_by feeds' (map f us) (f b) ≡ fed_by feeds us b
  fed-renamed l [] apart same inside b mb = refl
  fed-renamed l (a ∷ us) apart same inside b mb =
      let ma : In a l = inside a (omega (arith, hit_same a)) in
      rw (same a b ma mb, eqb_apart l apart a b ma mb, fed-renamed l us apart same (λ x m. inside x (omega arith)) b mb)

  keep-renamed : (p q : ℕ → Bool) (l : List ℕ) → ((b : ℕ) → In b l → q (f b) ≡ p b) → keep q (map f l) ≡ map f (keep p l)
  keep-renamed p q [] same = refl
  keep-renamed p q (x ∷ l) same = go (which (p x)) (keep-renamed p q l (λ b m. same b (omega arith)))
    where
      go : (p x ≡ true) ⊎ (p x ≡ false) → keep q (map f l) ≡ map f (keep p l) → keep q (map f (x ∷ l)) ≡ map f (keep p (x ∷ l))
      go (inl t) ih = rw (same x (omega (arith, hit_same x)), t, ih)
      go (inr t) ih = rw (same x (omega (arith, hit_same x)), t, ih)

  first-renamed : (z : ℕ) (l : List ℕ) → first_or (f z) (map f l) ≡ f (first_or z l)
  first-renamed z [] = refl
  first-renamed z (x ∷ l) = refl

  next-renamed : (l : List ℕ) → Apart f l → Renames f feeds feeds' l → 1 ≤ length l → next feeds' (map f l) ≡ f (next feeds l)
  next-renamed [] apart same h = absurd (omega arith)
  next-renamed (u ∷ us) apart same h =
      let l = u ∷ us in
      let freed : free feeds' (map f l) ≡ map f (free feeds l) =
      keep-renamed (λ b. not (fed_by feeds l b)) (λ b. not (fed_by feeds' (map f l) b)) l (λ b m. ap not (fed-renamed l l apart same (λ a k. k) b m)) in
      ap (first_or (f u)) freed ∙ first-renamed u (free feeds l)

  remove-renamed : (l us : List ℕ) → Apart f l → ((a : ℕ) → In a us → In a l) → (d : ℕ) → In d l → remove (f d) (map f us) ≡ map f (remove d us)
  remove-renamed l [] apart inside d md = refl
  remove-renamed l (x ∷ us) apart inside d md =
      go (ℕ_discrete d x) (remove-renamed l us apart (λ a m. inside a (omega arith)) d md)
    where
      go : Dec (d ≡ x) → remove (f d) (map f us) ≡ map f (remove d us) → remove (f d) (map f (x ∷ us)) ≡ map f (remove d (x ∷ us))
      go (yes e) ih = rw (eqb_apart l apart d x md (inside x (omega (arith, hit_same x))), eq-eqb d x e)
      go (no ne) ih = rw (eqb_apart l apart d x md (inside x (omega (arith, hit_same x))), ne_eqb d x ne, ih)

  greedy-renamed : (k : ℕ) (l : List ℕ) → length l ≡ k → Apart f l → Renames f feeds feeds' l → greedy feeds' k (map f l) ≡ map f (greedy feeds k l)
  greedy-renamed zero l h apart same = refl
  greedy-renamed (suc k) l h apart same =
      let d = next feeds l in
      let md : In d l = next-in feeds l (omega arith) in
      let inside : (a : ℕ) → In a (remove d l) → In a l = λ a m. remove-in a d l m in
      rw (next-renamed l apart same (omega arith), remove-renamed l l apart (λ a m. m) d md)
      (ap (λ (r : List ℕ). f d ∷ r) (greedy-renamed k (remove d l) (omega (arith, length-remove d l md))
      (λ a b ma mb. apart a b (inside a ma) (inside b mb)) (λ a b ma mb. same a b (inside a ma) (inside b mb))))

  -- THE ORDER BY OTHER NAMES
  pub order-renamed : (left : List ℕ) → Apart f left → Renames f feeds feeds' left → order feeds' (map f left) ≡ map f (order feeds left)
  unfolding order
  order-renamed left apart same = rw (length-map left f) (greedy-renamed (length left) left refl apart same)

map-id : (l : List ℕ) → map (λ x. x) l ≡ l
map-id [] = refl
map-id (x ∷ l) = ap (λ (r : List ℕ). x ∷ r) (map-id l)

-- only what feeds what among those left counts
pub order_same : (feeds feeds' : ℕ → ℕ → Bool) (left : List ℕ) → ((a b : ℕ) → In a left → In b left → feeds' a b ≡ feeds a b)
    → order feeds' left ≡ order feeds left
order_same feeds feeds' left same =
    ap (λ (l : List ℕ). order feeds' l) (sym (map-id left)) ∙ order-renamed (λ x. x) feeds feeds' left (λ a b ma mb e. e) same ∙ map-id (order feeds left)

-- a list is what stands at its places
pub at_places : (l all : List ℕ) (k : ℕ) → ((i : ℕ) → get_or l i 0 ≡ get_or all (k + i) 0) → map (λ i. get_or all i 0) (up_from k (length l)) ≡ l
at_places [] all k h = refl
at_places (x ∷ l) all k h =
    let here : get_or all k 0 ≡ x = ap (λ (j : ℕ). get_or all j 0) (omega arith) ∙ sym (h 0) in
    rw (here, at_places l all (suc k) (λ i. h (suc i) ∙ ap (λ (j : ℕ). get_or all j 0) (omega arith)))

-- a place in a list is below its length
pub below : (l : List ℕ) (i : ℕ) → In i (up_from 0 (length l)) → i < length l
below l i m = omega (arith, up_from-bound i 0 (length l) m)

-- THE ORDER OF NUMBERED THINGS is that of their places, each place standing for what stands there
module _ (feeds : ℕ → ℕ → Bool) (left : List ℕ) (once : Distinct left) (by_place : ℕ → ℕ → Bool)
    (same : (i j : ℕ) → i < length left → j < length left → by_place i j ≡ feeds (get_or left i 0) (get_or left j 0)) where
  apart : Apart (λ i. get_or left i 0) (up_from 0 (length left))
  apart a b ma mb e = sym (index_at left once a (below left a ma)) ∙ ap (λ (x : ℕ). index_of x left) e ∙ index_at left once b (below left b mb)

  pub order-places : order feeds left ≡ map (λ i. get_or left i 0) (order by_place (up_from 0 (length left)))
  order-places =
      ap (λ (l : List ℕ). order feeds l) (sym (at_places left left 0 (λ i. ap (λ (j : ℕ). get_or left j 0) (omega arith))))
      ∙ order-renamed (λ i. get_or left i 0) by_place feeds (up_from 0 (length left)) apart (λ a b ma mb. sym (same a b (below left a ma) (below left b mb)))
