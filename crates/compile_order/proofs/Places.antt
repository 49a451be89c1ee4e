-- The order of numbered things is that of their places, also where a number stands more than once: the first of those to take is taken by its number
-- and by its place. Assumes nothing.
use mathlib.Core.Path.{◌≡◌, refl, sym, ap, ◌∙◌, subst}
use mathlib.Core.Logic.{◌⊎◌, inl, inr}
use mathlib.Core.Bool.{Bool, true, false, not, ◌&&◌, and-false}
use mathlib.Core.List.{List, [], ◌∷◌, map}
use Prim.Native.Nat.{ℕ, zero, suc, ◌≤◌, ◌<◌}
use native.Mathlib.Omega.{arith}
use native.Mathlib.Decide.{ℕ_discrete}
use lib.Dec.{eqb}
use lib.ListN.{length, get_or, length-map}
use borrow.Author.Tests.{eq-eqb, ne_eqb}
use Rattle.feed.specs.Numbers.{In, remove, keep, first_or, up_from}
use Rattle.feed.specs.Order.{fed_by, free, next, greedy, order}
use Rattle.feed.proofs.Tests.{which}
use Rattle.feed.proofs.Renamed.{at_places, below}
use Rattle.feed.proofs.Count.{hit_same, remove-in, length-remove}
use Rattle.feed.proofs.Next.{next-in, free-from}

-- by the names that f gives the things of the list, `feeds'` says of two things with other names what `feeds` says of two others
abbrev Tells : (ℕ → ℕ) → (ℕ → ℕ → Bool) → (ℕ → ℕ → Bool) → List ℕ → Type 0
Tells f feeds feeds' l = (a b : ℕ) → In a l → In b l → feeds' (f a) (f b) && not (eqb (f a) (f b)) ≡ feeds a b && not (eqb a b)

module _ (f : ℕ → ℕ) where
  -- the first that passes, by a test of the names
  first-told : (p q : ℕ → Bool) (z : ℕ) (l : List ℕ) → ((b : ℕ) → In b l → q (f b) ≡ p b) → first_or (f z) (keep q (map f l)) ≡ f (first_or z (keep p l))
  first-told p q z [] same = refl
  first-told p q z (x ∷ l) same = go (which (p x)) (first-told p q z l (λ b m. same b (omega arith)))
    where
      go : (p x ≡ true) ⊎ (p x ≡ false) → first_or (f z) (keep q (map f l)) ≡ f (first_or z (keep p l))
          → first_or (f z) (keep q (map f (x ∷ l))) ≡ f (first_or z (keep p (x ∷ l)))
      go (inl t) ih = rw (same x (omega (arith, hit_same x)), t)
      go (inr t) ih = rw (same x (omega (arith, hit_same x)), t, ih)

  -- it is the first of its name
  remove-told : (p q : ℕ → Bool) (z d : ℕ) (l : List ℕ) → ((b : ℕ) → In b l → q (f b) ≡ p b) → p d ≡ true → q (f d) ≡ true → d ≡ first_or z (keep p l)
      → remove (f d) (map f l) ≡ map f (remove d l)
  remove-told p q z d [] same pd qd e = refl
  remove-told p q z d (x ∷ l) same pd qd e = go (which (p x)) (remove-told p q z d l (λ b m. same b (omega arith)) pd qd)
    where
      go : (p x ≡ true) ⊎ (p x ≡ false) → (d ≡ first_or z (keep p l) → remove (f d) (map f l) ≡ map f (remove d l))
          → remove (f d) (map f (x ∷ l)) ≡ map f (remove d (x ∷ l))
      go (inl t) ih = let here : d ≡ x = rw t at e in rw (eq-eqb d x here, eq-eqb (f d) (f x) (ap f here))
      go (inr t) ih =
          let qx : q (f x) ≡ false = same x (omega (arith, hit_same x)) ∙ t in
          rw (ne_eqb d x (λ k. apart p d x k pd t), ne_eqb (f d) (f x) (λ k. apart q (f d) (f x) k qd qx), ih (rw t at e))
        where
          apart : (r : ℕ → Bool) (a b : ℕ) → a ≡ b → r a ≡ true → r b ≡ false → ⊥
          apart r a b k s n = let z : ◌≡◌ {A = ℕ} 0 1 = cc in omega arith

  module _ (feeds feeds' : ℕ → ℕ → Bool) where
    fed-told : (l us : List ℕ) → Tells f feeds feeds' l → ((a : ℕ) → In a us → In a l) → (b : ℕ) → In b l → fed_by feeds' (map f us) (f b) ≡ fed_by feeds us b
    fed-told l [] tells inside b mb = refl
    fed-told l (a ∷ us) tells inside b mb =
        rw (tells a b (inside a (omega (arith, hit_same a))) mb, fed-told l us tells (λ x m. inside x (omega arith)) b mb)

    freed : (l : List ℕ) → Tells f feeds feeds' l → (b : ℕ) → In b l → not (fed_by feeds' (map f l) (f b)) ≡ not (fed_by feeds l b)
    freed l tells b m = ap not (fed-told l l tells (λ a k. k) b m)

    next-told : (l : List ℕ) → Tells f feeds feeds' l → 1 ≤ length l → next feeds' (map f l) ≡ f (next feeds l)
    next-told [] tells h = absurd (omega arith)
    next-told (u ∷ us) tells h =
        let l = u ∷ us in
        first-told (λ b. not (fed_by feeds l b)) (λ b. not (fed_by feeds' (map f l) b)) u l (freed l tells)

    taken-told : (l : List ℕ) → Tells f feeds feeds' l → 1 ≤ length l → remove (f (next feeds l)) (map f l) ≡ map f (remove (next feeds l) l)
    taken-told [] tells h = absurd (omega arith)
    taken-told (u ∷ us) tells h = go (free feeds l) refl
      where
        l : List ℕ
        l = u ∷ us

        go : (fs : List ℕ) → free feeds l ≡ fs → remove (f (next feeds l)) (map f l) ≡ map f (remove (next feeds l) l)
        go [] e =
            let first : next feeds l ≡ u = ap (first_or u) e in
            rw (first, eq-eqb u u refl, eq-eqb (f u) (f u) refl)
        go (w ∷ fs) e =
            let first : next feeds l ≡ w = ap (first_or u) e in
            let k : In w (free feeds l) = rw e (omega (arith, hit_same w)) in
            let r = free-from feeds l w k in
            let pw : not (fed_by feeds l w) ≡ true = ap not r.1 in
            subst (λ (x : ℕ). remove (f x) (map f l) ≡ map f (remove x l)) (sym first)
            (remove-told (λ b. not (fed_by feeds l b)) (λ b. not (fed_by feeds' (map f l) b)) u w l (freed l tells) pw (freed l tells w r.0 ∙ pw) (sym first))

    greedy-told : (k : ℕ) (l : List ℕ) → length l ≡ k → Tells f feeds feeds' l → greedy feeds' k (map f l) ≡ map f (greedy feeds k l)
    greedy-told zero l h tells = refl
    greedy-told (suc k) l h tells =
        let d = next feeds l in
        let md : In d l = next-in feeds l (omega arith) in
        let inside : (a : ℕ) → In a (remove d l) → In a l = λ a m. remove-in a d l m in
        rw (next-told l tells (omega arith), taken-told l tells (omega arith))
        (ap (λ (r : List ℕ). f d ∷ r) (greedy-told k (remove d l) (omega (arith, length-remove d l md)) (λ a b ma mb. tells a b (inside a ma) (inside b mb))))

    order-told : (left : List ℕ) → Tells f feeds feeds' left → order feeds' (map f left) ≡ map f (order feeds left)
    unfolding order
    order-told left tells = rw (length-map left f) (greedy-told (length left) left refl tells)

-- THE ORDER of numbered things, by marks that say of places whether what stands there feeds another
module _ (feeds : ℕ → ℕ → Bool) (left : List ℕ) (by_place : ℕ → ℕ → Bool)
    (same : (i j : ℕ) → i < length left → j < length left → by_place i j ≡ not (eqb (get_or left i 0) (get_or left j 0)) && feeds (get_or left i 0) (get_or left j 0)) where
  tells : Tells (λ i. get_or left i 0) by_place feeds (up_from 0 (length left))
  tells a b ma mb = go (ℕ_discrete (get_or left a 0) (get_or left b 0)) (same a b (below left a ma) (below left b mb))
    where
      go : Dec (get_or left a 0 ≡ get_or left b 0) → by_place a b ≡ not (eqb (get_or left a 0) (get_or left b 0)) && feeds (get_or left a 0) (get_or left b 0)
          → feeds (get_or left a 0) (get_or left b 0) && not (eqb (get_or left a 0) (get_or left b 0)) ≡ by_place a b && not (eqb a b)
      go (yes e) s = rw (s, eq-eqb (get_or left a 0) (get_or left b 0) e) (and-false (feeds (get_or left a 0) (get_or left b 0)))
      go (no ne) s = rw (s, ne_eqb (get_or left a 0) (get_or left b 0) ne, ne_eqb a b (λ e. ne (ap (λ (i : ℕ). get_or left i 0) e)))

  pub order-by-places : order feeds left ≡ map (λ i. get_or left i 0) (order by_place (up_from 0 (length left)))
  order-by-places =
      ap (λ (l : List ℕ). order feeds l) (sym (at_places left left 0 (λ i. ap (λ (j : ℕ). get_or left j 0) (omega arith))))
      ∙ order-told (λ i. get_or left i 0) by_place feeds (up_from 0 (length left)) tells
