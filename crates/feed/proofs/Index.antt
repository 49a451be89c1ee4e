-- Places in a list. Assumes nothing.
use mathlib.Core.Path.{◌≡◌, refl, sym, ap, subst, ◌∙◌}
use mathlib.Core.Logic.{◌≢◌}
use mathlib.Core.List.{List, [], ◌∷◌}
use Prim.Native.Nat.{ℕ, zero, suc, ◌<◌}
use native.Mathlib.Omega.{arith}
use native.Mathlib.Decide.{ℕ_discrete}
use lib.ListN.{length, get_or}
use borrow.Author.Tests.{eq-eqb, ne_eqb}
use Rattle.feed.specs.Numbers.{In, Distinct, index_of}
use Rattle.feed.proofs.Count.{hit_same, hit_other, in-at}

pub index_same : (e : ℕ) (l : List ℕ) → index_of e (e ∷ l) ≡ 0
index_same e l = rw (eq-eqb e e refl)

pub index-other : (a e : ℕ) (l : List ℕ) → a ≢ e → index_of a (e ∷ l) ≡ suc (index_of a l)
index-other a e l ne = rw (ne_eqb a e ne)

-- what stands before something of the list is of the list
pub index_in : (a d : ℕ) (l : List ℕ) → In d l → index_of a l < index_of d l → In a l
index_in a d [] m h = absurd (omega arith)
index_in a d (e ∷ l) m h = go (ℕ_discrete a e) (ℕ_discrete d e) (index_in a d l)
  where
    go : Dec (a ≡ e) → Dec (d ≡ e) → (In d l → index_of a l < index_of d l → In a l) → In a (e ∷ l)
    go (yes p) q ih = rw p (omega (arith, hit_same e))
    go (no p) (yes q) ih =
        let k : index_of a (e ∷ l) < index_of e (e ∷ l) = subst (λ (x : ℕ). index_of a (e ∷ l) < index_of x (e ∷ l)) q h in
        absurd (omega (arith, index_same e l, k))
    go (no p) (no q) ih = omega (arith, ih (omega (arith, hit_other d e q)) (omega (arith, index-other a e l p, index-other d e l q)))

-- what stands at the place of a is a, and its place is in the list
pub at-index : (a : ℕ) (l : List ℕ) → In a l → (get_or l (index_of a l) 0 ≡ a) × (index_of a l < length l)
at-index a [] h = absurd (omega arith)
at-index a (e ∷ l) h = go (ℕ_discrete a e) (at-index a l)
  where
    go : Dec (a ≡ e) → (In a l → (get_or l (index_of a l) 0 ≡ a) × (index_of a l < length l)) → (get_or (e ∷ l) (index_of a (e ∷ l)) 0 ≡ a) × (index_of a (e ∷ l) < length (e ∷ l))
    go (yes p) ih = rw (eq-eqb a e p) (sym p, omega arith)
    go (no p) ih = let r = ih (omega (arith, hit_other a e p)) in rw (ne_eqb a e p) (r.0, omega arith)

-- the place of what stands at i is i, where nothing stands twice
pub index_at : (l : List ℕ) → Distinct l → (i : ℕ) → i < length l → index_of (get_or l i 0) l ≡ i
index_at [] once i h = absurd (omega arith)
index_at (e ∷ l) once zero h = index_same e l
index_at (e ∷ l) once (suc i) h =
    index-other (get_or l i 0) e l apart ∙ ap suc (index_at l (λ a. omega (arith, once a)) i (omega arith))
  where
    apart : get_or l i 0 ≢ e
    apart p = omega (arith, once e, hit_same e, rw p at (in-at l i (omega arith)))
