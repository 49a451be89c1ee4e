-- The destinations in use: at most one a candidate, ascending, each once, and exactly those that are registered and that a candidate names.
use mathlib.Core.Path.{◌≡◌, refl}
use mathlib.Core.Logic.{◌⊎◌, inl, inr, ◌↔◌}
use mathlib.Core.Bool.{Bool, true, false, ◌||◌}
use mathlib.Core.List.Memᴰ
use mathlib.Core.List.{List, [], ◌∷◌, Memᴰ}
use Prim.Native.Nat.{ℕ, ◌+◌, ◌≤◌, ◌<◌}
use native.Mathlib.Omega.{arith}
use lib.Dec.{eqb}
use borrow.Author.Tests.{eqb-true, eqb-false}
use lib.ListN.{length}
use Rattle.feed.specs.Numbers.{count, In, Distinct, Ascending, keep, up_from}
use Rattle.feed.proofs.Tests.{which, or-true-cases}
use Rattle.feed.proofs.Count.{ascending-distinct, up_from-ascending, up_from-bound, up_from-in}
use Rattle.feed.proofs.Keep.{keep-in, keep-from, keep-none, keep-ascending}
use Rattle.state.specs.declared.Candidate.{Candidate}
use Rattle.state.specs.declared.Wiring.{Wiring}
use Rattle.state.specs.Registry.{dest_count}
use Rattle.model.specs.Wiring.{candidates}
use Rattle.model.specs.Feeds.{named, in_use}

-- ---- how many

-- of two tests
keep-or : (p q : ℕ → Bool) (l : List ℕ) → length (keep (λ x. p x || q x) l) ≤ length (keep p l) + length (keep q l)
keep-or p q [] = omega arith
keep-or p q (x ∷ l) = go (which (p x)) (which (q x)) (keep-or p q l)
  where
    go : (p x ≡ true) ⊎ (p x ≡ false) → (q x ≡ true) ⊎ (q x ≡ false) → length (keep (λ x. p x || q x) l) ≤ length (keep p l) + length (keep q l)
        → length (keep (λ x. p x || q x) (x ∷ l)) ≤ length (keep p (x ∷ l)) + length (keep q (x ∷ l))
    go (inl s) (inl t) ih = rw (s, t) (omega arith)
    go (inl s) (inr t) ih = rw (s, t) (omega arith)
    go (inr s) (inl t) ih = rw (s, t) (omega arith)
    go (inr s) (inr t) ih = rw (s, t) (omega arith)

-- those that are x: as many as x stands in the list
keep_one : (x : ℕ) (l : List ℕ) → length (keep (eqb x) l) ≡ count x l
keep_one x [] = refl
keep_one x (y ∷ l) = go (which (eqb x y)) (keep_one x l)
  where
    go : (eqb x y ≡ true) ⊎ (eqb x y ≡ false) → length (keep (eqb x) l) ≡ count x l → length (keep (eqb x) (y ∷ l)) ≡ count x (y ∷ l)
    go (inl t) ih = rw t (omega arith)
    go (inr t) ih = rw t (omega arith)

-- of a list in which nothing stands twice the candidates name at most one each
pub named-most : (cs : List Candidate) (l : List ℕ) → Distinct l → length (keep (named cs) l) ≤ length cs
named-most [] l h = rw (keep-none (named []) l (λ b k. refl)) (omega arith)
named-most (c ∷ cs) l h = omega (arith, keep-or (eqb c.dest) (named cs) l, keep_one c.dest l, h c.dest, named-most cs l h)

-- ---- which

-- a candidate of the list that names d
pub record Naming (cs : List Candidate) (d : ℕ) : Type 0 where
  pub by : Candidate
  pub stands : Memᴰ by cs
  pub names : by.dest ≡ d

pub named_some : (cs : List Candidate) (d : ℕ) → named cs d ≡ true → Naming cs d
named_some [] d h = absurd (let z : ◌≡◌ {A = ℕ} 0 1 = cc in omega arith)
named_some (c ∷ cs) d h = go (or-true-cases (eqb c.dest d) (named cs d) h) (named_some cs d)
  where
    go : (eqb c.dest d ≡ true) ⊎ (named cs d ≡ true) → (named cs d ≡ true → Naming cs d) → Naming (c ∷ cs) d
    go (inl t) ih = record { by = c; stands = Memᴰ.head refl; names = eqb-true c.dest d t }
    go (inr t) ih = let r = ih t in record { by = r.by; stands = Memᴰ.tail r.stands; names = r.names }

pub some-named : (cs : List Candidate) (d : ℕ) (c : Candidate) → Memᴰ c cs → c.dest ≡ d → named cs d ≡ true
some-named [] d c m e = absurd (Memᴰ.not-nil m)
some-named (x ∷ cs) d c m e = go (which (eqb x.dest d)) (Memᴰ.cases_cons m) (some-named cs d c)
  where
    go : (eqb x.dest d ≡ true) ⊎ (eqb x.dest d ≡ false) → (c ≡ x) ⊎ Memᴰ c cs → (Memᴰ c cs → c.dest ≡ d → named cs d ≡ true)
        → named (x ∷ cs) d ≡ true
    go (inl t) k ih = rw t
    go (inr t) (inl p) ih = absurd (eqb-false x.dest d t (rw p at e))
    go (inr t) (inr k) ih = rw t (ih k e)

module _ (w : Wiring) where
  -- each is below those after it
  pub in-use-ascending : Ascending (in_use w)
  unfolding in_use
  in-use-ascending = keep-ascending (named (candidates w)) (up_from 0 (dest_count w.dests)) (up_from-ascending 0 (dest_count w.dests))

  -- nothing stands twice
  pub in-use-distinct : Distinct (in_use w)
  in-use-distinct = ascending-distinct (in_use w) in-use-ascending

  -- not more than there are candidates
  pub in-use-most : length (in_use w) ≤ length (candidates w)
  unfolding in_use
  in-use-most =
      named-most (candidates w) (up_from 0 (dest_count w.dests))
      (ascending-distinct (up_from 0 (dest_count w.dests)) (up_from-ascending 0 (dest_count w.dests)))

  -- THE DESTINATIONS IN USE: registered, and named by a candidate
  pub in-use-means : (d : ℕ) → In d (in_use w) ↔ ((d < dest_count w.dests) × Naming (candidates w) d)
  unfolding in_use
  in-use-means d = (there, back)
    where
      n : ℕ
      n = dest_count w.dests

      there : In d (in_use w) → (d < n) × Naming (candidates w) d
      there h =
          let r = keep-from (named (candidates w)) d (up_from 0 n) h in
          (omega (arith, up_from-bound d 0 n r.0), named_some (candidates w) d r.1)

      back : (d < n) × Naming (candidates w) d → In d (in_use w)
      back h =
          keep-in (named (candidates w)) d (up_from 0 n) (up_from-in d 0 n (omega arith) (omega arith))
          (some-named (candidates w) d h.1.by h.1.stands h.1.names)
