-- Those of a list that pass a test, and the first of a list. Assumes nothing.
use mathlib.Core.Path.{◌≡◌, refl, sym, ap, ◌∙◌}
use mathlib.Core.Logic.{◌≢◌, ◌⊎◌, inl, inr}
use mathlib.Core.Bool.{Bool, true, false, cond}
use mathlib.Core.List.{List, [], ◌∷◌}
use Prim.Native.Nat.{ℕ, ◌≤◌}
use native.Mathlib.Omega.{arith}
use native.Mathlib.Decide.{ℕ_discrete}
use borrow.Author.Tests.{eq-eqb, ne_eqb}
use Rattle.feed.specs.Numbers.{count, In, Ascending, remove, keep, first_or}
use Rattle.feed.proofs.Tests.{which}
use Rattle.feed.proofs.Count.{hit_same, hit_other, in-cases}

pub count-keep : (p : ℕ → Bool) (b : ℕ) (l : List ℕ) → count b (keep p l) ≡ cond (p b) (count b l) 0
count-keep p b [] = either (p b)
  where
    either : (t : Bool) → ◌≡◌ {A = ℕ} 0 (cond t 0 0)
    either true = refl
    either false = refl
count-keep p b (x ∷ l) = go (ℕ_discrete b x) (which (p x)) (which (p b)) (count-keep p b l)
  where
    go : Dec (b ≡ x) → (p x ≡ true) ⊎ (p x ≡ false) → (p b ≡ true) ⊎ (p b ≡ false) → count b (keep p l) ≡ cond (p b) (count b l) 0
        → count b (keep p (x ∷ l)) ≡ cond (p b) (count b (x ∷ l)) 0
    go e (inl s) (inl t) ih = rw (s, ih, t)
    go (yes e) (inl s) (inr t) ih = let z : true ≡ false = sym s ∙ ap p (sym e) ∙ t in cc
    go (no ne) (inl s) (inr t) ih = rw (s, ih, t) (omega (arith, hit_other b x ne))
    go (yes e) (inr s) (inl t) ih = let z : true ≡ false = sym t ∙ ap p e ∙ s in cc
    go (no ne) (inr s) (inl t) ih = rw (s, ih, t) (omega (arith, hit_other b x ne))
    go e (inr s) (inr t) ih = rw (s, ih, t)

module _ (p : ℕ → Bool) (b : ℕ) (l : List ℕ) where
  pub keep-in : In b l → p b ≡ true → In b (keep p l)
  keep-in h t = rw (count-keep p b l, t) h

  pub keep-from : In b (keep p l) → In b l × (p b ≡ true)
  keep-from h = go (which (p b))
    where
      go : (p b ≡ true) ⊎ (p b ≡ false) → In b l × (p b ≡ true)
      go (inl t) = (rw (count-keep p b l, t) at h, t)
      go (inr t) = absurd (omega (arith, rw (count-keep p b l, t) at h))

pub keep-ascending : (p : ℕ → Bool) (l : List ℕ) → Ascending l → Ascending (keep p l)
keep-ascending p [] h = h
keep-ascending p (x ∷ l) h = go (which (p x)) (keep-ascending p l h.1)
  where
    go : (p x ≡ true) ⊎ (p x ≡ false) → Ascending (keep p l) → Ascending (keep p (x ∷ l))
    go (inl t) ih = rw t (λ a k. h.0 a (keep-from p a l k).0, ih)
    go (inr t) ih = rw t ih

pub keep-none : (p : ℕ → Bool) (l : List ℕ) → ((b : ℕ) → In b l → p b ≡ false) → keep p l ≡ []
keep-none p [] h = refl
keep-none p (x ∷ l) h = rw (h x (omega (arith, hit_same x)), keep-none p l (λ b k. h b (omega arith)))

pub keep_all : (p : ℕ → Bool) (l : List ℕ) → ((b : ℕ) → In b l → p b ≡ true) → keep p l ≡ l
keep_all p [] h = refl
keep_all p (x ∷ l) h = rw (h x (omega (arith, hit_same x)), keep_all p l (λ b k. h b (omega arith)))

pub keep_same : (p q : ℕ → Bool) (l : List ℕ) → ((b : ℕ) → In b l → p b ≡ q b) → keep p l ≡ keep q l
keep_same p q [] h = refl
keep_same p q (x ∷ l) h = rw (h x (omega (arith, hit_same x)), keep_same p q l (λ b k. h b (omega arith)))

-- the test that one alone no longer passes
pub keep-remove : (p q : ℕ → Bool) (d : ℕ) (l : List ℕ) → Ascending l → p d ≡ true → q d ≡ false → ((a : ℕ) → a ≢ d → q a ≡ p a)
    → keep q l ≡ remove d (keep p l)
keep-remove p q d [] h t f same = refl
keep-remove p q d (x ∷ l) h t f same = go (ℕ_discrete d x) (which (p x)) (keep-remove p q d l h.1 t f same)
  where
    go : Dec (d ≡ x) → (p x ≡ true) ⊎ (p x ≡ false) → keep q l ≡ remove d (keep p l) → keep q (x ∷ l) ≡ remove d (keep p (x ∷ l))
    go (yes e) s ih =
        let px : p x ≡ true = ap p (sym e) ∙ t in
        let qx : q x ≡ false = ap q (sym e) ∙ f in
        rw (px, qx, eq-eqb d x e) (keep_same q p l (λ a k. same a (λ z. omega (arith, h.0 a k))))
    go (no ne) (inl s) ih = rw (same x (λ z. ne (sym z)), s, ne_eqb d x ne, ih)
    go (no ne) (inr s) ih = rw (same x (λ z. ne (sym z)), s, ih)

-- ---- the first of a list

pub first-in : (z : ℕ) (l : List ℕ) → In (first_or z l) (z ∷ l)
first-in z [] = omega (arith, hit_same z)
first-in z (x ∷ l) = omega (arith, hit_same x)

pub first-there : (z b : ℕ) (l : List ℕ) → In b l → In (first_or z l) l
first-there z b [] h = absurd (omega arith)
first-there z b (x ∷ l) h = omega (arith, hit_same x)

pub first-lowest : (z b : ℕ) (l : List ℕ) → Ascending l → In b l → first_or z l ≤ b
first-lowest z b [] h k = absurd (omega arith)
first-lowest z b (x ∷ l) h k = elim (in-cases b x l k) [ inl e ↦ omega arith | inr m ↦ omega (arith, h.0 b m) ]
