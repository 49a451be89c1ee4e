-- Counting in lists, after a removal and in k, k + 1, .. . Assumes nothing.
use mathlib.Core.Path.{◌≡◌, refl, ap}
use mathlib.Core.Logic.{◌≢◌, ◌⊎◌, inl, inr}
use mathlib.Core.List.{List, [], ◌∷◌}
use Prim.Native.Nat.{ℕ, zero, suc, ◌+◌, ◌≤◌, ◌<◌}
use native.Mathlib.Omega.{arith}
use native.Mathlib.Decide.{ℕ_discrete, dec_lt}
use lib.ListN.{length, get_or}
use borrow.Author.Tests.{eq-eqb, ne_eqb}
use Rattle.feed.specs.Numbers.{hit, count, In, Distinct, Ascending, remove, up_from}

pub hit_same : (a : ℕ) → hit a a ≡ 1
hit_same a = rw (eq-eqb a a refl)

pub hit_other : (a x : ℕ) → a ≢ x → hit a x ≡ 0
hit_other a x h = rw (ne_eqb a x h)

pub in-cases : (a x : ℕ) (xs : List ℕ) → In a (x ∷ xs) → (a ≡ x) ⊎ In a xs
in-cases a x xs h = elim (ℕ_discrete a x) [ yes e ↦ inl e | no ne ↦ inr (omega (arith, hit_other a x ne)) ]

pub in-or-not : (a : ℕ) (l : List ℕ) → In a l ⊎ (count a l ≡ 0)
in-or-not a l = elim (dec_lt 0 (count a l)) [ yes h ↦ inl (omega arith) | no h ↦ inr (omega arith) ]

pub in-at : (l : List ℕ) (k : ℕ) → k < length l → In (get_or l k 0) l
in-at [] k h = omega arith
in-at (x ∷ l) zero h = omega (arith, hit_same x)
in-at (x ∷ l) (suc k) h = omega (arith, in-at l k (omega arith))

pub in-length : (a : ℕ) (l : List ℕ) → In a l → 1 ≤ length l
in-length a [] h = h
in-length a (x ∷ l) h = omega arith

-- ---- a removal

pub count-remove : (d e : ℕ) (us : List ℕ) → In e us → count d us ≡ hit d e + count d (remove e us)
count-remove d e [] h = omega arith
count-remove d e (x ∷ xs) h = go (ℕ_discrete e x) (count-remove d e xs)
  where
    go : Dec (e ≡ x) → (In e xs → count d xs ≡ hit d e + count d (remove e xs)) → hit d x + count d xs ≡ hit d e + count d (remove e (x ∷ xs))
    go (yes p) ih = rw (eq-eqb e x p, p)
    go (no ne) ih = rw (ne_eqb e x ne) (omega (arith, ih (omega (arith, hit_other e x ne))))

pub length-remove : (e : ℕ) (us : List ℕ) → In e us → length us ≡ suc (length (remove e us))
length-remove e [] h = omega arith
length-remove e (x ∷ xs) h = go (ℕ_discrete e x) (length-remove e xs)
  where
    go : Dec (e ≡ x) → (In e xs → length xs ≡ suc (length (remove e xs))) → suc (length xs) ≡ suc (length (remove e (x ∷ xs)))
    go (yes p) ih = rw (eq-eqb e x p)
    go (no ne) ih = rw (ne_eqb e x ne) (omega (arith, ih (omega (arith, hit_other e x ne))))

pub remove-in : (a e : ℕ) (us : List ℕ) → In a (remove e us) → In a us
remove-in a e [] h = h
remove-in a e (x ∷ xs) h = go (ℕ_discrete e x) (remove-in a e xs)
  where
    go : Dec (e ≡ x) → (In a (remove e xs) → In a xs) → In a (x ∷ xs)
    go (yes p) ih = omega (arith, rw (eq-eqb e x p) at h)
    go (no ne) ih = elim (in-cases a x (remove e xs) (rw (ne_eqb e x ne) at h)) [ inl p ↦ rw p (omega (arith, hit_same x)) | inr k ↦ omega (arith, ih k) ]

pub remove-ascending : (e : ℕ) (us : List ℕ) → Ascending us → Ascending (remove e us)
remove-ascending e [] h = h
remove-ascending e (x ∷ xs) h = go (ℕ_discrete e x) (remove-ascending e xs h.1)
  where
    go : Dec (e ≡ x) → Ascending (remove e xs) → Ascending (remove e (x ∷ xs))
    go (yes p) ih = rw (eq-eqb e x p) h.1
    go (no ne) ih = rw (ne_eqb e x ne) (λ a k. h.0 a (remove-in a e xs k), ih)

-- ---- lists that ascend

pub ascending-distinct : (l : List ℕ) → Ascending l → Distinct l
ascending-distinct [] h a = omega arith
ascending-distinct (x ∷ l) h a = go (ℕ_discrete a x) (in-or-not a l) (ascending-distinct l h.1 a)
  where
    go : Dec (a ≡ x) → In a l ⊎ (count a l ≡ 0) → count a l ≤ 1 → count a (x ∷ l) ≤ 1
    go (yes p) (inl k) ih = absurd (omega (arith, h.0 a k))
    go (yes p) (inr k) ih = rw p (omega (arith, hit_same x, rw p at k))
    go (no ne) k ih = omega (arith, hit_other a x ne)

-- ---- k, k + 1, ..

pub length-up_from : (k n : ℕ) → length (up_from k n) ≡ n
length-up_from k zero = refl
length-up_from k (suc n) = ap suc (length-up_from (suc k) n)

pub up_from-bound : (d k n : ℕ) → In d (up_from k n) → (k ≤ d) × (d < k + n)
up_from-bound d k zero h = absurd (omega arith)
up_from-bound d k (suc n) h = elim (in-cases d k (up_from (suc k) n) h) [ inl e ↦ omega arith | inr m ↦ let r = up_from-bound d (suc k) n m in omega arith ]

pub up_from-in : (d k n : ℕ) → k ≤ d → d < k + n → In d (up_from k n)
up_from-in d k zero h l = omega arith
up_from-in d k (suc n) h l = go (ℕ_discrete d k) (up_from-in d (suc k) n)
  where
    go : Dec (d ≡ k) → (suc k ≤ d → d < suc k + n → In d (up_from (suc k) n)) → 1 ≤ hit d k + count d (up_from (suc k) n)
    go (yes p) ih = rw p (omega (arith, hit_same k))
    go (no ne) ih = omega (arith, hit_other d k ne, ih (omega arith) (omega arith))

pub up_from-ascending : (k n : ℕ) → Ascending (up_from k n)
up_from-ascending k zero = tt
up_from-ascending k (suc n) = (λ a h. omega (arith, up_from-bound a (suc k) n h), up_from-ascending (suc k) n)
