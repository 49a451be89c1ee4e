-- Lists by their elements. Assumes nothing.
use mathlib.Core.Path.{◌≡◌, refl, sym, ap, ◌∙◌}
use mathlib.Core.List.{List, [], ◌∷◌, ◌++◌, map}
use Prim.Native.Nat.{ℕ, zero, suc, ◌+◌, ◌≤◌, ◌<◌}
use native.Mathlib.Nat.{zero-add, suc-add, suc-ne-zero, le_of_suc-le-suc, not-suc-le-zero}
use lib.ListN.{length, get_or, set, length-map}
use lib.Seq.{ext_get_or}

module _ {A : Type 0} where
  -- inside the list the default does not matter
  pub get_or-inside : (l : List A) (i : ℕ) (d e : A) → i < length l → get_or l i d ≡ get_or l i e
  get_or-inside [] i d e h = absurd (not-suc-le-zero h)
  get_or-inside (x ∷ xs) zero d e h = refl
  get_or-inside (x ∷ xs) (suc i) d e h = get_or-inside xs i d e (le_of_suc-le-suc h)

  -- past the list it is what is read
  pub get_or_past : (l : List A) (i : ℕ) (d : A) → length l ≤ i → get_or l i d ≡ d
  get_or_past [] i d h = refl
  get_or_past (x ∷ xs) zero d h = absurd (not-suc-le-zero h)
  get_or_past (x ∷ xs) (suc i) d h = get_or_past xs i d (le_of_suc-le-suc h)

  -- what is known of an array is known of its elements' images
  pub length-mapped : {B : Type 0} (f : A → B) (l : List A) (n : ℕ) → length (map f l) ≡ n → length l ≡ n
  length-mapped f l n e = sym (length-map l f) ∙ e

  -- two lists of one length with the same elements are equal
  pub ext : (l₁ l₂ : List A) → length l₁ ≡ length l₂ → ((i : ℕ) (d : A) → i < length l₁ → get_or l₁ i d ≡ get_or l₂ i d) → l₁ ≡ l₂
  ext [] [] e h = refl
  ext [] (y ∷ ys) e h = absurd (suc-ne-zero (length ys) (sym e))
  ext (x ∷ xs) l₂ e h = ext_get_or x (x ∷ xs) l₂ e (λ i k. h i x k)

  -- a store past the first list is one into the second
  pub set-append-add : (xs ys : List A) (i : ℕ) (a : A) → set (xs ++ ys) (length xs + i) a ≡ xs ++ set ys i a
  set-append-add [] ys i a = ap (λ (k : ℕ). set ys k a) (zero-add i)
  set-append-add (x ∷ xs) ys i a =
      ap (λ (k : ℕ). set (x ∷ (xs ++ ys)) k a) (suc-add (length xs) i) ∙ ap (λ (r : List A). x ∷ r) (set-append-add xs ys i a)
