-- A list mapped, and two lists joined, by their elements, and what a loop that fills them leaves. Assumes nothing.
use mathlib.Core.Path.{◌≡◌, refl, sym, ap, ◌∙◌}
use mathlib.Core.List.{List, [], ◌∷◌, map}
use Prim.Native.Nat.{ℕ, zero, suc, ◌<◌}
use native.Mathlib.Nat.{le_of_suc-le-suc, not-suc-le-zero}
use native.Mathlib.Omega.{arith}
use lib.ListN.{length, get_or, length-map}
use Rattle.list.specs.Fill.{fill}
use Rattle.list.proofs.Filled.{fill_is}
use Rattle.voice.specs.Joined.{joined}

module _ {A B : Type 0} (f : A → B) where
  pub map_at : (l : List A) (k : ℕ) (a : A) (d : B) → k < length l → get_or (map f l) k d ≡ f (get_or l k a)
  map_at [] k a d h = absurd (not-suc-le-zero h)
  map_at (x ∷ l) zero a d h = refl
  map_at (x ∷ l) (suc k) a d h = map_at l k a d (le_of_suc-le-suc h)

module _ {A B C : Type 0} (f : A → B → C) where
  pub joined_at : (xs : List A) (ys : List B) (k : ℕ) (a : A) (b : B) (d : C) → k < length xs → k < length ys
      → get_or (joined f xs ys) k d ≡ f (get_or xs k a) (get_or ys k b)
  unfolding joined
  joined_at [] ys k a b d h i = absurd (not-suc-le-zero h)
  joined_at (x ∷ xs) [] k a b d h i = absurd (not-suc-le-zero i)
  joined_at (x ∷ xs) (y ∷ ys) zero a b d h i = refl
  joined_at (x ∷ xs) (y ∷ ys) (suc k) a b d h i = joined_at xs ys k a b d (le_of_suc-le-suc h) (le_of_suc-le-suc i)

  pub joined_length : (xs : List A) (ys : List B) → length xs ≡ length ys → length (joined f xs ys) ≡ length xs
  unfolding joined
  joined_length [] ys e = refl
  joined_length (x ∷ xs) [] e = absurd (omega arith)
  joined_length (x ∷ xs) (y ∷ ys) e = ap suc (joined_length xs ys (omega arith))

-- each element replaced by its image
pub fill-map : {A : Type 0} (f : A → A) (l : List A) (a : A) (n : ℕ) → length l ≡ n → fill l (λ k. f (get_or l k a)) n ≡ map f l
fill-map f l a n e =
    ap (fill l (λ k. f (get_or l k a))) (sym e) ∙ fill_is l (map f l) (λ k. f (get_or l k a)) (length-map l f) (λ k d h. sym (map_at f l k a d h))

-- each element of the one list, or of the other, replaced by the two joined
module _ {A B : Type 0} (xs : List A) (ys : List B) (a : A) (b : B) (n : ℕ) (long : length xs ≡ n) (as_long : length ys ≡ n) where
  pub fill-first : (f : A → B → A) → fill xs (λ k. f (get_or xs k a) (get_or ys k b)) n ≡ joined f xs ys
  fill-first f =
      ap (fill xs (λ k. f (get_or xs k a) (get_or ys k b))) (sym long)
      ∙ fill_is xs (joined f xs ys) (λ k. f (get_or xs k a) (get_or ys k b)) (joined_length f xs ys (omega arith)) (λ k d h.
      sym (joined_at f xs ys k a b d h (omega arith)))

  pub fill-second : (f : A → B → B) → fill ys (λ k. f (get_or xs k a) (get_or ys k b)) n ≡ joined f xs ys
  fill-second f =
      ap (fill ys (λ k. f (get_or xs k a) (get_or ys k b))) (sym as_long)
      ∙ fill_is ys (joined f xs ys) (λ k. f (get_or xs k a) (get_or ys k b)) (joined_length f xs ys (omega arith) ∙ omega arith) (λ k d h.
      sym (joined_at f xs ys k a b d (omega arith) h))
