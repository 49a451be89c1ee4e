-- Two lists joined, element by element. Definitions only.
use Rattle.std.specs.Prelude.{◌≡◌, refl, List, [], ◌∷◌, ℕ, ◌+◌}

module _ {A B C : Type 0} where
  -- as long as the shorter of the two
  unfoldable pub joined : (A → B → C) → List A → List B → List C
  joined f [] ys = []
  joined f (x ∷ xs) [] = []
  joined f (x ∷ xs) (y ∷ ys) = f x y ∷ joined f xs ys

sums : joined (λ (x y : ℕ). x + y) (1 ∷ 2 ∷ 3 ∷ []) (10 ∷ 20 ∷ 30 ∷ []) ≡ 11 ∷ 22 ∷ 33 ∷ []
unfolding joined
sums = refl
