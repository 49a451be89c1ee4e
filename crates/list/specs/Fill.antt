-- A list whose elements below i are given by a function of the index, the others as they were: what a loop that stores
-- one element a turn leaves. Definitions only.
use Rattle.std.specs.Prelude.{◌≡◌, refl, List, [], ◌∷◌, ℕ, zero, suc, ◌+◌, set}

module _ {A : Type 0} where
  unfoldable pub fill : List A → (ℕ → A) → ℕ → List A
  fill l f zero = l
  fill l f (suc i) = set (fill l f i) i (f i)

-- of 7 8 9 the first two are given as 10 and 11
filled-two : fill (7 ∷ 8 ∷ 9 ∷ []) (λ k. 10 + k) 2 ≡ 10 ∷ 11 ∷ 9 ∷ []
unfolding fill
filled-two = refl
