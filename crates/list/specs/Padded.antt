-- A list made as long as an array: what an array holds that is filled from its start. Definitions only.
use Rattle.std.specs.Prelude.{◌≡◌, refl, List, [], ◌∷◌, ◌++◌, ℕ, ◌-◌, length, replicate}

module _ {A : Type 0} where
  unfoldable pub padded : ℕ → A → List A → List A
  padded n z xs = xs ++ replicate (n - length xs) z

two-of-four : padded {A = ℕ} 4 0 (7 ∷ 8 ∷ []) ≡ 7 ∷ 8 ∷ 0 ∷ 0 ∷ []
unfolding padded
two-of-four = refl
