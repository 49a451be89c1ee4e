-- A part of a list: what stands from a up to e, and the list with that part replaced. Definitions only.
use Rattle.std.specs.Prelude.{◌≡◌, refl, List, [], ◌∷◌, ◌++◌, ℕ, ◌-◌, take, drop}

module _ {A : Type 0} where
  unfoldable pub part : List A → ℕ → ℕ → List A
  part m a e = take (e - a) (drop a m)

  unfoldable pub on_part : List A → ℕ → ℕ → List A → List A
  on_part m a e ys = take a m ++ (ys ++ drop (e - a) (drop a m))

second-and-third : part {A = ℕ} (6 ∷ 7 ∷ 8 ∷ 9 ∷ []) 1 3 ≡ 7 ∷ 8 ∷ []
unfolding part
second-and-third = refl

on-second-and-third : on_part {A = ℕ} (6 ∷ 7 ∷ 8 ∷ 9 ∷ []) 1 3 (1 ∷ 2 ∷ []) ≡ 6 ∷ 1 ∷ 2 ∷ 9 ∷ []
unfolding on_part
on-second-and-third = refl
