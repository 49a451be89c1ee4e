-- The list that an array holds, filled from its start, one element at a time. Assumes nothing.
use mathlib.Core.Path.{◌≡◌, ap, ◌∙◌}
use mathlib.Core.List.{List, [], ◌∷◌}
use Prim.Native.Nat.{ℕ, suc, ◌+◌, ◌≤◌, ◌<◌, min}
use native.Mathlib.Omega.{arith}
use native.Mathlib.Numerals.{add-one}
use lib.ListN.{length, get_or, take, drop, length-take, drop_of_length-le}
use lib.Seq.{drop-cons, get_or-take}
use Rattle.config.specs.Sizes.{slots}

module _ {A : Type 0} (xs : List A) (n : ℕ) (e : length xs ≡ slots) where
  pub stored-length : length (take n xs) ≡ min n slots
  stored-length = length-take n xs ∙ ap (λ (m : ℕ). min n m) e

  module _ (i : ℕ) (d : A) (h : i < min n slots) where
    below : i < length (take n xs)
    below = rw stored-length h

    -- element i is the first of those from i on
    pub stored-from : drop i (take n xs) ≡ get_or xs i d ∷ drop (i + 1) (take n xs)
    stored-from =
        rw add-one (drop-cons (take n xs) i d below ∙ ap (λ (x : A). x ∷ drop (suc i) (take n xs)) (get_or-take n xs i d (omega arith)))

  module _ (i : ℕ) (h : min n slots ≤ i) where
    past : length (take n xs) ≤ i
    past = rw stored-length h

    pub stored-end : drop i (take n xs) ≡ []
    stored-end = drop_of_length-le (take n xs) past
