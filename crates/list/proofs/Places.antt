-- The place of the first of a list that passes a test, as a search gives it. Assumes nothing.
use mathlib.Core.Path.{◌≡◌, refl, sym, ◌∙◌}
use mathlib.Core.Bool.{Bool, true, false, cond, not}
use mathlib.Core.List.{List, [], ◌∷◌}
use Prim.Native.Nat.{ℕ, ◌+◌}
use native.Mathlib.Omega.{arith}
use lib.Dec.{ltb}
use lib.ListN.{length}
use borrow.Author.Tests.{ltb-false}
use Rattle.std.specs.Prelude.{Option, Some, None, unwrap_or}
use Rattle.std.specs.List.{position_or_len}
use Rattle.std.proofs.lemmas.List.Sums.{prefix_len-le-length}
use Rattle.std.proofs.lemmas.List.Recursion.{is_position_or_len}

-- what a search gives, or n where it gives nothing
found_or : (b : Bool) (i n : ℕ) → (b ≡ false → i ≡ n) → unwrap_or (cond b (Some i) None) n ≡ i
found_or true i n h = refl
found_or false i n h = sym (h refl)

module _ {A : Type 0} (p : A → Bool) (xs : List A) where
  -- the place of the first that passes, or the length
  pub place_found : (n : ℕ) (r : Option ℕ) → length xs ≡ n
      → r ≡ cond (ltb (position_or_len p xs) (length xs)) (Some (position_or_len p xs)) None
      → unwrap_or r n ≡ position_or_len p xs
  place_found n r e h =
      rw h (found_or (ltb (position_or_len p xs) (length xs)) (position_or_len p xs) n
      (λ f. omega (arith, prefix_len-le-length (λ x. not (p x)) xs, ltb-false (position_or_len p xs) (length xs) f)))

  -- the same of a function that finds that place by recursion
  pub place_is : (F : List A → ℕ) → F [] ≡ 0 → ((x : A) (l : List A) → F (x ∷ l) ≡ cond (p x) 0 (1 + F l))
      → (n : ℕ) (r : Option ℕ) → length xs ≡ n
      → r ≡ cond (ltb (position_or_len p xs) (length xs)) (Some (position_or_len p xs)) None
      → unwrap_or r n ≡ F xs
  place_is F none more n r e h = place_found n r e h ∙ sym (is_position_or_len F p none more xs)
