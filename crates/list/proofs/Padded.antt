-- Arrays that are filled from their start. Assumes nothing.
use mathlib.Core.Path.{◌≡◌, refl, sym, ap, ◌∙◌}
use mathlib.Core.List.{List, [], ◌∷◌, ◌++◌}
use Prim.Native.Nat.{ℕ, suc, ◌-◌, ◌≤◌, ◌<◌}
use native.Mathlib.Omega.{arith}
use native.Mathlib.Numerals.{unary_clauses}
use lib.ListN.{length, get_or, set, take, replicate, length-append, length-replicate}
use lib.Seq.{take_at, get_or-take, set-append_seam, append_snoc}
use Rattle.list.specs.Padded.{padded}

module _ {A : Type 0} (n : ℕ) (z : A) where
  -- an array that nothing was put into
  pub padded-none : padded n z [] ≡ replicate n z
  unfolding padded
  padded-none = simp unary_clauses refl

  pub padded-length : (xs : List A) → length xs ≤ n → length (padded n z xs) ≡ n
  unfolding padded
  padded-length xs h = simp (length-append, length-replicate) (omega (arith, h))

  -- its filled part is the list
  pub padded-take : (xs : List A) → take (length xs) (padded n z xs) ≡ xs
  unfolding padded
  padded-take xs = take_at xs (replicate (n - length xs) z) (length xs) refl

  pub padded-at : (xs : List A) (i : ℕ) (d : A) → i < length xs → get_or (padded n z xs) i d ≡ get_or xs i d
  padded-at xs i d h = sym (get_or-take (length xs) (padded n z xs) i d h) ∙ ap (λ (l : List A). get_or l i d) (padded-take xs)

  room : (xs : List A) → length xs < n → n - length xs ≡ suc (n - suc (length xs))
  room xs h = omega (arith, h)

  room-left : (xs : List A) (x : A) → n - suc (length xs) ≡ n - length (xs ++ x ∷ [])
  room-left xs x = simp (length-append) (omega (arith))

  -- one more
  pub padded-push : (xs : List A) (x : A) → length xs < n → set (padded n z xs) (length xs) x ≡ padded n z (xs ++ x ∷ [])
  unfolding padded
  padded-push xs x h =
      ap (λ (m : ℕ). set (xs ++ replicate m z) (length xs) x) (room xs h)
      ∙ set-append_seam xs z (replicate (n - suc (length xs)) z) x
      ∙ sym (append_snoc xs x (replicate (n - suc (length xs)) z))
      ∙ ap (λ (m : ℕ). (xs ++ x ∷ []) ++ replicate m z) (room-left xs x)
