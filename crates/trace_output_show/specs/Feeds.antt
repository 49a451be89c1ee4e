-- The lines of a text. Definitions only.
use Rattle.std.specs.Prelude.{◌≡◌, ℕ, zero, suc, ◌+◌, cond, List, [], ◌∷◌, length, ◌==◌, slice_index, refl}

-- how many of the first i bytes of a text are line feeds
unfoldable pub feeds_to : List ℕ → ℕ → ℕ
feeds_to s zero = 0
feeds_to s (suc i) = cond (slice_index s i == 10) 1 0 + feeds_to s i

-- how many line feeds a text has: the lines that it ends
unfoldable pub feeds_of : List ℕ → ℕ
feeds_of s = feeds_to s (length s)

-- "a", a line feed, "b", two line feeds
example : feeds_of (97 ∷ 10 ∷ 98 ∷ 10 ∷ 10 ∷ []) ≡ 3
unfolding feeds_of feeds_to
example = refl
