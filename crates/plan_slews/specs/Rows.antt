-- A row of numbers in an array, by its first lanes. Definitions only.
use Rattle.std.specs.Prelude.{◌≡◌, List, ℕ, ◌<◌, Float}
use Rattle.model.specs.Counts.{at}

-- the first n lanes of r are g's
abbrev pub IsRow : ℕ → (ℕ → Float) → List Float → Type 0
IsRow n g r = (l : ℕ) → l < n → at r l ≡ g l
