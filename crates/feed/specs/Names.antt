-- Things by other names. Definitions only.
use Rattle.std.specs.Prelude.{◌≡◌, Bool, List, ℕ}
use Rattle.feed.specs.Numbers.{In}

-- f keeps the things of the list apart
abbrev pub Apart : (ℕ → ℕ) → List ℕ → Type 0
Apart f l = (a b : ℕ) → In a l → In b l → f a ≡ f b → a ≡ b

-- by the names that f gives the things of the list, `feeds'` says of them what `feeds` says
abbrev pub Renames : (ℕ → ℕ) → (ℕ → ℕ → Bool) → (ℕ → ℕ → Bool) → List ℕ → Type 0
Renames f feeds feeds' l = (a b : ℕ) → In a l → In b l → feeds' (f a) (f b) ≡ feeds a b
