-- Chains of feeds that return: what demand 3 bars (document 01, The model). Definitions only.
use Rattle.std.specs.Prelude.{◌≡◌, Bool, true, List, [], ◌∷◌, ℕ}
use Rattle.feed.specs.Numbers.{In, Distinct}

-- a feeds the first of the list, each of the list the next, and the last of it e; a feeds e where the list is empty
abbrev pub Along : (ℕ → ℕ → Bool) → ℕ → List ℕ → ℕ → Type 0
Along feeds a [] e = feeds a e ≡ true
Along feeds a (b ∷ l) e = (feeds a b ≡ true) × Along feeds b l e

-- two or more distinct ones of the things, each of which feeds the next, and the last the first; one that feeds itself
-- makes no chain
pub record Chain (feeds : ℕ → ℕ → Bool) (things : List ℕ) : Type 0 where
  pub first : ℕ
  pub second : ℕ
  pub others : List ℕ
  pub distinct : Distinct (first ∷ second ∷ others)
  pub within : (a : ℕ) → In a (first ∷ second ∷ others) → In a things
  pub returns : Along feeds first (second ∷ others) first

-- no chain of feeds returns among the things
abbrev pub Acyclic : (ℕ → ℕ → Bool) → List ℕ → Type 0
Acyclic feeds things = Chain feeds things → ⊥

-- among the things, what feeds is counted
abbrev pub Counts : (ℕ → ℕ → Bool) → (ℕ → ℕ → Bool) → List ℕ → Type 0
Counts counted feeds things = (a b : ℕ) → In a things → In b things → feeds a b ≡ true → counted a b ≡ true
