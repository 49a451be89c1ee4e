-- What document 01 asks of the order, step by step and without saying how it is found (Plan and route; program.rs
-- 358-369). Definitions only.
use Rattle.std.specs.Prelude.{◌≡◌, Bool, true, false, List, [], ◌∷◌, ℕ, ◌≤◌}
use Rattle.feed.specs.Numbers.{In, remove}
use Rattle.feed.specs.Order.{fed_by}

-- d is the one to take of those left: where one of them is free, d is free and the lowest that is; where none is free,
-- d is the lowest
pub record Taken (feeds : ℕ → ℕ → Bool) (left : List ℕ) (d : ℕ) : Type 0 where
  pub unplaced : In d left
  pub lowest_free : (b : ℕ) → In b left → fed_by feeds left b ≡ false → (fed_by feeds left d ≡ false) × (d ≤ b)
  pub lowest_left : ((b : ℕ) → In b left → fed_by feeds left b ≡ true) → (b : ℕ) → In b left → d ≤ b

-- those left, taken one after the other until none is left
pub data Placing (feeds : ℕ → ℕ → Bool) : List ℕ → List ℕ → Type 0 where
  done : Placing feeds [] []
  take : {d : ℕ} {left os : List ℕ} → Taken feeds left d → Placing feeds (remove d left) os
      → Placing feeds left (d ∷ os)
