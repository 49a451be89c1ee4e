-- How a call judges: its rows in the order in which they are judged, each a number and whether it applies to this call.
-- The first that applies is the answer, and 0, accepted, where none does (document 01, Numbers that a call hands back:
-- "The lowest number that applies is returned, and a number only when its row applies to that call"). Definitions only.
use Rattle.std.specs.Prelude.{◌≡◌, refl, Bool, true, false, cond, ◌&&◌, ℕ, zero, suc, leb, ltb}
use mathlib.Core.List.{List, [], ◌∷◌, ◌++◌, Memᴰ}

pub record Row : Type 0 where
  pub number : ℕ
  pub applies : Bool

infix 68 ◌when◌
-- the row of that number, which applies where the test holds
abbrev pub ◌when◌ : ℕ → Bool → Row
n when t = record { number = n; applies = t }

unfoldable pub judged : List Row → ℕ
judged [] = 0
judged (r ∷ rs) = cond r.applies r.number (judged rs)

-- the code, or the next where it is 0
unfoldable pub first_of : ℕ → ℕ → ℕ
first_of zero next = next
first_of (suc c) next = suc c

-- every number is above 0
abbrev pub numbered : List Row → Bool
numbered [] = true
numbered (r ∷ rs) = ltb 0 r.number && numbered rs

-- the numbers of the rows are n or above, and ascend
abbrev pub ascends_from : ℕ → List Row → Bool
ascends_from n [] = true
ascends_from n (r ∷ rs) = leb n r.number && ascends_from r.number rs

abbrev pub ascends : List Row → Bool
ascends rs = ascends_from 0 rs

-- no row applies
abbrev pub NoneApplies : List Row → Type 0
NoneApplies rs = (r : Row) → Memᴰ r rs → r.applies ≡ false

-- a row of number n applies, and none before it does
pub record First (rs : List Row) (n : ℕ) : Type 0 where
  pub before : List Row
  pub here : Row
  pub after : List Row
  pub splits : rs ≡ before ++ (here ∷ after)
  pub number : here.number ≡ n
  pub applies : here.applies ≡ true
  pub none_before : NoneApplies before

-- both apply: the first; the second alone; none
both-apply : judged (6 when true ∷ 13 when true ∷ []) ≡ 6
unfolding judged
both-apply = refl

second-applies : judged (6 when false ∷ 13 when true ∷ []) ≡ 13
unfolding judged
second-applies = refl

none-applies : judged (6 when false ∷ 13 when false ∷ []) ≡ 0
unfolding judged
none-applies = refl

-- whatever the tests say, these numbers are above 0 and ascend
above_zero : (t u : Bool) → numbered (6 when t ∷ 13 when u ∷ []) ≡ true
above_zero t u = refl

ascending : (t u : Bool) → ascends (6 when t ∷ 13 when u ∷ []) ≡ true
ascending t u = refl
