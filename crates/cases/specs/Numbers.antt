-- The number that an input is, byte by byte: decimal digits, at least one, then at most one line feed, then nothing.
-- Definitions, and what some inputs come to.
use Rattle.std.specs.Prelude.{◌≡◌, refl, cond, List, [], ◌∷◌, ◌++◌, ℕ, ◌+◌, ◌-◌, ◌*◌, ltb, eqb, Option, None, Some}
use Rattle.cases.specs.declared.digits.Seen.{Seen}

-- a number with one digit more; from 100 on it stays, since no case has such a number
unfoldable pub grown : ℕ → ℕ → ℕ
grown n d = cond (ltb 99 n) n (n * 10 + d)

-- '0' to '9' is a digit more, any other byte makes the input none
unfoldable pub with_digit : ℕ → ℕ → Seen
with_digit n b = cond (ltb b 48) Seen.Other (cond (ltb 57 b) Seen.Other (Seen.Digits (grown n (b - 48))))

-- a line feed ends the number
unfoldable pub after_digits : ℕ → ℕ → Seen
after_digits n b = cond (eqb b 10) (Seen.Ended n) (with_digit n b)

unfoldable pub after : Seen → ℕ → Seen
after Seen.Nothing b = with_digit 0 b
after (Seen.Digits n) b = after_digits n b
after (Seen.Ended n) b = Seen.Other
after Seen.Other b = Seen.Other

unfoldable pub after_all : Seen → List ℕ → Seen
after_all s [] = s
after_all s (b ∷ w) = after_all (after s b) w

-- none where the input is no number
unfoldable pub case_of : Seen → Option ℕ
case_of Seen.Nothing = None
case_of (Seen.Digits n) = Some n
case_of (Seen.Ended n) = Some n
case_of Seen.Other = None

-- into which pieces an input is cut changes nothing
pub pieces : (s : Seen) (a b : List ℕ) → after_all (after_all s a) b ≡ after_all s (a ++ b)
unfolding after_all
pieces s [] b = refl
pieces s (x ∷ a) b = pieces (after s x) a b

number_of : List ℕ → Option ℕ
number_of w = case_of (after_all Seen.Nothing w)

-- "5", "05", "10", and "5" with a line feed
taken : (number_of (53 ∷ []) ≡ Some 5) × (number_of (48 ∷ 53 ∷ []) ≡ Some 5) × (number_of (49 ∷ 48 ∷ []) ≡ Some 10)
    × (number_of (53 ∷ 10 ∷ []) ≡ Some 5)
unfolding number_of case_of after_all after after_digits with_digit grown
taken = (refl, refl, refl, refl)

-- the empty input, " 5", "5x", "+5", "5" with two line feeds, and a line feed alone
passed_over : (number_of [] ≡ None) × (number_of (32 ∷ 53 ∷ []) ≡ None) × (number_of (53 ∷ 120 ∷ []) ≡ None)
    × (number_of (43 ∷ 53 ∷ []) ≡ None) × (number_of (53 ∷ 10 ∷ 10 ∷ []) ≡ None) × (number_of (10 ∷ []) ≡ None)
unfolding number_of case_of after_all after after_digits with_digit grown
passed_over = (refl, refl, refl, refl, refl, refl)
