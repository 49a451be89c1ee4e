-- What a word of a session stands for. Definitions only.
use Rattle.std.specs.Prelude.{◌≡◌, refl, Bool, true, false, cond, ◌&&◌, List, [], ◌∷◌, ℕ, ◌+◌, ◌-◌, ◌*◌, ◌%◌, ◌^◌, ltb, eqb, length, Float, Option, Some, None}
use Rattle.std.specs.Result.{result_ok}
use Rattle.std.specs.Float.{binary32}
use Rattle.std.specs.Float.Ieee.{of_bits}
use Rattle.decimal.specs.Decimal as Decimal
use Rattle.hex_words.specs.Hex.{hex_at, digit_of}

-- '0' to '9', 'A' to 'F', 'a' to 'f'
unfoldable pub is_hex : ℕ → Bool
is_hex b =
    cond (ltb b 48) false
    (cond (ltb b 58) true
    (cond (ltb b 65) false
    (cond (ltb b 71) true
    (cond (ltb b 97) false
    (ltb b 103)))))

unfoldable pub all_hex : List ℕ → Bool
all_hex [] = true
all_hex (b ∷ w) = is_hex b && all_hex w

-- a decimal (crates/decimal/specs/Decimal.antt)
abbrev pub decimal_word : List ℕ → Option Float
decimal_word w = result_ok (Decimal.decimal_of w)

-- a number: the 8 hexadecimal digits of its bits, or a decimal (docs/SESSIONS.md, How a line reads); a word that is
-- both is read as hexadecimal, and any other word is none
unfoldable pub float_of : List ℕ → Option Float
float_of w =
    cond (eqb (length w) 8 && all_hex w) (Some (of_bits binary32 (hex_at w 0 8 % 2 ^ 32))) (decimal_word w)

-- "3F80000g" is no number, and neither is "3F8"
no_digits : (float_of (51 ∷ 70 ∷ 56 ∷ 48 ∷ 48 ∷ 48 ∷ 48 ∷ 103 ∷ []) ≡ None)
    × (float_of (51 ∷ 70 ∷ 56 ∷ []) ≡ None)
unfolding float_of all_hex is_hex Decimal.decimal_of Decimal.is_decimal Decimal.is_power Decimal.has_point
    Decimal.mark Decimal.rest Decimal.past Decimal.run Decimal.is_digit Decimal.lead Decimal.unsigned Decimal.is_sign
    Decimal.after_point Decimal.power
no_digits = (refl, refl)

-- "3F800000" is 1
one : float_of (51 ∷ 70 ∷ 56 ∷ 48 ∷ 48 ∷ 48 ∷ 48 ∷ 48 ∷ []) ≡ Some (of_bits binary32 0x3f800000)
unfolding float_of all_hex is_hex hex_at digit_of
one = refl

-- whether two words have the same bytes
unfoldable pub same_bytes : List ℕ → List ℕ → Bool
same_bytes [] [] = true
same_bytes [] (y ∷ b) = false
same_bytes (x ∷ a) [] = false
same_bytes (x ∷ a) (y ∷ b) = eqb x y && same_bytes a b

-- '0' to '9'; 10 for any other byte
unfoldable pub decimal_of : ℕ → ℕ
decimal_of b = cond (ltb b 48) 10 (cond (ltb 57 b) 10 (b - 48))

-- the digits of a word after those that stand for v, as long as the number is below 2^64
unfoldable pub digits_after : ℕ → List ℕ → Option ℕ
digits_after v [] = Some v
digits_after v (b ∷ w) =
    cond (ltb (decimal_of b) 10)
    (cond (ltb (v * 10 + decimal_of b) (2 ^ 64)) (digits_after (v * 10 + decimal_of b) w) None)
    None

-- a whole number: decimal digits, at least one, of a number below 2^64 (oracle/README.md, Session format); any other
-- word is none
unfoldable pub whole_of : List ℕ → Option ℕ
whole_of w = cond (eqb (length w) 0) None (digits_after 0 w)

-- "407"; "4-7"; "18446744073709551615" and one more
wholes : (whole_of (52 ∷ 48 ∷ 55 ∷ []) ≡ Some 407)
    × (whole_of (52 ∷ 45 ∷ 55 ∷ []) ≡ None)
    × (digits_after 1844674407370955161 (53 ∷ []) ≡ Some 18446744073709551615)
    × (digits_after 1844674407370955161 (54 ∷ []) ≡ None)
unfolding whole_of digits_after decimal_of
wholes = (refl, refl, refl, refl)

-- a number that is at most `most`
abbrev pub at_most : ℕ → Option ℕ → Option ℕ
at_most most None = None
at_most most (Some n) = cond (ltb most n) None (Some n)

-- a whole number that is at most `most`
unfoldable pub whole_to : ℕ → List ℕ → Option ℕ
whole_to most w = at_most most (whole_of w)
