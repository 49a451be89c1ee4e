-- Decimals by example, computed.
use Rattle.std.specs.Prelude.{◌≡◌, refl, true, false, [], ◌∷◌, pos, negsuc}
use Rattle.std.specs.Float.{fin}
use Rattle.std.specs.Float.Ieee.{round}
use Rattle.decimal.specs.Decimal.{lead, is_digit, run, past, number, is_sign, is_minus, unsigned, rest, has_point}
use Rattle.decimal.specs.Decimal.{after_point, mark, power, digits, exponent, is_power, is_decimal, given, beyond}
use Rattle.decimal.specs.Decimal.{none, times, over, scaled, valued, decimal_of}

-- 0.25, 48000.0, .5, 5., +1.5E+2, -1e-3, 0.1, 0.3
values :
    (decimal_of (48 ∷ 46 ∷ 50 ∷ 53 ∷ []) ≡ given (fin false 1 (negsuc 1)))
    × (decimal_of (52 ∷ 56 ∷ 48 ∷ 48 ∷ 48 ∷ 46 ∷ 48 ∷ []) ≡ given (fin false 375 (pos 7)))
    × (decimal_of (46 ∷ 53 ∷ []) ≡ given (fin false 1 (negsuc 0)))
    × (decimal_of (53 ∷ 46 ∷ []) ≡ given (fin false 5 (pos 0)))
    × (decimal_of (43 ∷ 49 ∷ 46 ∷ 53 ∷ 69 ∷ 43 ∷ 50 ∷ []) ≡ given (fin false 75 (pos 1)))
    × (decimal_of (45 ∷ 49 ∷ 101 ∷ 45 ∷ 51 ∷ []) ≡ given (fin true 8589935 (negsuc 32)))
    × (decimal_of (48 ∷ 46 ∷ 49 ∷ []) ≡ given (fin false 13421773 (negsuc 26)))
    × (decimal_of (48 ∷ 46 ∷ 51 ∷ []) ≡ given (fin false 5033165 (negsuc 23)))
unfolding lead is_digit run past number is_sign is_minus unsigned rest has_point after_point mark power digits exponent
    is_power is_decimal times over scaled valued decimal_of round
values = (refl, refl, refl, refl, refl, refl, refl, refl)

-- 16777217.0, 16777219.0, 8388608.5, 8388609.5: each a tie, to the even one
ties :
    (decimal_of (49 ∷ 54 ∷ 55 ∷ 55 ∷ 55 ∷ 50 ∷ 49 ∷ 55 ∷ 46 ∷ 48 ∷ []) ≡ given (fin false 1 (pos 24)))
    × (decimal_of (49 ∷ 54 ∷ 55 ∷ 55 ∷ 55 ∷ 50 ∷ 49 ∷ 57 ∷ 46 ∷ 48 ∷ []) ≡ given (fin false 4194305 (pos 2)))
    × (decimal_of (56 ∷ 51 ∷ 56 ∷ 56 ∷ 54 ∷ 48 ∷ 56 ∷ 46 ∷ 53 ∷ []) ≡ given (fin false 1 (pos 23)))
    × (decimal_of (56 ∷ 51 ∷ 56 ∷ 56 ∷ 54 ∷ 48 ∷ 57 ∷ 46 ∷ 53 ∷ []) ≡ given (fin false 4194305 (pos 1)))
unfolding lead is_digit run past number is_sign is_minus unsigned rest has_point after_point mark power digits exponent
    is_power is_decimal times over scaled valued decimal_of round
ties = (refl, refl, refl, refl)

-- 1e-10, 999999999e10, 0.30000000000000004, -0e5
far :
    (decimal_of (49 ∷ 101 ∷ 45 ∷ 49 ∷ 48 ∷ []) ≡ given (fin false 14411519 (negsuc 56)))
    × (decimal_of (57 ∷ 57 ∷ 57 ∷ 57 ∷ 57 ∷ 57 ∷ 57 ∷ 57 ∷ 57 ∷ 101 ∷ 49 ∷ 48 ∷ [])
    ≡ given (fin false 9094947 (pos 40)))
    × (decimal_of (48 ∷ 46 ∷ 51 ∷ 48 ∷ 48 ∷ 48 ∷ 48 ∷ 48 ∷ 48 ∷ 48 ∷ 48 ∷ 48 ∷ 48 ∷ 48 ∷ 48 ∷ 48 ∷ 48 ∷ 48 ∷ 52 ∷ [])
    ≡ given (fin false 5033165 (negsuc 23)))
    × (decimal_of (45 ∷ 48 ∷ 101 ∷ 53 ∷ []) ≡ given (fin true 0 (pos 0)))
unfolding lead is_digit run past number is_sign is_minus unsigned rest has_point after_point mark power digits exponent
    is_power is_decimal times over scaled valued decimal_of round
far = (refl, refl, refl, refl)

-- 1e20, 1e-18, 1234567890123456789., 1e1000: decimals, but not read
outside :
    (decimal_of (49 ∷ 101 ∷ 50 ∷ 48 ∷ []) ≡ beyond)
    × (decimal_of (49 ∷ 101 ∷ 45 ∷ 49 ∷ 56 ∷ []) ≡ beyond)
    × (decimal_of (49 ∷ 50 ∷ 51 ∷ 52 ∷ 53 ∷ 54 ∷ 55 ∷ 56 ∷ 57 ∷ 48 ∷ 49 ∷ 50 ∷ 51 ∷ 52 ∷ 53 ∷ 54 ∷ 55 ∷ 56 ∷ 57 ∷ 46
    ∷ []) ≡ beyond)
    × (decimal_of (49 ∷ 101 ∷ 49 ∷ 48 ∷ 48 ∷ 48 ∷ []) ≡ beyond)
unfolding lead is_digit run past number is_sign is_minus unsigned rest has_point after_point mark power digits exponent
    is_power is_decimal times over scaled valued decimal_of round
outside = (refl, refl, refl, refl)

-- 12, ., e5, 1e, 1e+, 1.2., -, 1.5x: no decimals
others :
    (decimal_of (49 ∷ 50 ∷ []) ≡ none)
    × (decimal_of (46 ∷ []) ≡ none)
    × (decimal_of (101 ∷ 53 ∷ []) ≡ none)
    × (decimal_of (49 ∷ 101 ∷ []) ≡ none)
    × (decimal_of (49 ∷ 101 ∷ 43 ∷ []) ≡ none)
    × (decimal_of (49 ∷ 46 ∷ 50 ∷ 46 ∷ []) ≡ none)
    × (decimal_of (45 ∷ []) ≡ none)
    × (decimal_of (49 ∷ 46 ∷ 53 ∷ 120 ∷ []) ≡ none)
unfolding lead is_digit run past number is_sign is_minus unsigned rest has_point after_point mark power digits exponent
    is_power is_decimal times over scaled valued decimal_of round
others = (refl, refl, refl, refl, refl, refl, refl, refl)
