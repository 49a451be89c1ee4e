-- What a decimal of a session stands for (docs/SESSIONS.md, How a line reads). Definitions only. A decimal is a sign or
-- none, digits with a point or without, an exponent or none: -0.25, .5, 5., 48000.0, 1.5E+2, +1e-3. It has a digit
-- before the point or after it, and it has a point or an exponent: a bare row of digits is a whole number. An exponent
-- is e or E, a sign or none, and digits. A sign is + or -. With its digits as one whole number m and the last of them
-- counting 10 ^ p it stands for the binary32 nearest to m * 10 ^ p, a tie going to the even one. It is read where m is
-- below 10 ^ 18 (18 digits, zeros in front not counted, zeros at the end counted), the exponent's digits are a number
-- below 1000, and, where m is not 0, p is not below -17 and, from p = 0 on, m * 10 ^ p is below 2 ^ 64. Any other
-- decimal is outside. Where m is 0 it is a zero, of the decimal's sign.
use Rattle.std.specs.Prelude.{Bool, cond, ◌&&◌, ◌||◌, List, [], ◌∷◌, ℕ, suc, ◌+◌, ◌-◌, ◌*◌, ◌^◌, leb, ltb}
use Rattle.std.specs.Prelude.{eqb, pos, length, get_or, drop, Float, Result, Ok, Err}
use Rattle.std.specs.Float.{fin, binary32}
use Rattle.std.specs.Float.Ieee.{round}
use Rattle.decimal.specs.declared.Unread.{Unread}
use Rattle.decimal.specs.declared.Unread.TheVariants.{Outside, Other}

-- ---- rows of bytes

-- the first byte, 0 where there is none
unfoldable pub lead : List ℕ → ℕ
lead w = get_or w 0 0

-- '0' to '9'
unfoldable pub is_digit : ℕ → Bool
is_digit b = leb 48 b && ltb b 58

-- how many digits a row begins with
unfoldable pub run : List ℕ → ℕ
run [] = 0
run (b ∷ w) = cond (is_digit b) (suc (run w)) 0

-- what follows them
unfoldable pub past : List ℕ → List ℕ
past w = drop (run w) w

-- the number whose digits are those of v, then those that the row begins with
unfoldable pub number : ℕ → List ℕ → ℕ
number v [] = v
number v (b ∷ w) = cond (is_digit b) (number (v * 10 + (b - 48)) w) v

-- '+' and '-'
unfoldable pub is_sign : ℕ → Bool
is_sign b = eqb b 43 || eqb b 45

unfoldable pub is_minus : List ℕ → Bool
is_minus w = eqb (lead w) 45

unfoldable pub unsigned : List ℕ → List ℕ
unsigned w = cond (is_sign (lead w)) (drop 1 w) w

-- ---- the parts of a word

-- what follows the digits before the point
unfoldable pub rest : List ℕ → List ℕ
rest w = past (unsigned w)

-- '.'
unfoldable pub has_point : List ℕ → Bool
has_point w = eqb (lead (rest w)) 46

-- what follows the point
unfoldable pub after_point : List ℕ → List ℕ
after_point w = cond (has_point w) (drop 1 (rest w)) []

-- what follows all the digits: nothing, or the exponent
unfoldable pub mark : List ℕ → List ℕ
mark w = cond (has_point w) (past (after_point w)) (rest w)

-- what follows the exponent's letter
unfoldable pub power : List ℕ → List ℕ
power w = drop 1 (mark w)

-- all the digits as one whole number
unfoldable pub digits : List ℕ → ℕ
digits w = number (number 0 (unsigned w)) (after_point w)

-- the exponent's digits; 0 where there is no exponent
unfoldable pub exponent : List ℕ → ℕ
exponent w = number 0 (unsigned (power w))

-- ---- the grammar

-- 'e' or 'E', a sign or none, and nothing but digits, at least one
unfoldable pub is_power : List ℕ → Bool
is_power w =
    (eqb (lead (mark w)) 101 || eqb (lead (mark w)) 69) &&
    (ltb 0 (length (unsigned (power w))) && eqb (run (unsigned (power w))) (length (unsigned (power w))))

unfoldable pub is_decimal : List ℕ → Bool
is_decimal w =
    ltb 0 (run (unsigned w) + run (after_point w)) && (is_power w || (has_point w && eqb (length (mark w)) 0))

-- ---- the value

abbrev pub given : Float → Result Float Unread
given x = Ok x

abbrev pub beyond : Result Float Unread
beyond = Err Outside

abbrev pub none : Result Float Unread
none = Err Other

-- m * 10 ^ p and m / 10 ^ k, with the sign s
unfoldable pub times : Bool → ℕ → ℕ → Result Float Unread
times s m p = cond (ltb (m * 10 ^ p) (2 ^ 64)) (given (round binary32 s (m * 10 ^ p) 1)) beyond

unfoldable pub over : Bool → ℕ → ℕ → Result Float Unread
over s m k = cond (leb k 17) (given (round binary32 s m (10 ^ k))) beyond

-- m * 10 ^ up / 10 ^ down
unfoldable pub scaled : Bool → ℕ → ℕ → ℕ → Result Float Unread
scaled s m up down =
    cond (eqb m 0) (given (fin s 0 (pos 0))) (cond (leb down up) (times s m (up - down)) (over s m (down - up)))

-- the digits m, of which f stand after the point, times 10 ^ e, or 10 ^ -e where n says so
unfoldable pub valued : Bool → ℕ → ℕ → Bool → ℕ → Result Float Unread
valued s m f n e = cond (ltb m (10 ^ 18) && ltb e 1000) (cond n (scaled s m 0 (f + e)) (scaled s m e f)) beyond

unfoldable pub decimal_of : List ℕ → Result Float Unread
decimal_of w =
    cond (is_decimal w) (valued (is_minus w) (digits w) (run (after_point w)) (is_minus (power w)) (exponent w)) none
