-- Hexadecimal digits and words. Definitions only.
use Rattle.std.specs.Prelude.{◌≡◌, refl, cond, List, [], ◌∷◌, ℕ, zero, suc, ◌+◌, ◌*◌, ◌-◌, ◌%◌, ◌^◌, ltb, get_or}

-- '0' to '9', 'A' to 'F', 'a' to 'f'; any other byte counts as 0
unfoldable pub digit_of : ℕ → ℕ
digit_of b =
    cond (ltb b 48) 0
    (cond (ltb b 58) (b - 48)
    (cond (ltb b 65) 0
    (cond (ltb b 71) (b - 55)
    (cond (ltb b 97) 0
    (cond (ltb b 103) (b - 87) 0)))))

-- the number of the first n digits from a place on, the highest first; of more than 16 the last 16 count
unfoldable pub hex_at : List ℕ → ℕ → ℕ → ℕ
hex_at s at zero = 0
hex_at s at (suc n) = hex_at s at n % 2 ^ 60 * 16 + digit_of (get_or s (at + n) 0)

-- "3F8g" from 0, four digits
example : hex_at (51 ∷ 70 ∷ 56 ∷ 103 ∷ []) 0 4 ≡ 0x3f80
unfolding hex_at digit_of
example = refl
