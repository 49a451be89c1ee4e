-- A word of 32 bits as text. Definitions only.
use Rattle.std.specs.Prelude.{◌≡◌, ℕ, ◌+◌, ◌/◌, ◌%◌, cond, List, [], ◌∷◌, nat_lt, refl}

-- the digit of the lowest four bits, '0' to '9' and 'A' to 'F'
unfoldable pub glyph_of : ℕ → ℕ
glyph_of n = cond (nat_lt (n % 16) 10) (48 + n % 16) (55 + n % 16)

-- eight hexadecimal digits, the highest first
unfoldable pub glyphs_of : ℕ → List ℕ
glyphs_of n =
    glyph_of (n / 268435456) ∷ glyph_of (n / 16777216) ∷ glyph_of (n / 1048576) ∷ glyph_of (n / 65536) ∷ glyph_of (n / 4096) ∷ glyph_of (n / 256) ∷ glyph_of (n / 16) ∷ glyph_of n ∷ []

-- 0x3F8000AB is "3F8000AB"
example : glyphs_of 0x3f8000ab ≡ 51 ∷ 70 ∷ 56 ∷ 48 ∷ 48 ∷ 48 ∷ 65 ∷ 66 ∷ []
unfolding glyphs_of glyph_of
example = refl
