-- Keys with a number in them: Rust's `format!("lfo{n}_y")` (source.rs 233-310), and which keys are such ones.
-- Definitions only.
use Rattle.std.specs.Prelude.{Bool, false, cond, ◌&&◌, List, [], ◌∷◌, ◌++◌, ℕ, ◌+◌, ◌-◌, ◌*◌, leb, length, take, drop}
use Rattle.source_key.specs.Text.{decimal}
use Rattle.source_key.specs.Bytes.{same_bytes}

-- a word, a number below 1000, and what follows it
abbrev pub numbered_key : List ℕ → List ℕ → ℕ → List ℕ
numbered_key word after n = word ++ (decimal n ++ after)

-- ---- whether a key is one of word 1, word 2, .. word n, each with what follows it

-- "0" to "9"
abbrev pub is_digit : ℕ → Bool
is_digit b = leb 48 b && leb b 57

-- the number whose digits so far make v, and one more
abbrev pub longer : ℕ → ℕ → ℕ
longer v b = v * 10 + (b - 48)

-- v is the number read so far: digits as far as they go, at most n in all, and then what follows
unfoldable pub read_on : ℕ → List ℕ → ℕ → List ℕ → Bool
read_on n after v [] = leb v n && same_bytes [] after
read_on n after v (b ∷ bs) = cond (is_digit b) (read_on n after (longer v b) bs) (leb v n && same_bytes (b ∷ bs) after)

-- a number from 1 to n, its first digit not 0, and then what follows
unfoldable pub number_then : ℕ → List ℕ → List ℕ → Bool
number_then n after [] = false
number_then n after (b ∷ bs) = (leb 49 b && leb b 57) && read_on n after 0 (b ∷ bs)

unfoldable pub is_numbered : List ℕ → List ℕ → ℕ → List ℕ → Bool
is_numbered word after n key = same_bytes word (take (length word) key) && number_then n after (drop (length word) key)
