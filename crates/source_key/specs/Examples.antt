-- The definitions, computed.
use Rattle.std.specs.Prelude.{◌≡◌, refl, Bool, true, not, cond, ◌&&◌, List, [], ◌∷◌, ℕ, zero, suc, leb}
use Rattle.source_key.specs.Text.{blank_text, put_byte, put_all, decimal}
use Rattle.source_key.specs.Bytes.{same_bytes}
use Rattle.source_key.specs.Numbered.{numbered_key, read_on, number_then, is_numbered}

-- "7", "42", "128"
decimals : (decimal 7 ≡ 55 ∷ []) × (decimal 42 ≡ 52 ∷ 50 ∷ []) × (decimal 128 ≡ 49 ∷ 50 ∷ 56 ∷ [])
unfolding decimal
decimals = (refl, refl, refl)

-- five bytes are written after one
written : ((put_all (put_byte blank_text 101) (1 ∷ 2 ∷ 3 ∷ 4 ∷ 5 ∷ [])).len ≡ 6)
    × ((put_all blank_text (decimal 10)).len ≡ 2)
unfolding put_all put_byte blank_text decimal
written = (refl, refl)

-- ---- a key with a number, as it is written, is one of those up to n where the number is at most n

abbrev each : (ℕ → Bool) → ℕ → Bool
each test zero = true
each test (suc k) = test (suc k) && each test k

-- "lfo"
abbrev lfo : List ℕ
lfo = 108 ∷ 102 ∷ 111 ∷ []

-- the key of k is one of those up to n
abbrev own : List ℕ → ℕ → ℕ → Bool
own after n k = is_numbered lfo after n (numbered_key lfo after k)

abbrev rightly : List ℕ → ℕ → ℕ → Bool
rightly after n k = cond (leb k n) (own after n k) (not (own after n k))

recognised : (each (rightly [] 128) 300 ≡ true) × (each (rightly (95 ∷ 121 ∷ []) 128) 300 ≡ true)
unfolding is_numbered number_then read_on same_bytes decimal
recognised = (refl, refl)
