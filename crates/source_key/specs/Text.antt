-- The bytes of a key as they are written: Rust's `format!("env{n}")` (source.rs 234-309). Definitions only.
use Rattle.std.specs.Prelude.{cond, List, [], ◌∷◌, ℕ, ◌+◌, ◌/◌, ◌%◌, ltb, set, replicate}
use Rattle.source_key.specs.declared.Text.{Text}

-- nothing written
unfoldable pub blank_text : Text
blank_text = record { bytes = replicate 32 0; len = 0 }

-- one byte more, where fewer than 32 are written
unfoldable pub put_byte : Text → ℕ → Text
put_byte t b = cond (ltb t.len 32) (record { bytes = set t.bytes t.len b; len = t.len + 1 }) t

unfoldable pub put_all : Text → List ℕ → Text
put_all t [] = t
put_all t (b ∷ bs) = put_all (put_byte t b) bs

-- the decimal digits, as bytes, of a number below 1000
unfoldable pub decimal : ℕ → List ℕ
decimal n =
    cond (ltb n 10) ((48 + n) ∷ [])
    (cond (ltb n 100) ((48 + n / 10) ∷ (48 + n % 10) ∷ [])
    ((48 + n / 100) ∷ (48 + n / 10 % 10) ∷ (48 + n % 10) ∷ []))
