-- A source's key: "0 to 32 bytes" (document 01, Source entry; source.rs 86). Definitions only.
use Rattle.std.specs.Prelude.{Bool, List, ◌++◌, ℕ, ◌-◌, min, length, take, replicate}
use Rattle.source_key.specs.Bytes.{same_bytes}
use Rattle.state.specs.declared.Source.{Source}

abbrev pub most_key_bytes : ℕ
most_key_bytes = 32

-- the length that an entry states, held to the 32 bytes that it has
abbrev pub key_length : ℕ → ℕ
key_length n = min n most_key_bytes

-- an entry's key
unfoldable pub key_of : Source → List ℕ
key_of e = take (key_length e.len) e.key

unfoldable pub key_is : List ℕ → Source → Bool
key_is key e = same_bytes key (key_of e)

-- the bytes of a key as an entry has them: the key, then zeros
unfoldable pub key_array : List ℕ → List ℕ
key_array key = key ++ replicate (most_key_bytes - length key) 0
