-- Laws of keys that proofs cite in place of the definitions' text. Assumes nothing.
use mathlib.Core.Path.{◌≡◌}
use mathlib.Core.Bool.{false}
use mathlib.Core.List.{List}
use Prim.Native.Nat.{ℕ, ◌<◌}
use native.Mathlib.Omega.{arith}
use lib.ListN.{length, take, length-take}
use lib.Seq.{length-take-le}
use Rattle.source_key.specs.Bytes.{same_bytes}
use Rattle.source_key.proofs.Bytes.{same-lengths}
use Rattle.state.specs.declared.Source.{Source}
use Rattle.source.specs.Keys.{most_key_bytes, key_length, key_of, key_is}

-- ---- an entry's key

-- one of another length is another
pub key-longer : (key : List ℕ) (e : Source) → length e.key ≡ most_key_bytes → (key_length e.len ≡ length key → ⊥) → key_is key e ≡ false
unfolding key_is key_of
key-longer key e l h =
    same-lengths key (take (key_length e.len) e.key) (λ q.
    h (omega (arith, length-take-le (key_length e.len) e.key (omega arith))))

-- a key above 32 bytes is no entry's
pub key-too-long : (key : List ℕ) (e : Source) → most_key_bytes < length key → key_is key e ≡ false
unfolding key_is key_of
key-too-long key e h =
    same-lengths key (take (key_length e.len) e.key) (λ q. omega (arith, length-take (key_length e.len) e.key))

pub key-by-bytes : (key : List ℕ) (e : Source) → key_length e.len ≡ length key → key_is key e ≡ same_bytes key (take (length key) e.key)
unfolding key_is key_of
key-by-bytes key e h = rw h
