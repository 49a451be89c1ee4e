-- Which keys are those of a sequence. Assumes nothing.
use mathlib.Core.Path.{◌≡◌}
use mathlib.Core.Bool.{true, false}
use mathlib.Core.List.{List, []}
use Prim.Native.Nat.{ℕ}
use native.Mathlib.Omega.{arith}
use borrow.Author.Tests.{lt-ltb, le-ltb}
use Rattle.source_key.specs.Bytes.{same_bytes}
use Rattle.source_key.specs.Numbered.{is_numbered}
use Rattle.source.specs.Named.{seq_word, seq_index_key}
use Rattle.source.specs.Standard.{sequence_key}

module _ (key : List ℕ) (n : ℕ) where
  pub sequence-value : is_numbered seq_word [] n key ≡ true → sequence_key n key ≡ true
  unfolding sequence_key
  sequence-value h = rw h

  pub sequence-none : is_numbered seq_word [] n key ≡ false → n ≡ 0 → sequence_key n key ≡ false
  unfolding sequence_key
  sequence-none h z = rw (h, le-ltb 0 n (omega arith))

  pub sequence-index : is_numbered seq_word [] n key ≡ false → (n ≡ 0 → ⊥) → sequence_key n key ≡ same_bytes key seq_index_key
  unfolding sequence_key
  sequence-index h z = rw (h, lt-ltb 0 n (omega arith))
