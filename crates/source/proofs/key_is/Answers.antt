-- `source::key_is` meets its contract. Assumes nothing.
use mathlib.Core.Path.{ap, ◌∙◌}
use Prim.Native.Nat.{ℕ}
use lib.ListN.{take}
use Rattle.source_key.specs.Bytes.{same_bytes}
use Rattle.source_key.proofs.Bytes.{pointwise-same}
use Rattle.source.specs.Keys.{key_of, key_is}
use Rattle.source.proofs.key_is.Goals as goal

pub returns : goal.returns
unfolding key_is key_of
returns c =
    let a = c.args in
    let cut = ap (λ (n : ℕ). take n a.source.key) c.key_len.ensures in
    c.eq.ensures ∙ pointwise-same _ _ ∙ ap (same_bytes a.key.now) cut
