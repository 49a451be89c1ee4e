-- `source::key_array` meets its contract. Assumes nothing.
use mathlib.Core.Path.{ap, ◌∙◌}
use mathlib.Core.List.{List, ◌++◌}
use Prim.Native.Nat.{ℕ}
use lib.ListN.{length, drop, replicate}
use Rattle.std.proofs.lemmas.List.{drop-replicate}
use Rattle.source.specs.Keys.{most_key_bytes, key_array}
use Rattle.source.proofs.key_array.Goals as goal

pub returns : goal.returns
unfolding key_array
returns c =
    let key = c.args.key.now in
    ap (λ (l : List ℕ). l ++ drop (length key) (replicate most_key_bytes 0)) c.copy_from_slice.ensures.after
    ∙ ap (λ (l : List ℕ). key ++ l) (drop-replicate (length key) most_key_bytes 0)
