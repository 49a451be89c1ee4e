-- `source_key::is_numbered` meets its contract. Assumes nothing.
use mathlib.Core.Path.{◌≡◌, sym, ap, ◌∙◌}
use mathlib.Core.Bool.{true, false}
use mathlib.Core.List.{List}
use Prim.Native.Nat.{ℕ}
use lib.ListN.{length, take}
use borrow.Author.Tests.{not-true, not-false}
use Rattle.source_key.specs.Bytes.{same_bytes}
use Rattle.source_key.specs.Numbered.{number_then}
use Rattle.source_key.proofs.Bytes.{pointwise-same}
use Rattle.source_key.proofs.Reading.{rest_from, numbered-short, numbered-other, numbered-same}
use Rattle.source_key.proofs.is_numbered.Goals as goal

pub returns-then-key-start : goal.returns-then-key-start
returns-then-key-start c =
    let a = c.args in
    let word = a.word.now in
    let key = a.key.now in
    sym (numbered-short word a.after.now key a.n c.if-key-start.true)

pub returns-then-ne : goal.returns-then-ne
returns-then-ne c =
    let a = c.args in
    let word = a.word.now in
    let key = a.key.now in
    let other : same_bytes word (take (length word) key) ≡ false = sym (pointwise-same _ _) ∙ not-true _ (sym c.ne.ensures ∙ c.if-ne.true) in
    sym (numbered-other word a.after.now key a.n other)

pub returns : goal.returns
returns c =
    let a = c.args in
    let word = a.word.now in
    let key = a.key.now in
    let same : same_bytes word (take (length word) key) ≡ true = sym (pointwise-same _ _) ∙ not-false _ (sym c.ne.ensures ∙ c.if-ne.false) in
    c.number_then.ensures
    ∙ ap (λ (l : List ℕ). number_then a.n a.after.now l) (rest_from key (length word))
    ∙ sym (numbered-same word a.after.now key a.n same)
