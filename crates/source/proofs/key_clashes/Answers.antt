-- `source::key_clashes` meets its contract. Assumes nothing.
use mathlib.Core.Path.{◌≡◌, sym, ◌∙◌}
use mathlib.Core.Bool.{true, false}
use Rattle.list.specs.Part.{part}
use Rattle.source.specs.Standard.{standard_key}
use Rattle.source.proofs.key_clashes.Goals as goal

pub is_standard-requires : goal.is_standard-requires
is_standard-requires c = c.requires.0

pub returns-then-is_standard : goal.returns-then-is_standard
unfolding part
returns-then-is_standard c =
    let a = c.args in
    let yes : standard_key a.counts (part a.bytes.now a.at a.end) ≡ true = sym c.is_standard.ensures ∙ c.if-is_standard.true in
    rw yes

pub returns : goal.returns
unfolding part
returns c =
    let a = c.args in
    let no : standard_key a.counts (part a.bytes.now a.at a.end) ≡ false = sym c.is_standard.ensures ∙ c.if-is_standard.false in
    rw no c.any_same.ensures
