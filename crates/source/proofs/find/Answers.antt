-- `source::find` meets its contract. Assumes nothing.
use mathlib.Core.Path.{ap, ◌∙◌}
use borrow.Author.Tests.{lt-ltb, le-ltb}
use Rattle.std.specs.Prelude.{Ok}
use Rattle.refusal.specs.Judge.{judged}
use Rattle.source.specs.Registry.{find_source}
use Rattle.source.proofs.Registry.{find-said}
use Rattle.source.proofs.find.Goals as goal

pub returns-then-key-gt-KEY_BYTES : goal.returns-then-key-gt-KEY_BYTES
unfolding find_source judged
returns-then-key-gt-KEY_BYTES c =
    let a = c.args in
    let said = find-said a.sources a.key.now _ (simp (lt-ltb _ _ c.if-key-gt-KEY_BYTES.true)) in
    record { value = said.0; reply = said.1 }

pub returns : goal.returns
unfolding find_source judged
returns c =
    let a = c.args in
    let said = find-said a.sources a.key.now _ (ap Ok c.find_key.ensures ∙ simp (le-ltb _ _ c.if-key-gt-KEY_BYTES.false)) in
    record { value = said.0; reply = said.1 }
