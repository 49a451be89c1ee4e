-- `engine_notes::value_of` meets its contract.
use mathlib.Core.Path.{◌≡◌, sym, ◌∙◌}
use native.Mathlib.Omega.{arith}
use borrow.Author.Rules.{rules}
use lib.ListN.{length}
use Rattle.list.proofs.Elements.{get_or_past}
use Rattle.engine_notes.proofs.value_of.Goals as goal

pub returns-then-voice-ge-VOICES : goal.returns-then-voice-ge-VOICES
returns-then-voice-ge-VOICES c =
    let a = c.args in
    let e : length a.notes.value ≡ 64 = search rules in
    c.not_a_number.ensures ∙ sym (get_or_past a.notes.value a.voice _ (omega arith))
