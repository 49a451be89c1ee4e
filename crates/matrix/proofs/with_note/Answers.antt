-- `matrix::with_note` meets its contract.
use mathlib.Core.Path.{sym, ap, ◌∙◌}
use Rattle.matrix.specs.declared.NoteSlot.{NoteSlot}
use Rattle.matrix.specs.Which.{with_note}
use Rattle.matrix.proofs.with_note.Goals as goal

pub returns-in-Velocity : goal.returns-in-Velocity
returns-in-Velocity c =
    let a = c.args in
    c.with_velocity.ensures ∙ sym (ap (λ (w : NoteSlot). with_note a.matrix w a.curve) c.in-Velocity.is)

pub returns-in-Key : goal.returns-in-Key
returns-in-Key c =
    let a = c.args in
    c.with_key.ensures ∙ sym (ap (λ (w : NoteSlot). with_note a.matrix w a.curve) c.in-Key.is)
