-- `matrix_editing::room_at` meets its contract.
use Rattle.state.specs.declared.Polarity.{Polarity}
use mathlib.Core.Path.{sym, ap, ◌∙◌}
use lib.Ieee.{of_bits}
use Rattle.matrix_editing.specs.Drag.{room_at}
use Rattle.matrix_editing.proofs.room_at.Goals as goal

pub returns-in-Unipolar : goal.returns-in-Unipolar
returns-in-Unipolar c = let a = c.args in
    c.one_way_room.ensures ∙ sym (ap (λ (p : Polarity). room_at a.position p a.amount) c.in-Unipolar.is)

pub returns-in-Bipolar : goal.returns-in-Bipolar
unfolding of_bits
returns-in-Bipolar c = let a = c.args in
    c.min.ensures ∙ sym (ap (λ (p : Polarity). room_at a.position p a.amount) c.in-Bipolar.is)
