-- `engine_notes::write_value` meets its contract.
use mathlib.Core.Path.{sym, ap, ◌∙◌}
use lib.Ieee.{Float}
use Rattle.voice.specs.Notes.{glides_to}
use Rattle.engine_notes.specs.Noting.{value_in}
use Rattle.engine_notes.proofs.write_value.Goals as goal

pub returns-then-not-takes : goal.returns-then-not-takes
unfolding value_in
returns-then-not-takes c = simp (c.if-not-takes.true)

pub returns-then-glides_to : goal.returns-then-glides_to
unfolding value_in
returns-then-glides_to c = simp (c.if-not-takes.false, sym (c.glides_to.ensures ∙ ap (λ (x : Float). glides_to x c.args.target c.args.time) c.value_of.ensures) ∙ c.if-glides_to.true)

pub returns : goal.returns
unfolding value_in
returns c = simp (c.if-not-takes.false, sym (c.glides_to.ensures ∙ ap (λ (x : Float). glides_to x c.args.target c.args.time) c.value_of.ensures) ∙ c.if-glides_to.false) c.write_kind.ensures
