-- `plan_mix::aux_place` meets its contract.
use mathlib.Core.Path.{◌∙◌}
use Rattle.plan_mix.proofs.aux_place.Goals as goal

pub returns-in-None : goal.returns-in-None
returns-in-None c = (tt, λ t f s j r y z q w. rw c.in-None.is tt)

pub returns-in-Some : goal.returns-in-Some
returns-in-Some c = let o = c.input_place.ensures in (o.0, λ t f s j r y z q w. rw c.in-Some.is (o.1 t f s j y (record { reads = w.reads; own = w.own; part = rw (q ∙ c.in-Some.is) at w.aux })))
