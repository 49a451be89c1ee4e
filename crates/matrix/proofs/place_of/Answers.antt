-- `matrix::place_of` meets its contract.
use mathlib.Core.Path.{sym, ap, ◌∙◌}
use Rattle.matrix.specs.Which.{place_of}
use Rattle.matrix.proofs.place_of.Goals as goal

pub returns-in-Source : goal.returns-in-Source
returns-in-Source c = (c.slot_place.ensures.0 ∙ sym (ap (place_of c.args.n) c.in-Source.is), c.slot_place.ensures.1)

pub returns-in-Aux : goal.returns-in-Aux
returns-in-Aux c = (c.slot_place-in-Aux.ensures.0 ∙ sym (ap (place_of c.args.n) c.in-Aux.is), c.slot_place-in-Aux.ensures.1)
