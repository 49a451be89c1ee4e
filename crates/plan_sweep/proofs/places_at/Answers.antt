-- `plan_sweep::places_at` meets its contract.
use Rattle.plan_sweep.proofs.places_at.Goals as goal

pub returns : goal.returns
returns c = rw (c.place.ensures, c.place-2.ensures, c.place-3.ensures, c.place-4.ensures)
