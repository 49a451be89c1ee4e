-- `plan_sweep::leads_of` meets its contract.
use native.Mathlib.Omega.{arith}
use borrow.Author.Rules.{rules}
use Rattle.plan_sweep.proofs.Kept.{zeros}
use Rattle.plan_sweep.proofs.leads_of.Goals as goal

pub lead_routes-requires : goal.lead_routes-requires
lead_routes-requires c = (
  c.requires,
  record { routes = omega arith; starts = search rules; steps = search rules; gains = search rules; offsets = search rules; none = λ i h. zeros 64 i },
)

pub returns : goal.returns
returns c = c.lead_routes.ensures
