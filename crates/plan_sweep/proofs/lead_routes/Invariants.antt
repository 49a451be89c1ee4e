-- `plan_sweep::lead_routes` meets its contract. The invariant: the routes before i are found.
use mathlib.Core.Path.{◌≡◌}
use Prim.Native.Nat.{◌-◌, ◌≤◌}
use lib.ListN.{length}
use Rattle.plan_sweep.specs.Leads.{Blank}
use Rattle.plan_sweep.proofs.Kept.{KeptAll}
use Rattle.plan_sweep.proofs.lead_routes.Given as goal

abbrev pub invariant-loop-i : goal.invariant-loop-i
invariant-loop-i l =
    (l.i ≤ l.n) × Blank l.n l.starts l.steps l.gains l.offsets × (length l.routes ≡ 64) × (length l.parts ≡ 128) × (length l.amount ≡ 64) × (length l.output ≡ 64) × (l.len ≡ length l.samples)
    × KeptAll l.routes l.parts l.amount l.output l.stride l.up_to l.len l.starts l.steps l.gains l.offsets l.i

abbrev pub decreases-loop-i : goal.decreases-loop-i
decreases-loop-i l = l.n - l.i
