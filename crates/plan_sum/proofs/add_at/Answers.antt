-- `plan_sum::add_at` meets its contract.
use native.Mathlib.Omega.{arith}
use mathlib.Core.Bool.{◌&&◌}
use lib.Dec.{ltb, leb}
use Rattle.model.specs.Counts.{at}
use Rattle.plan_sum.proofs.Steps.{told}
use Rattle.plan_sum.proofs.add_at.Goals as goal

pub add_from-requires : goal.add_from-requires
add_from-requires c = let p = c.requires in (p.1, omega (arith, p.2, p.0.sized.stride), omega (arith, p.2, rw c.in-Held.is at p.3))

pub add_from-requires-in-Values : goal.add_from-requires-in-Values
add_from-requires-in-Values c = let p = c.requires in (p.1, omega (arith, p.2, p.0.sized.stride), omega (arith, p.2, rw c.in-Values.is at p.3))

pub add_from-requires-in-Samples : goal.add_from-requires-in-Samples
add_from-requires-in-Samples c = let p = c.requires in (p.1, omega (arith, p.2, p.0.sized.stride), omega (arith, p.2, rw c.in-Samples.is at p.3))

pub returns-in-Held : goal.returns-in-Held
returns-in-Held c = λ t f s j v e l b. let a = c.args in told (leb a.span.first l && ltb l a.span.end) (at a.row l) _ _ a.gain (rw c.in-Held.is at (e l b)) (c.add_from.ensures l)

pub returns-in-Values : goal.returns-in-Values
returns-in-Values c = λ t f s j v e l b. let a = c.args in told (leb a.span.first l && ltb l a.span.end) (at a.row l) _ _ a.gain (rw c.in-Values.is at (e l b)) (c.add_from-in-Values.ensures l)

pub returns-in-Samples : goal.returns-in-Samples
returns-in-Samples c = λ t f s j v e l b. let a = c.args in told (leb a.span.first l && ltb l a.span.end) (at a.row l) _ _ a.gain (rw c.in-Samples.is at (e l b)) (c.add_from-in-Samples.ensures l)

pub returns-in-Nowhere : goal.returns-in-Nowhere
returns-in-Nowhere c = λ t f s j v e l b. c.add_raw.ensures t f s j v l
