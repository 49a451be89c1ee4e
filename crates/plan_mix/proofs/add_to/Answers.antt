use mathlib.Core.Path.{ap}
use Prim.Native.Nat.{◌+◌}
use native.Mathlib.Omega.{arith}
use lib.Ieee.{Float}
use Rattle.model.specs.Counts.{at}
use Rattle.number.specs.Number.{plus}
use Rattle.plan_mix.proofs.Laws.{between_none, between_more, between-end}
use borrow.Author.Rules.{rules}
use Rattle.plan_mix.proofs.add_to.Goals as goal

pub loop-l-init : goal.loop-l-init
loop-l-init c = (search rules, search rules, between_none _ _ _)

pub offset_bounds-sums-p : goal.offset_bounds-sums-p
offset_bounds-sums-p c = omega (arith, c.loop-l.invariant.2.long)

pub bounds-sums-p : goal.bounds-sums-p
bounds-sums-p c = omega (arith, c.loop-l.invariant.2.long)

pub offset_bounds-sums-p-in-loop-l : goal.offset_bounds-sums-p-in-loop-l
offset_bounds-sums-p-in-loop-l c = omega (arith, c.loop-l.invariant.2.long)

pub bounds-sums-p-in-loop-l : goal.bounds-sums-p-in-loop-l
bounds-sums-p-in-loop-l c = omega (arith, c.loop-l.invariant.2.long)

pub loop-l-preserved : goal.loop-l-preserved
loop-l-preserved c = let i = c.loop-l in let a = c.args in (omega arith, i.invariant.1, between_more i.invariant.2 (omega arith) (ap (λ (z : Float). plus z (at a.row i.l)) (i.invariant.2.rest (a.lane + i.l) (omega arith))))

pub shape_of-sums : goal.shape_of-sums
shape_of-sums c = c.loop-l.invariant.2.long

pub returns : goal.returns
returns c = between-end (omega arith) c.loop-l.invariant.2
