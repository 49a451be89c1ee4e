use mathlib.Core.Path.{refl}
use native.Mathlib.Omega.{arith}
use Rattle.plan_mix.proofs.Laws.{between_none, between_more, between-end}
use borrow.Author.Rules.{rules}
use Rattle.plan_mix.proofs.put_to.Goals as goal

pub loop-l-init : goal.loop-l-init
loop-l-init c = (search rules, search rules, between_none _ _ _)

pub overflow_add-new : goal.overflow_add-new
overflow_add-new c = omega (arith, c.loop-l.invariant.2.long)

pub offset_bounds-new-start : goal.offset_bounds-new-start
offset_bounds-new-start c = omega (arith, c.loop-l.invariant.2.long)

pub bounds-new-start : goal.bounds-new-start
bounds-new-start c = omega (arith, c.loop-l.invariant.2.long)

pub loop-l-preserved : goal.loop-l-preserved
loop-l-preserved c = let i = c.loop-l in (omega arith, i.invariant.1, between_more i.invariant.2 (omega arith) refl)

pub shape_of-new : goal.shape_of-new
shape_of-new c = c.loop-l.invariant.2.long

pub returns : goal.returns
returns c = between-end (omega arith) c.loop-l.invariant.2
