use native.Mathlib.Omega.{arith}
use Rattle.plan_sweep.proofs.Fours.{further-inside, fours-none, fours-more, fours-end}
use borrow.Author.Rules.{rules}
use Rattle.plan_sweep.proofs.four_row.Goals as goal

pub loop-k-init : goal.loop-k-init
loop-k-init c = let a = c.args in
    (search rules, search rules, fours-none a.over a.x a.xs.now a.p a.g a.start _)

pub overflow_mul-o : goal.overflow_mul-o
overflow_mul-o c = omega (arith, c.requires.1)

pub further-q-requires : goal.further-q-requires
further-q-requires c = let w = c.requires.0 in
    record { a = omega (arith, w.a); b = omega (arith, w.b); c = omega (arith, w.c); d = omega (arith, w.d) }

pub overflow_add-start : goal.overflow_add-start
overflow_add-start c = omega (arith, c.requires.1)

pub four_group-requires : goal.four_group-requires
four_group-requires c = let a = c.args in
    let i = c.loop-k in
    (further-inside a.xs.now a.p a.g i.k a.groups _ c.further-q.ensures (omega (arith, c.loop-k-test.true)) c.requires.0, omega (arith, c.requires.1, i.invariant.1, c.loop-k-test.true))

pub loop-k-preserved : goal.loop-k-preserved
loop-k-preserved c = let a = c.args in
    let i = c.loop-k in
    (omega arith, search rules, fours-more a.over a.x a.xs.now a.p a.g a.start _ _ _ i.k _ i.invariant.2 c.further-q.ensures c.four_group.ensures)

pub returns : goal.returns
returns c = let a = c.args in
    let i = c.loop-k in
    fours-end a.over a.x a.xs.now a.p a.g a.start _ _ i.k _ i.invariant.2 (omega arith)
