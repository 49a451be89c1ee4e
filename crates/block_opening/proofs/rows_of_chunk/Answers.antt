use mathlib.Core.Path.{◌≡◌, refl, sym, ◌∙◌}
use native.Mathlib.Omega.{arith}
use lib.ListN.{length}
use Rattle.list.proofs.Elements.{length-mapped}
use Rattle.list.proofs.Rows.{row_inside}
use Rattle.model.specs.Layout.{plan_size}
use Rattle.block_opening.proofs.Rows.{rows_none, rows_more}
use borrow.Author.Rules.{rules}
use Rattle.block_opening.proofs.rows_of_chunk.Goals as goal

pub loop-d-init : goal.loop-d-init
loop-d-init c =
    let a = c.args in
    let long : length a.plan ≡ 64 = search (rules, length-mapped) in
    (search rules, long, refl, sym (rows_none _ _ _ _ _))

pub row_of_chunk-requires : goal.row_of_chunk-requires
row_of_chunk-requires c =
    let l = c.loop-d in
    let a = c.args in
    let p = c.requires in
    let r = row_inside (plan_size a.stride a.chunks) {r = l.d} {n = a.control} (omega arith) in
    (p.1, p.2, c.plan_width-w.ensures.1, p.3, omega arith, omega (arith, p.5, l.invariant.2))

pub loop-d-preserved : goal.loop-d-preserved
loop-d-preserved c =
    let l = c.loop-d in
    let a = c.args in
    (omega arith, l.invariant.1, omega arith, rows_more a.plan a.stride a.chunks a.i a.values.now l.values _ l.d _ _ (omega arith) l.invariant.3 c.plan_width-w.ensures.0 c.row_of_chunk.ensures)

pub returns : goal.returns
returns c =
    let l = c.loop-d in
    let e : l.d ≡ c.args.control = omega arith in
    l.invariant.3 ∙ rw e
