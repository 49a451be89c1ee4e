use mathlib.Core.Path.{◌≡◌, ap, ◌∙◌}
use Prim.Native.Nat.{ℕ}
use native.Mathlib.Omega.{arith}
use lib.ListN.{length, set, length-set}
use Rattle.number.specs.Number.{whole_part}
use Rattle.curve_table.specs.Table.{cell_at}
use Rattle.model.specs.Counts.{at}
use borrow.Author.Rules.{rules}
use Rattle.lanes16.proofs.Cells.{held-is, cell-few, stored}
use Rattle.lanes16.proofs.cell_lanes.Goals as goal

pub loop-l-init : goal.loop-l-init
loop-l-init c = (search rules, search rules, λ i h. absurd (omega arith))

pub whole-requires : goal.whole-requires
whole-requires c = rw c.held-x.ensures (let h = held-is _ in (h.0, h.1))

pub loop-l-preserved : goal.loop-l-preserved
loop-l-preserved c =
    let i = c.loop-l in
    let row = c.args.row in
    let cell : c.whole.result ≡ cell_at (at row i.l) = c.whole.ensures.0 ∙ ap whole_part c.held-x.ensures ∙ (held-is (at row i.l)).2 in
    let length-is : length (set i.out i.l c.whole.result) ≡ 16 = length-set i.out i.l c.whole.result ∙ i.invariant.1 in
    (omega arith, length-is, stored (λ (k v : ℕ). v ≡ cell_at (at row k)) i.l i.out c.whole.result (omega arith) i.invariant.2 cell)

pub returns : goal.returns
returns c =
    let i = c.loop-l.invariant in
    record { as_long = i.1; each = λ l h. i.2 l (omega arith); few = λ l h. rw (i.2 l (omega arith)) (cell-few (at c.args.row l)) }
