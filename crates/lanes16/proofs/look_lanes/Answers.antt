-- `lanes16::look_lanes` meets its contract.
use native.Mathlib.Omega.{arith}
use lib.ListN.{get_or}
use Rattle.model.specs.Counts.{at}
use Rattle.lanes16.proofs.Cells.{looked}
use Rattle.lanes16.proofs.look_lanes.Goals as goal

pub points_at-a-requires : goal.points_at-a-requires
points_at-a-requires c = (omega arith, c.cell_lanes-c.ensures.few)

pub points_at-b-requires : goal.points_at-b-requires
points_at-b-requires c = (omega arith, c.cell_lanes-c.ensures.few)

pub between_lanes-requires : goal.between_lanes-requires
between_lanes-requires c = c.cell_lanes-c.ensures.few

pub returns : goal.returns
returns c =
    λ l h.
    let a = c.args in
    let cells = c.cell_lanes-c in
    let here = c.points_at-a in
    let next = c.points_at-b in
    looked a.tables.now a.start (get_or cells.result l 0) (at a.row l) (at here.result l) (at next.result l) (at c.between_lanes.result l)
    (cells.ensures.each l h) (here.ensures l h) (next.ensures l h) (c.between_lanes.ensures l h)
