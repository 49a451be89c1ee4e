-- `block_opening::row_of_chunk` meets its contract.
use mathlib.Core.Logic.{inl}
use Prim.Native.Nat.{◌+◌, ◌≤◌}
use native.Mathlib.Omega.{arith}
use lib.ListN.{length}
use Rattle.model.specs.Layout.{plan_size}
use Rattle.block_opening.proofs.Rows.{from-inside, to_inside, rows_inside, to-after, row-steps}
use Rattle.block_opening.proofs.row_of_chunk.Goals as goal

pub copy_within-requires : goal.copy_within-requires
copy_within-requires c =
    let a = c.args in
    let p = c.requires in
    let s = c.plan_start-start.result in
    let t : s + plan_size a.stride a.chunks ≤ length a.values.now = omega (arith, c.plan_start-start.ensures.0, p.5) in
    let f = from-inside a.stride a.chunks a.w a.i p.2 p.3 s _ t in
    let r = rows_inside a.stride a.chunks a.w a.i p.2 p.3 s _ t in
    (omega arith, omega (arith, c.chunk_from-from.ensures), inl (omega (arith, c.chunk_from-from.ensures)))

pub copy_within-requires-2 : goal.copy_within-requires-2
copy_within-requires-2 c =
    let a = c.args in
    let p = c.requires in
    let s = c.plan_start-start.result in
    let t : s + plan_size a.stride a.chunks ≤ length a.values.now = omega (arith, c.plan_start-start.ensures.0, p.5) in
    let f = to_inside a.stride a.chunks a.w a.i p.2 p.3 s _ t in
    let r = rows_inside a.stride a.chunks a.w a.i p.2 p.3 s _ t in
    let q = to-after a.stride a.chunks a.w a.i p.2 p.3 s _ t in
    (omega arith, omega (arith, c.chunk_to-to.ensures), inl (omega (arith, c.chunk_to-to.ensures)))

pub returns : goal.returns
returns c =
    let a = c.args in
    let p = c.requires in
    row-steps a.stride a.chunks a.w a.i a.d a.values.now _ _ _ _ _ p.2 p.3 p.5 c.plan_start-start.ensures.0 c.chunk_from-from.ensures c.chunk_to-to.ensures c.copy_within.auto.mem c.copy_within.ensures c.copy_within-2.ensures
