use mathlib.Core.Path.{refl}
use Prim.Native.Nat.{◌<◌}
use native.Mathlib.Omega.{arith}
use lib.Dec.{le→leb}
use lib.ListN.{get_or}
use lib.Ieee.{in_float}
use Rattle.plan_sum.proofs.Lanes.{laned-none, laned-more}
use borrow.Author.Rules.{rules}
use Rattle.lanes16.proofs.between_lanes.Goals as goal

pub loop-l-init : goal.loop-l-init
loop-l-init c = (search rules, search rules, laned-none _ _)

pub int_to_float-out : goal.int_to_float-out
unfolding in_float
int_to_float-out c =
    let l = c.loop-l.l in
    let small : get_or c.args.cells l 0 < 512 = c.requires l (omega arith) in
    le→leb (get_or c.args.cells l 0) 16777216 (omega arith)

pub loop-l-preserved : goal.loop-l-preserved
loop-l-preserved c = let i = c.loop-l in (omega arith, i.invariant.1, laned-more i.invariant.2 (omega arith) refl)

pub returns : goal.returns
returns c = λ l h. c.loop-l.invariant.2.done l (omega arith)
