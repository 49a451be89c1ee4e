use mathlib.Core.Path.{ap}
use Prim.Native.Nat.{◌<◌}
use native.Mathlib.Omega.{arith}
use borrow.Author.Rules.{rules}
use lib.ListN.{length}
use Rattle.list.proofs.Elements.{get_or-inside, length-mapped}
use Rattle.list.proofs.Filled.{filled_none, filled_more}
use Rattle.state_filled.specs.Filled.{no_route}
use Rattle.state.specs.declared.Route.{Route}
use Rattle.plan_sum.proofs.Simple.{all_told}
use Rattle.plan_sum.proofs.simples_of.Goals as goal

pub loop-i-init : goal.loop-i-init
loop-i-init c = (search rules, search (rules, length-mapped), filled_none _ _)

pub loop-i-preserved : goal.loop-i-preserved
loop-i-preserved c =
    let i = c.loop-i in
    let a = c.args in
    let near : i.i < length a.routes = omega (arith, i.invariant.1) in
    (omega arith, i.invariant.1, filled_more i.invariant.2 (ap (λ (r : Route). r.simple) (get_or-inside a.routes i.i _ no_route near)))

pub returns : goal.returns
returns c = let i = c.loop-i in all_told c.args.routes i.out i.i i.invariant.1 (omega arith) i.invariant.2
