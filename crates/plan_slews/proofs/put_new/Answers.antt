use borrow.Author.Rules.{rules}
use mathlib.Core.Path.{ap, ◌∙◌}
use Prim.Native.Nat.{◌+◌}
use native.Mathlib.Omega.{arith}
use lib.ListN.{length, get_or}
use Rattle.list.proofs.Elements.{length-mapped, get_or-inside}
use Rattle.state_filled.specs.Filled.{no_route}
use Rattle.plan_slews.proofs.Putting.{unread, put-none, put-more, put-route-length, put-end}
use Rattle.plan_slews.proofs.put_new.Goals as goal

pub loop-j-init : goal.loop-j-init
loop-j-init c = (search rules, search (rules, length-mapped), search rules, put-none _ _ _ _ _ _ _)

pub loop-j-preserved : goal.loop-j-preserved
loop-j-preserved c =
    let l = c.loop-j in
    let a = c.args in
    let own = c.own_start-own in
    let r = get_or a.routes (a.first + l.j) unread in (
      omega arith,
      l.invariant.1,
      ap length c.put_route.ensures ∙ put-route-length a.stride a.chunks a.plans a.first a.routes a.new.now r own.result l.j l.values ∙ l.invariant.2,
      put-more a.stride a.chunks a.plans a.first a.routes a.new.now l.j a.values.now l.values _ r own.result l.invariant.3
          (get_or-inside a.routes (a.first + l.j) unread no_route (omega arith))
          own.ensures.0
          c.put_route.ensures,
    )

pub returns : goal.returns
returns c =
    let l = c.loop-j in
    put-end _ _ _ _ _ _ _ _ _ _ l.invariant.3 (omega arith)
