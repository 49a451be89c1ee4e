use mathlib.Core.Path.{◌≡◌, refl, sym, ◌∙◌}
use native.Mathlib.Omega.{arith}
use lib.ListN.{length}
use Rattle.list.proofs.Elements.{length-mapped}
use Rattle.block_opening.proofs.Draws.{drawn_of, routes-none, routes-more, randoms-inside}
use borrow.Author.Rules.{rules}
use Rattle.block_opening.proofs.draw_routes.Goals as goal

pub loop-r-init : goal.loop-r-init
loop-r-init c =
    let a = c.args in
    let long : length a.route ≡ 64 = search (rules, length-mapped) in
    (search rules, long, refl, sym (routes-none _ _ _ _ _ _ _))

pub draw_route-next-requires : goal.draw_route-next-requires
draw_route-next-requires c =
    let l = c.loop-r in
    let a = c.args in
    let s = c.requires in
    (omega arith, omega arith, omega (arith, randoms-inside a.stride a.chunks a.plans a.routes {r = l.r} s.0 (omega arith) s.6, c.random_start-at.ensures, l.invariant.2))

pub loop-r-preserved : goal.loop-r-preserved
loop-r-preserved c =
    let l = c.loop-r in
    let a = c.args in
    (omega arith, l.invariant.1, omega arith, routes-more a.renoted a.n a.stride a.chunks a.plans a.route (drawn_of a.draw a.values.now) (drawn_of l.last l.values) _ l.r _ _ l.invariant.3 c.random_start-at.ensures (omega arith) c.draw_route-next.ensures)

pub returns : goal.returns
returns c =
    let l = c.loop-r in
    let e : l.r ≡ c.args.routes = omega arith in
    l.invariant.3 ∙ rw e
