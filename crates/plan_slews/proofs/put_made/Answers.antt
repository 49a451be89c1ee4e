-- `plan_slews::put_made` meets its contract.
use mathlib.Core.Path.{◌≡◌}
use mathlib.Core.List.{[]}
use Prim.Native.Nat.{◌+◌}
use native.Mathlib.Omega.{arith}
use lib.ListN.{length}
use Rattle.list.proofs.Elements.{length-mapped}
use Rattle.plan_slews.proofs.Putting.{put-none, none-past, slews-done}
use borrow.Author.Rules.{rules}
use Rattle.plan_slews.proofs.put_made.Goals as goal

pub returns-then-first-ge-SLOTS : goal.returns-then-first-ge-SLOTS
returns-then-first-ge-SLOTS c = let a = c.args in
    let long : length a.routes ≡ 64 = search (rules, length-mapped) in
    λ t x st d w same from lies news.
    slews-done t x st d a.routes a.stride a.chunks a.plans a.first a.values.now [] a.values.now 0 w from lies (omega arith)
    (λ j h b. none-past a.routes (a.first + j) long (omega arith))
    (λ j h. absurd (omega arith))
    (put-none a.stride a.chunks a.plans a.first a.routes [] a.values.now)

pub returns : goal.returns
returns c = let a = c.args in
    let n = c.routes_there-n in
    let long : length a.routes ≡ 64 = search (rules, length-mapped) in
    λ t x st d w same from lies news.
    slews-done t x st d a.routes a.stride a.chunks a.plans a.first a.values.now a.new.now _ n.result w from lies (omega (arith, n.ensures.0))
    (λ j h b. none-past a.routes (a.first + j) long (n.ensures.2 j h (omega arith)))
    (λ j h. news j (omega (arith, n.ensures.0)) (omega (arith, n.ensures.1)))
    c.put_new.ensures
