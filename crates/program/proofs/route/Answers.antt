-- `program::route` meets its contract.
use mathlib.Core.Path.{◌≡◌, ap}
use native.Mathlib.Omega.{arith}
use borrow.Author.Tests.{lt-ltb, le-ltb}
use Prim.Native.Nat.{◌≤◌, ◌<◌, min}
use lib.ListN.{length}
use Rattle.config.specs.Sizes.{slots}
use Rattle.state_filled.specs.Filled.{no_route}
use Rattle.std.specs.Prelude.{Some, None}
use Rattle.list.proofs.Elements.{get_or-inside, length-mapped}
use Rattle.program.specs.Readers.{route_at, route_count}
use Rattle.program.proofs.Replies.{route-said}
use borrow.Author.Rules.{rules}
use Rattle.program.proofs.route.Goals as goal

pub returns-then-held-i : goal.returns-then-held-i
unfolding route_at route_count
returns-then-held-i c =
    let a = c.args in
    let past : min a.program.routes slots ≤ a.i = omega (arith, c.held.ensures, c.if-held-i.true) in
    let said = route-said a.program a.i None (rw (le-ltb _ _ past)) in
    record { value = said.0; reply = said.1 }

pub returns : goal.returns
unfolding route_at route_count
returns c =
    let a = c.args in
    let inside : a.i < min a.program.routes slots = omega (arith, c.held.ensures, c.if-held-i.false) in
    let long : length a.program.route ≡ slots = search (rules, length-mapped) in
    let said = route-said a.program a.i _ (rw (lt-ltb _ _ inside) (ap Some (get_or-inside a.program.route a.i _ no_route (omega arith)))) in
    record { value = said.0; reply = said.1 }
