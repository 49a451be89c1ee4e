-- `dest::get` meets its contract.
use mathlib.Core.Path.{◌≡◌, sym}
use native.Mathlib.Omega.{arith}
use lib.ListN.{length}
use Rattle.config.specs.Sizes.{most_destinations}
use Rattle.dest.proofs.Search.{length-mapped, get-known, get_none}
use Rattle.dest.proofs.Replies.{get-said}
use borrow.Author.Rules.{rules}
use Rattle.dest.proofs.get.Goals as goal

pub returns-then-id-len : goal.returns-then-id-len
returns-then-id-len c =
    let ds = c.args.dests in
    let e : length ds.entry ≡ most_destinations = search (rules, length-mapped) in
    let said = get-said ds c.args.id _ (sym (get-known ds c.args.id _ e (omega arith))) in
    record { value = said.0; reply = said.1 }

pub returns : goal.returns
returns c =
    let ds = c.args.dests in
    let e : length ds.entry ≡ most_destinations = search (rules, length-mapped) in
    let said = get-said ds c.args.id _ (sym (get_none ds c.args.id e (omega arith))) in
    record { value = said.0; reply = said.1 }
