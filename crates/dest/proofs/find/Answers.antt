use mathlib.Core.Path.{◌≡◌, sym, ◌∙◌}
use native.Mathlib.Omega.{arith}
use borrow.Author.Rules.{rules}
use lib.ListN.{length}
use Rattle.config.specs.Sizes.{most_destinations}
use Rattle.dest.proofs.Search.{length-mapped, unread, searched-none, searched-here, searched-next, searched-all}
use Rattle.dest.proofs.Replies.{find-said}
use Rattle.dest.proofs.find.Goals as goal

pub loop-i-init : goal.loop-i-init
loop-i-init c = (search rules, searched-none _ _)

pub returns-then-same_target : goal.returns-then-same_target
returns-then-same_target c =
    let l = c.loop-i in
    let ds = c.args.dests in
    let e : length ds.entry ≡ most_destinations = search (rules, length-mapped) in
    let said = find-said ds c.args.target _ (sym (searched-here ds _ l.i unread e l.invariant.1 (omega arith) (sym c.same_target.ensures ∙ c.if-same_target.true))) in
    record { value = said.0; reply = said.1 }

pub loop-i-preserved : goal.loop-i-preserved
loop-i-preserved c =
    let l = c.loop-i in
    let ds = c.args.dests in
    let e : length ds.entry ≡ most_destinations = search (rules, length-mapped) in
    (search rules, searched-next ds _ l.i unread e l.invariant.1 (omega arith) (sym c.same_target.ensures ∙ c.if-same_target.false))

pub returns : goal.returns
returns c =
    let l = c.loop-i in
    let ds = c.args.dests in
    let e : length ds.entry ≡ most_destinations = search (rules, length-mapped) in
    let said = find-said ds c.args.target _ (sym (searched-all ds _ l.i unread e l.invariant.1 (omega arith))) in
    record { value = said.0; reply = said.1 }
