-- `state_registry::dest_place` meets its contract.
use mathlib.Core.Path.{◌≡◌, ap, ◌∙◌}
use lib.ListN.{length, take}
use native.Mathlib.Omega.{arith}
use Rattle.std.proofs.Common.{length-take-le, tests}
use Rattle.std.proofs.lemmas.Iterator.{YieldsList-from_slice}
use Rattle.std.proofs.lemmas.Iterator.Search.{position_from_yields_List}
use borrow.Author.Rules.{rules}
use Rattle.list.proofs.Elements.{length-mapped}
use Rattle.list.proofs.Places.{place_is}
use Rattle.state.specs.declared.Dest.{Dest}
use Rattle.state.specs.Registry.{same_target, target_place}
use Rattle.state_registry.proofs.Search.{place-none, place-more}
use Rattle.state_registry.proofs.dest_place.Goals as goal

pub returns : goal.returns
returns c =
    let t = c.args.target in
    let n = c.dest_count-n.result in
    let l = take n c.args.dests.entry in
    let e : length c.args.dests.entry ≡ 1024 = search (rules, length-mapped) in
    let has = λ (d : Dest). same_target d.target t in
    c.unwrap_or.ensures
    ∙ place_is has l (target_place t) (place-none t) (place-more t) n _ (omega (arith, length-take-le n c.args.dests.entry))
    (position_from_yields_List has _ _ _ c.position.ensures.ran (YieldsList-from_slice l cc) (λ x b q k. search (rules, tests)))
    ∙ ap (λ m. target_place t (take m c.args.dests.entry)) c.dest_count-n.ensures
