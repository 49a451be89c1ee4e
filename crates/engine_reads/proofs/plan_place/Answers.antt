-- `engine_reads::plan_place` meets its contract.
use mathlib.Core.Path.{◌≡◌, ◌∙◌}
use lib.Dec.{eqb}
use lib.ListN.{length, take}
use native.Mathlib.Omega.{arith}
use Rattle.std.proofs.Common.{length-take-le, tests}
use Rattle.std.proofs.lemmas.Iterator.{YieldsList-from_slice}
use Rattle.std.proofs.lemmas.Iterator.Search.{position_from_yields_List}
use borrow.Author.Rules.{rules}
use Rattle.config.specs.Sizes.{slots}
use Rattle.list.proofs.Elements.{length-mapped}
use Rattle.list.proofs.Places.{place_is}
use Rattle.state.specs.declared.Plan.{Plan}
use Rattle.model.specs.Outputs.{plan_of}
use Rattle.engine_reads.proofs.Plans.{plan-none, plan-more, plan-most}
use Rattle.engine_reads.proofs.plan_place.Goals as goal

pub returns : goal.returns
returns c =
    let a = c.args in
    let d = a.dest in
    let l = take a.plans a.plan in
    let long : length a.plan ≡ slots = search (rules, length-mapped) in
    let some : length l ≡ a.plans = omega (arith, length-take-le a.plans a.plan) in
    let is = λ (p : Plan). eqb p.dest d in
    let e : c.unwrap_or.result ≡ plan_of d l =
    c.unwrap_or.ensures
    ∙ place_is is l (plan_of d) (plan-none d) (plan-more d) a.plans _ some
    (position_from_yields_List is _ _ _ c.position.ensures.ran (YieldsList-from_slice l cc) (λ x b q k. search (rules, tests))) in
    (e, omega (arith, e, plan-most d l))
