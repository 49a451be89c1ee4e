use mathlib.Core.Bool.{not}
use Rattle.plan_turning.specs.Turns.{turned}
use mathlib.Core.Path.{◌≡◌, refl, ap, ◌∙◌}
use native.Mathlib.Nat.{le_refl}
use native.Mathlib.Omega.{arith}
use Prim.Native.Nat.{ℕ, ◌<◌}
use lib.ListN.{length}
use Rattle.list.proofs.Elements.{get_or-inside, length-mapped}
use Rattle.state_filled.specs.Filled.{no_plan}
use Rattle.model.specs.Mix.{plan_mix}
use Rattle.model.specs.Tick.{rows_of, own_of, turns}
use Rattle.lane_input.proofs.Tests.{was-true}
use Rattle.plan_turning.proofs.Turned.{sums-of, ticks-of, plan-turned, turns_more}
use borrow.Author.Rules.{rules}
use Rattle.plan_turning.proofs.turns_from.Goals as goal

pub loop-d-init : goal.loop-d-init
loop-d-init c = (search rules, search rules, search rules, search (rules, length-mapped), λ st t m z e. e)

pub returns-then-not-is_turned : goal.returns-then-not-is_turned
returns-then-not-is_turned c = let i = c.loop-d in (i.invariant.0, i.invariant.1, i.invariant.4)

pub turn-requires : goal.turn-requires
turn-requires c =
    let fit = c.is_turned.ensures (was-true refl (ap not c.if-not-is_turned.false)) in
    (c.requires.0, fit.0, fit.1)

pub loop-d-preserved : goal.loop-d-preserved
loop-d-preserved c =
    let a = c.args in
    let i = c.loop-d in
    let near : i.d < a.round.control = omega (arith, c.loop-d-test.true) in
    let there : i.d < length a.plans = omega (arith, i.invariant.3, c.requires.0.control) in
    let fit = c.is_turned.ensures (was-true refl (ap not c.if-not-is_turned.false)) in (
      omega (arith, i.invariant.0),
      omega arith,
      search rules,
      i.invariant.3,
      λ st t m z e.
          let plan = get_or-inside a.plans i.d _ no_plan there in
          let rows = rows_of st i.values in
          let own = own_of st i.values i.d in
          turns_more st t a.round.tick.phase m i.d i.values _ (i.invariant.4 st t m z e)
          (plan-turned st t a.round a.plans a.bases.now a.samples.now a.starts.now a.steps.now a.gains.now a.offsets.now z i.d _ plan fit.0 near a.round.tick.phase i.values _
          (c.turn.ensures t (plan_mix st i.d) rows own (ticks-of st t a.round a.plans a.bases.now a.samples.now a.starts.now a.steps.now a.gains.now a.offsets.now z i.d _ plan fit.0 near) (sums-of st t a.round a.plans a.bases.now a.samples.now a.starts.now a.steps.now a.gains.now a.offsets.now z i.d _ plan fit.0 near rows own)
          ∙ ap (λ (y : ℕ). turned t a.round.tick.phase (plan_mix st i.d) rows own y a.round.field.stride i.values) c.plan_from-from.ensures.0)),
    )

pub returns : goal.returns
returns c =
    let i = c.loop-d in
    let a = c.args in
    let all : i.d ≡ a.round.control = omega arith in
    (omega (arith, i.invariant.0), le_refl a.round.control, λ st t m z e. i.invariant.4 st t m z e ∙ ap (λ (n : ℕ). turns st t a.round.tick.phase n m) all)
