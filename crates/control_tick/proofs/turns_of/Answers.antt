use mathlib.Core.Path.{◌≡◌, sym, ap, ◌∙◌}
use Prim.Native.Nat.{ℕ, ◌-◌, ◌≤◌}
use native.Mathlib.Omega.{arith}
use lib.ListN.{length}
use Rattle.state.specs.declared.State.{State}
use Rattle.model.specs.Env.{Env}
use Rattle.model.specs.Tick.{turns}
use Rattle.plan_slews.specs.declared.Tick.{Tick}
use Rattle.control_tick.specs.Rounds.{Works}
use Rattle.control_tick.proofs.Turned.{turns-none, tick-end}
use Rattle.control_tick.proofs.Rounds.{nearer, ready-is, prepared-is}
use borrow.Author.Rules.{rules}
use Rattle.control_tick.proofs.turns_of.Goals as goal

pub loop-d-init : goal.loop-d-init
loop-d-init c =
    (search rules, search rules, search rules, λ st t k. turns-none st t _ _)

pub turns-k-requires : goal.turns-k-requires
turns-k-requires c =
    let round = c.round_of-round in (
      ready-is c.args.work round.result c.args.samples.now c.leads_of-leads.result round.ensures c.leads_of-leads.ensures c.requires.0,
      c.bases_of-own.ensures.0,
      omega (arith, round.ensures.control, c.loop-d.invariant.0),
    )

pub turn_at-next-requires : goal.turn_at-next-requires
turn_at-next-requires c =
    let i = c.loop-d in
    (c.requires.0, omega (arith, c.round_of-round.ensures.control, c.turns-k.ensures.1), i.invariant.2 ∙ c.requires.1)

pub loop-d-smaller : goal.loop-d-smaller
loop-d-smaller c =
    nearer c.args.work.control c.loop-d.d c.turns-k.result c.turn_at-next.result c.loop-d-test.true c.turns-k.ensures.0 c.turn_at-next.ensures.0 c.turn_at-next.ensures.1 c.turn_at-next.ensures.2

pub loop-d-preserved : goal.loop-d-preserved
loop-d-preserved c =
    let a = c.args in
    let w = a.work in
    let i = c.loop-d in
    let round = c.round_of-round in
    let leads = c.leads_of-leads in
    let own = c.bases_of-own in
    let turned = c.turns-k in
    let next = c.turn_at-next in
    let phase : round.result.tick.phase ≡ w.phase = ap (λ (y : Tick). y.phase) round.ensures.tick in (
      next.ensures.1,
      search rules,
      search rules,
      λ st t k.
          let made =
          prepared-is w round.result a.samples.now leads.result round.ensures leads.ensures st t a.held.now a.globals.now a.bases.now a.tables.now own.result k own.ensures.1 c.requires.0 in
          let swept = turned.ensures.2 st t a.values.now made (i.invariant.3 st t k ∙ ap (λ (y : ℕ). turns st t y i.d a.values.now) (sym phase)) in
          next.ensures.3 st t a.values.now k (swept ∙ ap (λ (y : ℕ). turns st t y turned.result a.values.now) phase),
    )

pub returns : goal.returns
returns c =
    let a = c.args in
    let i = c.loop-d in
    λ st t k. tick-end st t a.work.phase a.values.now i.d a.work.control i.values (i.invariant.3 st t k) (omega (arith, c.loop-d-test.false)) k.0.control
