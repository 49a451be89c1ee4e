-- `plan_turning::turns_from` meets its contract. The invariant: the plans before d had their turn.
use Rattle.plan_turning.specs.Turns.{Prepared}
use mathlib.Core.Path.{◌≡◌}
use mathlib.Core.List.{List}
use Prim.Native.Nat.{◌-◌, ◌≤◌}
use lib.ListN.{length}
use lib.Ieee.{Float}
use Rattle.state.specs.declared.State.{State}
use Rattle.model.specs.Env.{Env}
use Rattle.model.specs.Tick.{turns}
use Rattle.plan_turning.proofs.turns_from.Given as goal

abbrev pub invariant-loop-d : goal.invariant-loop-d
invariant-loop-d l = (l.first ≤ l.d) × (l.d ≤ l.round.control) × (length l.values ≡ length l.initial.values) × (length l.plans ≡ 64)
    × ((st : State) (t : Env) (m : List Float) → Prepared st t l.round l.plans l.bases l.samples l.starts l.steps l.gains l.offsets → l.initial.values ≡ turns st t l.round.tick.phase l.first m
    → l.values ≡ turns st t l.round.tick.phase l.d m)

abbrev pub decreases-loop-d : goal.decreases-loop-d
decreases-loop-d l = l.round.control - l.d
