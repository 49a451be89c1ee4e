-- `control_tick::turns_of` meets its contract. The invariant: the plans before d had their turn.
use mathlib.Core.Path.{◌≡◌, sym, ap, ◌∙◌}
use Prim.Native.Nat.{ℕ, ◌-◌, ◌≤◌}
use native.Mathlib.Omega.{arith}
use lib.ListN.{length}
use Rattle.state.specs.declared.State.{State}
use Rattle.model.specs.Env.{Env}
use Rattle.model.specs.Tick.{turns}
use Rattle.plan_slews.specs.declared.Tick.{Tick}
use Rattle.control_tick.specs.Rounds.{Works}
use Rattle.control_tick.proofs.Turned.{turns-none, tick-end}
use Rattle.control_tick.proofs.Rounds.{nearer, ready-is, prepared-is}
use borrow.Author.Rules.{rules}
use Rattle.control_tick.proofs.turns_of.Given as goal

abbrev pub invariant-loop-d : goal.invariant-loop-d
invariant-loop-d l =
    (l.d ≤ l.work.control) × (length l.values ≡ length l.initial.values) × (length l.new ≡ length l.initial.new)
    × ((st : State) (t : Env) → Works st t l.work l.held l.globals l.bases l.tables l.samples → l.values ≡ turns st t l.work.phase l.d l.initial.values)

abbrev pub decreases-loop-d : goal.decreases-loop-d
decreases-loop-d l =
    l.work.control - l.d
