-- `bench::work::set_helds` is safe and ends. Assumes nothing.
use borrow.Author.Rules.{rules}
use mathlib.Core.Path.{◌≡◌}
use lib.ListN.{length}
use Prim.Native.Nat.{◌-◌, ◌≤◌}
use Rattle.bench.proofs.work.set_helds.Given as goal

abbrev pub invariant-loop-i : goal.invariant-loop-i
invariant-loop-i l = (l.i ≤ l.calls) × (length l.held ≡ length l.initial.held) × (length l.globals ≡ length l.initial.globals)

abbrev pub decreases-loop-i : goal.decreases-loop-i
decreases-loop-i l = l.calls - l.i
