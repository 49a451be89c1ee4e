-- `bench::hash::of_all` is safe and ends. Assumes nothing.
use borrow.Author.Rules.{rules}
use Prim.Native.Nat.{◌-◌, ◌≤◌}
use Rattle.bench.proofs.hash.of_all.Given as goal

abbrev pub invariant-loop-d : goal.invariant-loop-d
invariant-loop-d l = (l.d ≤ l.dests)

abbrev pub decreases-loop-d : goal.decreases-loop-d
decreases-loop-d l = l.dests - l.d
