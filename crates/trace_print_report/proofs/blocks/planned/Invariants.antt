-- `trace_print_report::blocks::planned` meets its contract. The loop's invariant: the destinations passed are the order's,
-- and after them there is none. Assumes nothing.
use mathlib.Core.Path.{◌≡◌, refl, sym, ◌∙◌}
use Prim.Native.Nat.{ℕ, ◌-◌, ◌≤◌, ◌<◌}
use native.Mathlib.Omega.{arith}
use lib.ListN.{length, get_or, length-set, get_or-replicate}
use lib.Seq.{get_or-set_other}
use borrow.Author.Rules.{rules}
use Rattle.config.specs.Sizes.{slots}
use Rattle.trace_print_order.specs.Order.{none, placed}
use Rattle.trace_print_order.proofs.Laws.{placed-more, whole-order}
use Rattle.trace_print_report.proofs.blocks.planned.Given as goal

abbrev pub invariant-loop-k : goal.invariant-loop-k
invariant-loop-k l =
    (l.k ≤ slots) × (length l.out ≡ length l.initial.out) × (length l.printed ≡ slots)
    × ((j : ℕ) → j < l.k → get_or l.printed j 0 ≡ placed l.dests j)
    × ((j : ℕ) → l.k ≤ j → j < slots → get_or l.printed j 0 ≡ none)

abbrev pub decreases-loop-k : goal.decreases-loop-k
decreases-loop-k l = slots - l.k
