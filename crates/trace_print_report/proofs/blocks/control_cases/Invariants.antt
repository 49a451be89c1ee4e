-- `trace_print_report::blocks::control_cases` meets its contract. The loop's invariant: the lines so far are of their chunks.
-- Assumes nothing.
use mathlib.Core.Path.{◌≡◌, refl, sym, ◌∙◌, ap}
use Prim.Native.Nat.{ℕ, ◌-◌, ◌≤◌, ◌<◌}
use native.Mathlib.Omega.{arith}
use lib.ListN.{length, get_or, set, length-set}
use lib.Seq.{get_or-set_same, get_or-set_other}
use borrow.Author.Count.{below_more}
use borrow.Author.Rules.{rules}
use Rattle.config.specs.Sizes.{most_frames, most_chunks}
use Rattle.trace_print_report.proofs.blocks.control_cases.Given as goal

abbrev pub invariant-loop-i : goal.invariant-loop-i
invariant-loop-i l =
    (length l.out ≡ length l.initial.out) × (length l.printed ≡ most_chunks most_frames) × (l.i ≤ l.chunks)
    × ((k : ℕ) → k < l.i → k < most_chunks most_frames → get_or l.printed k 0 ≡ k)

abbrev pub decreases-loop-i : goal.decreases-loop-i
decreases-loop-i l = l.chunks - l.i
