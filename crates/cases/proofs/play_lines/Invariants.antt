-- `cases::play_lines` is safe and ends. Assumes nothing.
use borrow.Author.Rules.{rules}
use mathlib.Core.Path.{◌≡◌}
use Prim.Native.Nat.{◌-◌}
use lib.ListN.{length}
use Rattle.cases.proofs.play_lines.Given as goal

abbrev pub invariant-loop-at : goal.invariant-loop-at
invariant-loop-at l = (length l.out ≡ length l.initial.out) × (length l.book ≡ length l.initial.book) × (length l.desk ≡ length l.initial.desk) × (length l.values ≡ length l.initial.values) × (length l.audio ≡ length l.initial.audio) × (length l.pool ≡ length l.initial.pool)

abbrev pub decreases-loop-at : goal.decreases-loop-at
decreases-loop-at l = length l.text - l.at
