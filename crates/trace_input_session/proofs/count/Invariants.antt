-- `trace_input_session::count` meets its contract. The loop's invariant: the words passed and those from p on are all there are. Assumes nothing.
use mathlib.Core.Path.{◌≡◌}
use mathlib.Core.Bool.{false}
use Prim.Native.Nat.{◌+◌, ◌-◌, ◌<◌, ◌≤◌}
use lib.ListN.{length, drop, get_or}
use Rattle.trace_input_session.specs.Lines.{is_blank, words_of}
use Rattle.trace_input_session.proofs.count.Given as goal

abbrev pub invariant-loop-p : goal.invariant-loop-p
invariant-loop-p l = (l.p ≤ length l.line) × (l.n ≤ l.p) × (l.p < length l.line → is_blank (get_or l.line l.p 0) ≡ false) × (l.n + length (words_of (drop l.p l.line)) ≡ length (words_of l.line))

abbrev pub decreases-loop-p : goal.decreases-loop-p
decreases-loop-p l = length l.line - l.p
