-- `trace_input_session::place` meets its contract. The loop's invariant: word k begins at the place. Assumes nothing.
use mathlib.Core.Path.{◌≡◌}
use mathlib.Core.Bool.{false}
use Prim.Native.Nat.{◌-◌, ◌<◌, ◌≤◌}
use lib.ListN.{length, drop, get_or}
use Rattle.trace_input_session.specs.Lines.{is_blank, words_of}
use Rattle.trace_input_session.proofs.place.Given as goal

abbrev pub invariant-loop-k : goal.invariant-loop-k
invariant-loop-k l = (l.k ≤ l.n) × (l.at ≤ length l.line) × (l.at < length l.line → is_blank (get_or l.line l.at 0) ≡ false) × (words_of (drop l.at l.line) ≡ drop l.k (words_of l.line))

abbrev pub decreases-loop-k : goal.decreases-loop-k
decreases-loop-k l = l.n - l.k
