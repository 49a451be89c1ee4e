-- `trace_input_session::skip` meets its contract. The loop's invariant: the words from `from` on are those from i on. Assumes nothing.
use mathlib.Core.Path.{◌≡◌}
use Prim.Native.Nat.{◌-◌, ◌≤◌}
use lib.ListN.{length, drop}
use Rattle.trace_input_session.specs.Lines.{words_of}
use Rattle.trace_input_session.proofs.skip.Given as goal

abbrev pub invariant-loop-i : goal.invariant-loop-i
invariant-loop-i l = (l.from ≤ l.i) × (words_of (drop l.i l.line) ≡ words_of (drop l.from l.line))

abbrev pub decreases-loop-i : goal.decreases-loop-i
decreases-loop-i l = length l.line - l.i
