-- `trace_input_session::stop` meets its contract. The loop's invariant: what is passed from `from` on is one word's, and it goes on at i. Assumes nothing.
use mathlib.Core.Path.{◌≡◌}
use mathlib.Core.Bool.{true}
use mathlib.Core.List.{◌++◌}
use Prim.Native.Nat.{◌-◌, ◌≤◌}
use lib.ListN.{length, take, drop}
use Rattle.trace_input_session.specs.Lines.{word_from, words_from}
use Rattle.trace_input_session.proofs.stop.Given as goal

abbrev pub invariant-loop-i : goal.invariant-loop-i
invariant-loop-i l = (l.from ≤ l.i) × (words_from true (drop l.i l.line) ≡ words_from true (drop l.from l.line)) × (take (l.i - l.from) (drop l.from l.line) ++ word_from (drop l.i l.line) ≡ word_from (drop l.from l.line))

abbrev pub decreases-loop-i : goal.decreases-loop-i
decreases-loop-i l = length l.line - l.i
