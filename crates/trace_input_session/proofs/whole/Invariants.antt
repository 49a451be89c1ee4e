-- `trace_input_session::whole` meets its contract. Assumes nothing.
use mathlib.Core.Path.{◌≡◌}
use lib.ListN.{drop}
use Rattle.trace_input_session.specs.Words.{digits_after, whole_of}
use Rattle.trace_input_session.proofs.whole.Given as goal

abbrev pub invariant-loop-b : goal.invariant-loop-b
invariant-loop-b l = digits_after l.value (drop l.b-index l.w) ≡ whole_of l.w
