-- `trace_output_show::feeds` meets its contract. Assumes nothing.
use Rattle.std.proofs.Common.{◌≡◌, ◌≤◌}
use Rattle.trace_output_show.specs.Feeds.{feeds_to}
use Rattle.trace_output_show.proofs.feeds.Given as goal

abbrev pub invariant-loop-b : goal.invariant-loop-b
invariant-loop-b l = (l.n ≤ l.b-index) × (l.n ≡ feeds_to l.s l.b-index)
