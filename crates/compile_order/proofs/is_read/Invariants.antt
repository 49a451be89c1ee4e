-- `compile_order::is_read` meets its contract. The loop's invariant: none of the readers before is b's and reads a.
use mathlib.Core.Path.{◌≡◌}
use lib.ListN.{drop}
use Rattle.model.specs.Feeds.{any_reads}
use Rattle.compile_order.proofs.is_read.Given as goal

abbrev pub invariant-loop-r : goal.invariant-loop-r
invariant-loop-r l = any_reads l.a l.b (drop l.r-index l.readers) ≡ any_reads l.a l.b l.readers
