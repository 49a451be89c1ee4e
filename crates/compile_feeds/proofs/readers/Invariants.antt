-- `compile_feeds::readers` meets its contract. The loop's invariant: `out` and the readers of those left are all.
use mathlib.Core.Path.{◌≡◌}
use mathlib.Core.List.{◌++◌, map}
use Prim.Native.Nat.{◌≤◌}
use lib.ListN.{drop, length}
use Rattle.model.specs.Feeds.{feeder_in, reader_by}
use Rattle.compile_feeds.proofs.readers.Given as goal

abbrev pub invariant-loop-c : goal.invariant-loop-c
invariant-loop-c l = (l.out.items ++ map (reader_by (feeder_in l.used)) (drop l.c-index l.c-items) ≡ map (reader_by (feeder_in l.used)) l.candidates.items)
    × (length l.out.items ≤ l.c-index) × (l.c-items ≡ l.candidates.items)
