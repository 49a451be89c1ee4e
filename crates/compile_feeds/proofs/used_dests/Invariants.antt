-- `compile_feeds::used_dests` meets its contract. The loop's invariant: `out` has those in use below d.
use mathlib.Core.Path.{◌≡◌}
use mathlib.Core.List.{map}
use Rattle.model.specs.Feeds.{named}
use Rattle.compile_feeds.proofs.Using.{used_by, up_to}
use Rattle.compile_feeds.proofs.used_dests.Given as goal

abbrev pub invariant-loop-d : goal.invariant-loop-d
invariant-loop-d l = l.out.items ≡ map (used_by l.sources l.dests l.candidates.items) (up_to (named l.candidates.items) l.d)
