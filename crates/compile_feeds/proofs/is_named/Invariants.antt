-- `compile_feeds::is_named` meets its contract. The loop's invariant: none of the candidates before names d.
use mathlib.Core.Path.{◌≡◌}
use lib.ListN.{drop}
use Rattle.model.specs.Feeds.{named}
use Rattle.compile_feeds.proofs.is_named.Given as goal

abbrev pub invariant-loop-c : goal.invariant-loop-c
invariant-loop-c l = named (drop l.c-index l.candidates) l.d ≡ named l.candidates l.d
