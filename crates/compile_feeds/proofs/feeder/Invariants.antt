-- `compile_feeds::feeder` meets its contract. The loop's invariant: the last feeder is the one found, or one of those left.
use mathlib.Core.Path.{◌≡◌}
use lib.ListN.{drop}
use Rattle.model.specs.Feeds.{last_feeder, feeder_in}
use Rattle.compile_feeds.proofs.feeder.Given as goal

abbrev pub invariant-loop-u : goal.invariant-loop-u
invariant-loop-u l = last_feeder l.thing l.found (drop l.u-index l.used) ≡ feeder_in l.used l.thing
