-- `compile_feeds::hears_audio` meets its contract. The loop's invariant: none of the candidates before hears.
use mathlib.Core.Path.{◌≡◌}
use lib.ListN.{drop}
use Rattle.model.specs.Feeds.{hears_audio}
use Rattle.compile_feeds.proofs.hears_audio.Given as goal

abbrev pub invariant-loop-c : goal.invariant-loop-c
invariant-loop-c l = hears_audio l.sources (drop l.c-index l.candidates) l.d ≡ hears_audio l.sources l.candidates l.d
