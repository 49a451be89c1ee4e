-- `dest::new` meets its contract.
use mathlib.Core.Path.{refl}
use lib.Ieee.{of_bits}
use Rattle.dest.specs.Entries.{no_dests, blank_dest}
use Rattle.dest.proofs.new.Goals as goal

pub returns : goal.returns
unfolding no_dests blank_dest of_bits
returns c = refl
