-- `engine_notes::write_note` meets its contract.
use lib.Ieee.{of_bits}
use Rattle.engine_notes.specs.Noting.{held_on}
use Rattle.engine_notes.proofs.write_note.Goals as goal

pub returns : goal.returns
unfolding held_on of_bits
returns c = (c.write_randoms-draw.ensures.0, rw (c.write_kind.ensures, c.write_alternates.ensures, c.write_randoms-draw.ensures.1, c.write_value-2.ensures, c.write_value.ensures))
