-- `curve_table::seconds_of` meets its contract.
use mathlib.Core.Path.{sym, ap}
use lib.Ieee.{of_bits}
use Rattle.curve_table.specs.Curve.{seconds_of}
use Rattle.curve_table.proofs.seconds_of.Goals as goal

pub returns-in-Linear : goal.returns-in-Linear
unfolding seconds_of of_bits
returns-in-Linear c = sym (ap seconds_of c.in-Linear.is)

pub returns-in-Table : goal.returns-in-Table
unfolding seconds_of of_bits
returns-in-Table c =
    rw (c.max.ensures, c.max-in-Table.ensures, c.in-Table.is)
