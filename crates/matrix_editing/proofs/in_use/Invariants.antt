-- `matrix_editing::in_use` meets its contract. The loop's invariant: none of the slots passed has the source.
use mathlib.Core.Path.{◌≡◌}
use lib.ListN.{length, drop}
use Rattle.config.specs.Sizes.{slots}
use Rattle.matrix_editing.specs.Free.{in_use}
use Rattle.matrix_editing.proofs.in_use.Given as goal

abbrev pub invariant-loop-s : goal.invariant-loop-s
invariant-loop-s l = (length l.fn.slot ≡ slots) × (in_use l.source l.fn.slot ≡ in_use l.source (drop l.s-index l.fn.slot))
