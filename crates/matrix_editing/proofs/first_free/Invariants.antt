-- `matrix_editing::first_free` meets its contract. The loop's invariant: each of the sources passed is in use.
use mathlib.Core.Path.{◌≡◌}
use Prim.Native.Nat.{◌+◌}
use lib.ListN.{drop}
use Rattle.matrix_editing.specs.Free.{first_free}
use Rattle.matrix_editing.proofs.first_free.Given as goal

abbrev pub invariant-loop-lfo : goal.invariant-loop-lfo
invariant-loop-lfo l = first_free l.lfos l.slot ≡ l.lfo-index + first_free (drop l.lfo-index l.lfos) l.slot
