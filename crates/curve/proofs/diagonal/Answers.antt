use mathlib.Core.Path.{refl, ◌∙◌}
use native.Mathlib.Omega.{arith}
use borrow.Author.Rules.{rules}
use lib.Dec.{le→leb}
use lib.ListN.{length-set}
use lib.Ieee.{in_float, of_bits}
use Rattle.curve_table.specs.Table.{diagonal_at}
use Rattle.curve.specs.CurveCalls.{diagonal_table}
use Rattle.curve_table.proofs.Stored.{stored, all-stored}
use Rattle.curve.proofs.diagonal.Goals as goal

pub loop-i-init : goal.loop-i-init
loop-i-init c = (search rules, refl, λ k h. absurd (omega arith))

pub int_to_float-points : goal.int_to_float-points
unfolding in_float
int_to_float-points c = le→leb c.loop-i.i 16777216 (omega arith)

pub loop-i-preserved : goal.loop-i-preserved
unfolding of_bits
loop-i-preserved c =
    let l = c.loop-i in
    (search rules, length-set l.points l.i (diagonal_at l.i) ∙ l.invariant.1, stored diagonal_at l.points l.i (omega arith) l.invariant.2)

pub returns : goal.returns
unfolding diagonal_table
returns c =
    let l = c.loop-i in
    all-stored diagonal_at l.points l.invariant.1 (λ k h. l.invariant.2 k (omega arith))
