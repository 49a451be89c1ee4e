use mathlib.Core.Path.{sym, ap, ◌∙◌}
use native.Mathlib.Omega.{arith}
use native.Mathlib.Nat.{sub-zero}
use Rattle.feed.specs.Numbers.{first_or}
use Rattle.feed.proofs.Unplaced.{unplaced-taken, unplaced-left, unplaced-end}
use Rattle.feed.proofs.first_unplaced.Goals as goal

pub loop-i-init : goal.loop-i-init
loop-i-init c = (omega arith, rw sub-zero)

pub returns-then-not-placed-i : goal.returns-then-not-placed-i
returns-then-not-placed-i c =
    let s = c.args in
    sym (c.loop-i.invariant.1 ∙ ap (first_or 0) (unplaced-left s.placed.now s.n c.loop-i.i (omega arith) (c.if-not-placed-i.true)))

pub loop-i-preserved : goal.loop-i-preserved
loop-i-preserved c =
    let s = c.args in
    (omega arith, c.loop-i.invariant.1 ∙ ap (first_or 0) (unplaced-taken s.placed.now s.n c.loop-i.i (omega arith) (c.if-not-placed-i.false)))

pub returns : goal.returns
returns c =
    let s = c.args in
    sym (c.loop-i.invariant.1 ∙ ap (first_or 0) (unplaced-end s.placed.now s.n c.loop-i.i (omega arith)))
