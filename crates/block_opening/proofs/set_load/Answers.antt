use mathlib.Core.Path.{◌≡◌, refl, sym, ◌∙◌}
use native.Mathlib.Omega.{arith}
use lib.ListN.{length-set}
use lib.Ieee.{nan}
use Rattle.block_opening.proofs.Marks.{load-none, load-more}
use borrow.Author.Rules.{rules}
use Rattle.block_opening.proofs.set_load.Goals as goal

pub loop-i-init : goal.loop-i-init
loop-i-init c = (search rules, refl, sym (load-none _ _ _))

pub loop-i-preserved : goal.loop-i-preserved
loop-i-preserved c =
    let l = c.loop-i in
    let a = c.args in
    (omega arith, length-set l.globals l.i _ ∙ l.invariant.1, load-more a.mark a.x a.globals.now l.globals l.i nan _ l.invariant.2 c.load_lane.ensures)

pub returns : goal.returns
returns c =
    let l = c.loop-i in
    let e : l.i ≡ c.args.n = omega arith in
    l.invariant.2 ∙ rw e
