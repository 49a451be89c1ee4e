use mathlib.Core.Path.{◌≡◌, refl, sym, ◌∙◌}
use native.Mathlib.Omega.{arith}
use lib.ListN.{length-set}
use Rattle.block_opening.proofs.Draws.{drawn_of, drawn-none, drawn-more}
use borrow.Author.Rules.{rules}
use Rattle.block_opening.proofs.draw_voices.Goals as goal

pub loop-v-init : goal.loop-v-init
loop-v-init c = (search rules, refl, sym (drawn-none _ _ _))

pub loop-v-preserved : goal.loop-v-preserved
loop-v-preserved c =
    let l = c.loop-v in
    let a = c.args in
    (omega arith, length-set l.values _ _ ∙ l.invariant.1, drawn-more a.renoted a.at (drawn_of a.draw a.values.now) l.last l.values l.v _ _ _ l.invariant.2 refl c.draw_after-next.ensures c.drawn_lane.ensures)

pub returns : goal.returns
returns c =
    let l = c.loop-v in
    let e : l.v ≡ c.args.n = omega arith in
    l.invariant.2 ∙ rw e
