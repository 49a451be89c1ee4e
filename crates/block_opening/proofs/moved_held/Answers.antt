use mathlib.Core.Path.{◌≡◌, refl, sym, ◌∙◌}
use native.Mathlib.Omega.{arith}
use lib.ListN.{length}
use Rattle.voice.specs.Notes.{gliding}
use Rattle.list.proofs.Elements.{length-mapped}
use Rattle.block_opening.specs.Marks.{passes}
use Rattle.block_opening.proofs.Marks.{moved_none, moved_more, moved-still}
use borrow.Author.Rules.{rules}
use Rattle.block_opening.proofs.moved_held.Goals as goal

pub returns-then-not-is_gliding : goal.returns-then-not-is_gliding
unfolding gliding
returns-then-not-is_gliding c =
    let a = c.args in
    let long : length a.old.glide ≡ 64 = search (rules, length-mapped) in
    sym (moved-still a.mark (passes a.note) a.stride a.sources a.old.glide a.new.value a.held.now a.n (omega (arith, c.requires)) (sym c.is_gliding.ensures ∙ c.if-not-is_gliding.true))

pub loop-v-init : goal.loop-v-init
loop-v-init c =
    let a = c.args in
    let long : length a.old.glide ≡ 64 = search (rules, length-mapped) in
    (search rules, refl, long, search rules, sym (moved_none _ _ _ _ _ _ _))

pub loop-v-preserved : goal.loop-v-preserved
loop-v-preserved c =
    let l = c.loop-v in
    let a = c.args in
    (omega arith, omega arith, l.invariant.2, l.invariant.3, moved_more a.mark (passes a.note) a.stride a.sources _ _ a.held.now l.held _ l.v l.invariant.4 c.put_moved.ensures)

pub returns : goal.returns
returns c =
    let l = c.loop-v in
    let e : l.v ≡ c.args.n = omega arith in
    l.invariant.4 ∙ rw e
