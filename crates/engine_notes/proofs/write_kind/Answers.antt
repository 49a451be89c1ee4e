use mathlib.Core.Path.{◌≡◌, refl, ap, ◌∙◌}
use native.Mathlib.Omega.{arith}
use borrow.Author.Rules.{rules}
use Rattle.model.specs.World.{no_mark}
use Rattle.state.specs.declared.SourceMark.{SourceMark}
use Rattle.engine_notes.specs.Noting.{note_kind, held_in}
use Rattle.list.proofs.Elements.{get_or-inside, length-mapped}
use Rattle.engine_notes.proofs.Steps.{held_next}
use Rattle.engine_notes.proofs.write_kind.Goals as goal

pub loop-i-init : goal.loop-i-init
unfolding held_in
loop-i-init c = (omega arith, search (rules, length-mapped), refl, refl, refl)

pub loop-i-preserved : goal.loop-i-preserved
loop-i-preserved c =
    let l = c.loop-i in
    let k = c.kind_of.ensures ∙ ap (λ (x : SourceMark). note_kind x.kind) (get_or-inside c.args.mark l.i _ no_mark (omega arith)) in
    let p = c.place.ensures in
    (omega arith, l.invariant.1, refl, omega arith, held_next c.args.mark c.args.lane l.i _ _ k p c.args.kind c.args.x c.args.held.now l.held _ l.invariant.4 c.put.ensures)

pub returns : goal.returns
returns c =
    let l = c.loop-i in
    let e : l.i ≡ c.args.lane.sources = omega arith in
    l.invariant.4 ∙ rw e
