use mathlib.Core.Path.{◌≡◌, refl, ap, ◌∙◌}
use native.Mathlib.Omega.{arith}
use borrow.Author.Rules.{rules}
use Rattle.list.proofs.Elements.{get_or-inside, length-mapped}
use Rattle.model.specs.World.{no_mark}
use Rattle.state.specs.declared.SourceMark.{SourceMark}
use Rattle.engine_notes.specs.Noting.{note_kind, draws_in, randoms_in}
use Rattle.engine_notes.proofs.Steps.{draws-next, randoms-next}
use Rattle.engine_notes.proofs.write_randoms.Goals as goal

pub loop-i-init : goal.loop-i-init
unfolding draws_in randoms_in
loop-i-init c = (omega arith, search (rules, length-mapped), refl, refl, refl, refl)

pub loop-i-preserved : goal.loop-i-preserved
loop-i-preserved c =
    let l = c.loop-i in
    let k = c.kind_of-on.ensures ∙ ap (λ (x : SourceMark). note_kind x.kind) (get_or-inside c.args.mark l.i _ no_mark (omega arith)) in
    let p = c.place.ensures in
    let d = c.stepped-next.ensures in
    (omega arith, l.invariant.1, refl, omega arith, draws-next c.args.mark c.args.lane l.i _ _ k p c.args.draw l.last _ l.invariant.4 d, randoms-next c.args.mark c.args.lane l.i _ _ k p c.args.draw l.last _ c.args.held.now l.held _ l.invariant.4 d l.invariant.5 c.put_draw.ensures)

pub returns : goal.returns
returns c =
    let l = c.loop-i in
    let e : l.i ≡ c.args.lane.sources = omega arith in
    (l.invariant.4 ∙ rw e, l.invariant.5 ∙ rw e)
