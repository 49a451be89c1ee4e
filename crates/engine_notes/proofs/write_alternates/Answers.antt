use mathlib.Core.Path.{◌≡◌, refl, ap, ◌∙◌}
use mathlib.Core.Bool.{cond}
use native.Mathlib.Omega.{arith}
use borrow.Author.Rules.{rules}
use lib.ListN.{set}
use lib.Dec.{leb}
use lib.Ieee.{Float}
use Rattle.list.proofs.Elements.{get_or-inside, length-mapped}
use Rattle.model.specs.World.{no_mark}
use Rattle.state.specs.declared.SourceMark.{SourceMark}
use Rattle.engine_notes.specs.Noting.{note_kind, alternates_in}
use Rattle.engine_notes.proofs.Steps.{alternates-next}
use Rattle.engine_notes.proofs.write_alternates.Goals as goal

pub loop-i-init : goal.loop-i-init
unfolding alternates_in
loop-i-init c = (omega arith, search (rules, length-mapped), refl, refl, refl)

pub loop-i-preserved : goal.loop-i-preserved
loop-i-preserved c =
    let l = c.loop-i in
    let k = c.kind_of-kind.ensures ∙ ap (λ (x : SourceMark). note_kind x.kind) (get_or-inside c.args.mark l.i _ no_mark (omega arith)) in
    let p = c.place.ensures in
    let w = c.put.ensures ∙ ap (λ (x : Float). cond (leb 5 c.kind_of-kind.result) (set l.held c.place.result x) l.held) c.alternate_by.ensures in
    (omega arith, l.invariant.1, refl, omega arith, alternates-next c.args.mark c.args.lane l.i _ _ k p c.args.on c.args.held.now l.held _ l.invariant.4 w)

pub returns : goal.returns
returns c =
    let l = c.loop-i in
    let e : l.i ≡ c.args.lane.sources = omega arith in
    l.invariant.4 ∙ rw e
