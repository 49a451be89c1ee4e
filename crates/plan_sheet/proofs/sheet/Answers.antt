use mathlib.Core.Path.{ap}
use mathlib.Core.Bool.{not}
use mathlib.Core.Path.{refl, sym, ◌∙◌}
use Prim.Native.Nat.{◌<◌}
use native.Mathlib.Omega.{arith}
use lib.ListN.{length}
use Rattle.list.proofs.Elements.{get_or-inside, length-mapped}
use Rattle.state_filled.specs.Filled.{no_plan}
use Rattle.lane_input.proofs.Tests.{was-true}
use Rattle.plan_sweep.proofs.Kept.{never}
use Rattle.plan_sheet.proofs.Sheets.{sheet-more, sheet-none, sheet-all}
use borrow.Author.Rules.{rules}
use Rattle.plan_sheet.proofs.sheet.Goals as goal

pub loop-d-init : goal.loop-d-init
loop-d-init c =
    (omega arith, search (rules, length-mapped), let p = c.requires in sheet-none _ _ _ _ _ _ _ _ _ p.1 p.2)

pub offset_bounds-plans-d : goal.offset_bounds-plans-d
offset_bounds-plans-d c =
    omega (arith, c.loop-d.invariant.0, c.loop-d-test.true, c.requires.0)

pub bounds-plans-d : goal.bounds-plans-d
bounds-plans-d c =
    omega (arith, c.loop-d.invariant.0, c.loop-d.invariant.1, c.loop-d-test.true, c.requires.0)

pub is_swept-requires : goal.is_swept-requires
is_swept-requires c =
    c.requires.3

pub shape_of-numbers-then-not-is_swept : goal.shape_of-numbers-then-not-is_swept
shape_of-numbers-then-not-is_swept c =
    c.loop-d.invariant.2.numbers ∙ sym c.requires.1

pub shape_of-words-then-not-is_swept : goal.shape_of-words-then-not-is_swept
shape_of-words-then-not-is_swept c =
    c.loop-d.invariant.2.words ∙ sym c.requires.2

pub returns-then-not-is_swept : goal.returns-then-not-is_swept
returns-then-not-is_swept c = λ h. never h

pub offset_sum-offset-requires : goal.offset_sum-offset-requires
offset_sum-offset-requires c =
    let y = c.is_swept.ensures (was-true refl (ap not c.if-not-is_swept.false)) in
    omega (arith, y.routes, c.requires.4)

pub put_plan-requires : goal.put_plan-requires
put_plan-requires c =
    (omega (arith, c.loop-d-test.true, c.requires.0), c.loop-d.invariant.2.numbers, c.loop-d.invariant.2.words)

pub loop-d-smaller : goal.loop-d-smaller
loop-d-smaller c =
    omega (arith, c.loop-d-test.true)

pub loop-d-preserved : goal.loop-d-preserved
loop-d-preserved c =
    let a = c.args in
    let i = c.loop-d in
    let here = c.loop-d-test.true in
    let near : i.d < length a.plans = omega (arith, here, i.invariant.1, c.requires.0) in
    let swept = c.is_swept.ensures (was-true refl (ap not c.if-not-is_swept.false)) in
    let put = c.put_plan.ensures in (
      omega (arith, here),
      i.invariant.1,
      sheet-more a.field a.steps.now a.offsets.now a.levels a.globals.now a.bases.now a.plans i.d i.numbers _ i.words _ _ _ _ (omega (arith, here, c.requires.0)) (get_or-inside a.plans i.d _ no_plan near) swept c.base_by-base.ensures c.offset_sum-offset.ensures put.0 put.1 i.invariant.2,
    )

pub shape_of-numbers : goal.shape_of-numbers
shape_of-numbers c =
    c.loop-d.invariant.2.numbers ∙ sym c.requires.1

pub shape_of-words : goal.shape_of-words
shape_of-words c =
    c.loop-d.invariant.2.words ∙ sym c.requires.2

pub returns : goal.returns
returns c =
    λ h. let i = c.loop-d in sheet-all _ _ _ _ _ _ _ i.d _ _ _ (omega (arith, i.invariant.0, c.loop-d-test.false)) i.invariant.2
