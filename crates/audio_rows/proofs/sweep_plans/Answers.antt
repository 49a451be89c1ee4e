use mathlib.Core.Bool.{not}
use mathlib.Core.Path.{◌≡◌, refl, sym, ap, ap₂, ◌∙◌}
use native.Mathlib.Nat.{le_refl}
use Prim.Native.Nat.{ℕ, ◌+◌, ◌<◌}
use native.Mathlib.Omega.{arith}
use lib.ListN.{length}
use Rattle.list.proofs.Elements.{get_or-inside, length-mapped}
use Rattle.state_filled.specs.Filled.{no_plan}
use Rattle.lane_input.proofs.Tests.{was-true}
use Rattle.plan_sweep.specs.declared.Pass.{Pass}
use Rattle.plan_sweep.specs.Sweep.{swept_rows}
use Rattle.audio_rows.proofs.Sweeps.{within, plans-swept, ready-less, rows-room}
use borrow.Author.Rules.{rules}
use Rattle.audio_rows.proofs.sweep_plans.Goals as goal

pub loop-k-init : goal.loop-k-init
loop-k-init c = (search rules, c.requires.1, search rules, search (rules, length-mapped), λ st w h b v m i z e. e)

pub overflow_add-d : goal.overflow_add-d
overflow_add-d c = omega (arith, c.requires.0.plans)

pub offset_bounds-plans-d : goal.offset_bounds-plans-d
offset_bounds-plans-d c = omega (arith, c.requires.0.plans)

pub bounds-plans-d : goal.bounds-plans-d
bounds-plans-d c = omega (arith, c.requires.0.plans, c.loop-k.invariant.3)

pub is_swept-requires : goal.is_swept-requires
is_swept-requires c = c.requires.0.steps

pub returns-then-not-is_swept : goal.returns-then-not-is_swept
returns-then-not-is_swept c = let i = c.loop-k in (i.invariant.0, i.invariant.1, i.invariant.4)

pub pass_of-pass-requires : goal.pass_of-pass-requires
pass_of-pass-requires c = omega (arith, c.requires.0.offsets, (c.is_swept.ensures (was-true refl (ap not c.if-not-is_swept.false))).routes)

pub audio_at-a-requires : goal.audio_at-a-requires
audio_at-a-requires c = let z = c.requires.0 in
    (z.stride, z.frames, omega (arith, z.plans, c.loop-k-test.true), z.stride, omega (arith, z.end, z.frames))

pub sweep_plan-requires : goal.sweep_plan-requires
sweep_plan-requires c = let a = c.args in
    let i = c.loop-k in
    let pass = c.pass_of-pass.ensures in
    let ready = ready-less a.field a.chunk (a.control + a.count) (a.control + i.k + 1) (length a.audio.now) (length i.audio) a.samples.now a.starts.now a.steps.now a.gains.now a.offsets.now (omega (arith, c.loop-k-test.true)) (sym i.invariant.2) c.requires.0 in (
      within a.field a.chunk (a.control + i.k) (length i.audio) a.samples.now a.starts.now a.steps.now a.gains.now a.offsets.now _ _ pass ready (c.is_swept.ensures (was-true refl (ap not c.if-not-is_swept.false))),
      rows-room a.field a.chunk (a.control + i.k) (length i.audio) _ _ a.samples.now a.starts.now a.steps.now a.gains.now a.offsets.now c.audio_at-a.ensures.0 (ap (λ (z : Pass). z.width) pass) ready,
    )

pub loop-k-smaller : goal.loop-k-smaller
loop-k-smaller c = omega (arith, c.loop-k-test.true)

pub loop-k-preserved : goal.loop-k-preserved
loop-k-preserved c = let a = c.args in
    let i = c.loop-k in
    let near : a.control + i.k < length a.plans = omega (arith, i.invariant.3, c.requires.0.plans, c.loop-k-test.true) in (
      omega (arith, i.invariant.0),
      omega (arith, c.loop-k-test.true),
      search rules,
      i.invariant.3,
      λ st w h b v m e z d.
          plans-swept st w e h a.globals.now a.bases.now b a.samples.now a.chunk a.field a.plans a.control a.levels a.starts.now a.steps.now a.gains.now a.offsets.now z i.k _
          (get_or-inside a.plans (a.control + i.k) _ no_plan near) (c.is_swept.ensures (was-true refl (ap not c.if-not-is_swept.false))) m v i.audio _ (i.invariant.4 st w h b v m e z d)
          (c.sweep_plan.ensures
          ∙ ap₂ (λ (z : Pass) (n : ℕ). swept_rows a.starts.now a.steps.now a.gains.now a.samples.now z n a.chunk.start a.chunk.len i.audio) c.pass_of-pass.ensures c.audio_at-a.ensures.0),
    )

pub returns : goal.returns
returns c = let i = c.loop-k in
    let e : c.args.count ≡ i.k = omega arith in
    rw e (i.invariant.0, le_refl i.k, i.invariant.4)
