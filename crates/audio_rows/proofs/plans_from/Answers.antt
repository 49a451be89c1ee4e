use mathlib.Core.Path.{sym}
use Prim.Native.Nat.{◌+◌}
use native.Mathlib.Omega.{arith}
use Rattle.audio_rows.specs.Rows.{sounds}
use Rattle.audio_rows.proofs.Chunk.{plans-none, plans-more, plans-done}
use Rattle.audio_rows.proofs.Sweeps.{ready-less}
use borrow.Author.Rules.{rules}
use Rattle.audio_rows.proofs.plans_from.Goals as goal

pub loop-k-init : goal.loop-k-init
loop-k-init c = (search rules, search rules, search rules, λ st e. plans-none st _ e _ _ _ _ _ _ _)

pub sweep_from-m-requires : goal.sweep_from-m-requires
sweep_from-m-requires c = let a = c.args in
    let z = a.sweeping in
    let i = c.loop-k in (
      ready-less z.field a.chunk (z.control + z.count) (z.control + z.count) _ _ a.samples.now z.leads.starts z.leads.steps z.leads.gains z.leads.offsets (omega arith) (sym i.invariant.2) c.requires.2,
      i.invariant.0,
    )

pub returns-then-count-m : goal.returns-then-count-m
returns-then-count-m c = let a = c.args in
    let i = c.loop-k in
    let w = c.sweep_from-m in
    λ st e.
    plans-done st a.work e a.held.now a.globals.now a.bases.now a.tables.now a.samples.now a.chunk w.result _ _
    (w.ensures.2 st a.work a.held.now a.tables.now i.values (sounds a.values.now a.audio.now) e c.requires.3 (i.invariant.3 st e)) (omega (arith, w.ensures.1, c.if-count-m.true, c.requires.3.0))

pub overflow_add-d : goal.overflow_add-d
overflow_add-d c = omega (arith, c.requires.0.plans, c.requires.0.control, c.if-count-m.false, c.requires.3.0)

pub plan_frames-requires : goal.plan_frames-requires
plan_frames-requires c = let i = c.loop-k in
    (c.requires.0, omega (arith, c.requires.0.control, c.if-count-m.false, c.requires.3.0), search rules)

pub overflow_add-k : goal.overflow_add-k
overflow_add-k c = omega (arith, c.requires.0.plans, c.requires.0.control, c.if-count-m.false, c.requires.3.0)

pub loop-k-smaller : goal.loop-k-smaller
loop-k-smaller c = omega (arith, c.loop-k-test.true, c.if-count-m.false, c.sweep_from-m.ensures.0)

pub loop-k-preserved : goal.loop-k-preserved
loop-k-preserved c = let a = c.args in
    let i = c.loop-k in
    let w = c.sweep_from-m in (
      omega (arith, c.if-count-m.false),
      search rules,
      search rules,
      λ st e.
          plans-more st a.work e a.held.now a.globals.now a.bases.now a.tables.now a.samples.now a.chunk w.result (sounds a.values.now a.audio.now) _ _
          (w.ensures.2 st a.work a.held.now a.tables.now i.values (sounds a.values.now a.audio.now) e c.requires.3 (i.invariant.3 st e)) (c.plan_frames.ensures st e),
    )

pub returns : goal.returns
returns c = let l = c.loop-k in
    λ st e. plans-done st _ e _ _ _ _ _ _ l.k _ _ (l.invariant.3 st e) (omega (arith, c.requires.3.0))
