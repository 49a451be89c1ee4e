-- `audio_rows::audio_plans` meets its contract.
use native.Mathlib.Omega.{arith}
use Rattle.audio_rows.proofs.Chunk.{plans-none, plans-done}
use Rattle.audio_rows.proofs.audio_plans.Goals as goal

pub returns-then-work : goal.returns-then-work
returns-then-work c = let a = c.args in
    λ st e.
    plans-done st a.work e a.held.now a.globals.now a.bases.now a.tables.now a.samples.now a.chunk 0 _ _ (plans-none st a.work e a.held.now a.globals.now a.bases.now a.tables.now a.samples.now a.chunk _) (omega (arith, c.if-work.true))

pub plans_from-requires : goal.plans_from-requires
plans_from-requires c = let p = c.requires in
    let w = c.sweeping_of-sweeping.ensures in
    (p.0, p.1, w.1 _ p.1, w.0)
