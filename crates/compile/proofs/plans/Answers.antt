-- One plan more.
use mathlib.Core.Path.{◌≡◌, ap, ◌∙◌}
use Prim.Native.Nat.{◌<◌}
use native.Mathlib.Omega.{arith}
use lib.ListN.{length}
use Rattle.config.specs.Sizes.{slots}
use Rattle.state_filled.proofs.Laws.{added-length}
use Rattle.compile.proofs.Planned.{planned-more}
use Rattle.compile.proofs.plans.Goals as goal

pub overflow_add-first : goal.overflow_add-first
overflow_add-first c = omega (arith, c.loop-d.invariant.2, c.route_count-count.ensures.most, c.as_slice-d-items.ensures.fits, c.loop-d.auto.d-index-end)

pub loop-d-preserved : goal.loop-d-preserved
loop-d-preserved c =
    let a = c.args in
    let l = c.loop-d in
    let room : length l.out.items < slots = omega (arith, l.invariant.1, c.loop-d-test.true, c.as_slice-d-items.ensures.fits) in (
      l.invariant.0,
      omega (arith, ap length c.add.ensures, added-length l.out.items c.plan_of.result, l.invariant.1),
      omega (arith, l.invariant.2, c.route_count-count.ensures.most),
      rw (c.add.ensures, c.plan_of.ensures, c.route_count-count.ensures.count, c.dest_at-e.ensures) (planned-more a.sources a.dests a.candidates.now a.readers.now.items c.as_slice-d-items.result.now l.out.items l.d-index l.first room c.loop-d-test.true)
          ∙ l.invariant.3,
    )
