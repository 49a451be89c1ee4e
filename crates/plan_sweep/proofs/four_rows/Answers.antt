use mathlib.Core.Path.{refl, sym}
use Prim.Native.Nat.{ℕ, ◌+◌, ◌*◌, ◌≤◌, ◌<◌}
use native.Mathlib.Nat.{zero-add, mul-le-mul_right}
use native.Mathlib.Omega.{arith}
use lib.ListN.{length}
use Rattle.list.proofs.Rows.{row_inside}
use Rattle.plan_sweep.specs.Sweep.{Within, places_at}
use Rattle.plan_sweep.proofs.Laws.{sooner, rows_none, rows_more, rows_end}
use Rattle.plan_sweep.proofs.Fours.{up_to, places_same, places-inside, four-row-is}
use borrow.Author.Rules.{rules}
use Rattle.plan_sweep.proofs.four_rows.Goals as goal

pub four_of-s-requires : goal.four_of-s-requires
four_of-s-requires c = omega (arith, c.requires.0.starts, c.requires.0.routes, c.requires.1)

pub four_of-t-requires : goal.four_of-t-requires
four_of-t-requires c = omega (arith, c.requires.0.steps, c.requires.0.routes, c.requires.1)

pub levels_of-g-requires : goal.levels_of-g-requires
levels_of-g-requires c = omega (arith, c.requires.0.gains, c.requires.0.routes, c.requires.1)

pub loop-n-init : goal.loop-n-init
loop-n-init c = let a = c.args in
    (search rules, search rules, rows_none a.over a.starts.now a.steps.now a.gains.now a.samples.now a.pass a.frame 0 _)

pub overflow_add-frame : goal.overflow_add-frame
overflow_add-frame c = omega (arith, c.requires.0.frames)

pub places_at-p-requires : goal.places_at-p-requires
places_at-p-requires c =
    let a = c.args in
    let k : ℕ = a.frame + c.loop-n.n in
    let w : Within a.starts.now a.steps.now a.gains.now a.samples.now a.pass (k + 1) = sooner a.starts.now a.steps.now a.gains.now a.samples.now a.pass (omega (arith, c.loop-n-test.true)) c.requires.0 in
    let t = places_at c.four_of-s.result c.four_of-t.result k a.pass.from in
    up_to t _ (length a.samples.now) _ (places-inside a.starts.now a.steps.now a.gains.now a.samples.now a.pass k t w c.requires.1
    (places_same _ _ _ _ k a.pass.from t refl c.four_of-s.ensures c.four_of-t.ensures)) (omega (arith, c.well_formed.1.1.1.1.1.1.0))

pub overflow_mul-n : goal.overflow_mul-n
overflow_mul-n c = let i = c.loop-n in
    let less : i.n ≤ c.args.len = omega (arith, c.loop-n-test.true) in
    omega (arith, c.requires.2, mul-le-mul_right c.args.pass.width less)

pub overflow_add-n : goal.overflow_add-n
overflow_add-n c = let i = c.loop-n in
    let less : i.n < c.args.len = omega (arith, c.loop-n-test.true) in
    omega (arith, c.requires.2, c.requires.0.span, row_inside c.args.pass.width less)

pub four_row-requires : goal.four_row-requires
four_row-requires c =
    let a = c.args in
    let i = c.loop-n in
    let less : i.n < a.len = omega (arith, c.loop-n-test.true) in
    let k : ℕ = a.frame + i.n in
    let w : Within a.starts.now a.steps.now a.gains.now a.samples.now a.pass (k + 1) = sooner a.starts.now a.steps.now a.gains.now a.samples.now a.pass (omega arith) c.requires.0 in (
      places-inside a.starts.now a.steps.now a.gains.now a.samples.now a.pass k _ w c.requires.1
          (places_same _ _ _ _ k a.pass.from _ c.places_at-p.ensures c.four_of-s.ensures c.four_of-t.ensures),
      omega (arith, i.invariant.1, c.requires.2, c.requires.0.span, row_inside a.pass.width less),
    )

pub loop-n-preserved : goal.loop-n-preserved
loop-n-preserved c =
    let a = c.args in
    let i = c.loop-n in (
      omega arith,
      search rules,
      rows_more a.over a.starts.now a.steps.now a.gains.now a.samples.now a.pass a.frame 0 _ _ _ i.n (i.n * a.pass.width) i.invariant.2 (sym (zero-add (i.n * a.pass.width)))
          (four-row-is a.starts.now a.steps.now a.gains.now a.samples.now a.pass (a.frame + i.n) a.over _ _ (i.n * a.pass.width) _ _ _ c.requires.1 c.requires.3 refl
          (places_same _ _ _ _ (a.frame + i.n) a.pass.from _ c.places_at-p.ensures c.four_of-s.ensures c.four_of-t.ensures) c.levels_of-g.ensures c.four_row.ensures),
    )

pub returns : goal.returns
returns c = let a = c.args in
    let i = c.loop-n in
    rows_end a.over a.starts.now a.steps.now a.gains.now a.samples.now a.pass a.frame 0 _ _ i.n _ i.invariant.2 (omega arith)
