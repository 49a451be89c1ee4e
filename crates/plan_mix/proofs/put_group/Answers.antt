-- `plan_mix::put_group` meets its contract.
use mathlib.Core.Path.{refl}
use mathlib.Core.Bool.{true}
use Prim.Native.Nat.{◌+◌, ◌≤◌}
use Rattle.model.specs.RouteValue.{raw_in, source_in}
use Rattle.plan_mix.specs.Mixed.{slew_by}
use Rattle.plan_mix.proofs.Laws.{two-apart, two-done, source-by, aux-by, still-none}
use Rattle.plan_mix.proofs.put_group.Goals as goal

pub returns-then-still : goal.returns-then-still
returns-then-still c = (record { long = refl; left = λ p h. refl; below = λ q l h k. refl }, λ t f s own ld wi. still-none c.args.route c.still.ensures c.if-still.true)

pub returns : goal.returns
returns c = let a = c.args in
    let r = a.route in
    let one = c.put_to.ensures in
    let two = c.put_to-2.ensures in
    let most : a.lane + 16 ≤ 64 = c.requires.2 in (
      two-apart a.j a.lane most one two,
      λ t f s own ld wi off.
          two-done a.j a.lane most one two (slew_by t f s a.j r true)
          (λ l h. source-by r.source.table (s a.j 0 (a.lane + l)) (raw_in t f s a.j (a.lane + l) r) (source_in t f s a.j (a.lane + l) r) c.input_free.ensures (c.after-a.ensures s a.j own l h) (ld l h))
          (λ l h. aux-by t f s a.j r r.aux a.lane l a.with h c.aux_free.ensures (c.after-b.ensures s a.j own l h) wi),
    )
