-- `plan_mix::mix_group` meets its contract.
use mathlib.Core.Path.{refl, ap, ◌∙◌}
use native.Mathlib.Omega.{arith}
use Rattle.number.specs.Number.{plus}
use Rattle.lanes16.specs.Told.{Snaps}
use Rattle.plan_mix.proofs.mix_group.Goals as goal

pub returns-then-not-on : goal.returns-then-not-on
returns-then-not-on c = let a = c.args in
    let off = c.if-not-on.true in
    let k = c.keep_group.ensures in (
      k.0,
      record { long = refl; left = λ l h. refl; rest = λ l h. refl },
      λ t f s n e v w d x. (rw off (k.1 t f s w.own), λ l h. rw off),
    )

pub put_group-requires : goal.put_group-requires
put_group-requires c = let p = c.requires in (p.0, p.1, omega (arith, p.2, p.0.sized.stride), p.3)

pub add_to-requires : goal.add_to-requires
add_to-requires c = let p = c.requires in omega (arith, p.2, p.0.sized.stride, p.4)

pub returns : goal.returns
returns c = let a = c.args in
    let on = c.if-not-on.false in
    let pg = c.put_group.ensures in
    let add = c.add_to.ensures in (
      pg.0,
      record { long = add.long; left = add.left; rest = add.rest },
      λ t f s n e v w d x.
          let sn : Snaps t a.route.voice a.lane c.snap_lanes-snaps.result = rw v (c.snap_lanes-snaps.ensures t n e) in
          let ld = c.source_lanes-a.ensures t f s a.j w d sn in
          let wi = c.aux_lanes-b.ensures t f s a.j a.route refl refl w x sn in (
            rw on (pg.1 t f s w.own ld wi),
            λ l h. rw on (add.done l h ∙ ap (plus _) (c.value_lanes-v.ensures t f s a.j w.reads.stride w.reads.rows w.amount w.output ld wi l h)),
          ),
    )
