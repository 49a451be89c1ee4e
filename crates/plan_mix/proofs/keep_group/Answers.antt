-- `plan_mix::keep_group` meets its contract.
use mathlib.Core.Path.{refl, ◌∙◌}
use mathlib.Core.Bool.{false}
use Prim.Native.Nat.{◌+◌, ◌≤◌}
use native.Mathlib.Omega.{arith}
use Rattle.plan_mix.specs.Mixed.{slew_by}
use Rattle.plan_mix.proofs.Laws.{two-apart, two-done, kept_by, still-none}
use Rattle.plan_mix.proofs.keep_group.Goals as goal

pub returns-then-still : goal.returns-then-still
returns-then-still c = (record { long = refl; left = λ p h. refl; below = λ q l h k. refl }, λ t f s own. still-none c.args.route c.still.ensures c.if-still.true)

pub returns : goal.returns
returns c = let a = c.args in
    let src = c.own_lanes-source in
    let aux = c.own_lanes-with in
    let one = c.put_to.ensures in
    let two = c.put_to-2.ensures in
    let most : a.lane + 16 ≤ 64 = c.requires.2 in (
      two-apart a.j a.lane most one two,
      λ t f s own off.
          two-done a.j a.lane most one two (slew_by t f s a.j a.route false)
          (λ l h. src.ensures s a.j own l h ∙ kept_by t f s a.j a.route 0 (a.lane + l) (omega arith))
          (λ l h. aux.ensures s a.j own l h ∙ kept_by t f s a.j a.route 1 (a.lane + l) (omega arith)),
    )
