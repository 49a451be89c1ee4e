use mathlib.Core.Path.{refl, sym, ◌∙◌}
use native.Mathlib.Omega.{arith}
use Rattle.plan_mix.proofs.Voices.{voiced-none, voiced-more, voiced-done}
use borrow.Author.Rules.{rules}
use Rattle.plan_mix.proofs.mix_voice.Goals as goal

pub loop-g-init : goal.loop-g-init
loop-g-init c = (omega arith, refl, c.marks_of-groups.ensures.1, search rules, search rules, search rules, search rules, c.input_place-source.ensures.0, c.aux_place-with.ensures.0, voiced-none _ _ _ _ _ _ _ _ _ _ _ _ _ _ _, search rules, search rules)

pub bounds-groups-g : goal.bounds-groups-g
bounds-groups-g c = let i = c.loop-g in omega (arith, i.invariant.1, i.invariant.2, i.invariant.3.sized.stride)

pub overflow_mul-g : goal.overflow_mul-g
overflow_mul-g c = let i = c.loop-g in omega (arith, i.invariant.1, i.invariant.3.sized.stride)

pub mix_group-requires : goal.mix_group-requires
mix_group-requires c = let i = c.loop-g in (i.invariant.3, i.invariant.4, omega (arith, i.invariant.1), i.invariant.5, i.invariant.6, i.invariant.7, i.invariant.8)

pub loop-g-preserved : goal.loop-g-preserved
loop-g-preserved c = let k = c.mix_group in
    let i = c.loop-g in (
      omega arith,
      i.invariant.1,
      i.invariant.2,
      i.invariant.3,
      i.invariant.4,
      k.ensures.0.long ∙ i.invariant.5,
      k.ensures.1.long ∙ i.invariant.6,
      i.invariant.7,
      i.invariant.8,
      voiced-more _ _ _ _ _ _ _ _ _ _ _ _ _ i.g _ _ _ _ _ _ _ refl i.invariant.9 k.ensures.0 k.ensures.1 k.ensures.2,
      i.invariant.10,
      i.invariant.11,
    )

pub shape_of-new : goal.shape_of-new
shape_of-new c = c.loop-g.invariant.5 ∙ sym c.loop-g.invariant.10

pub shape_of-sums : goal.shape_of-sums
shape_of-sums c = c.loop-g.invariant.6 ∙ sym c.loop-g.invariant.11

pub returns : goal.returns
returns c = let i = c.loop-g in (
  i.invariant.5,
  i.invariant.6,
  i.invariant.9.left,
  λ t f s re vo w l h.
      voiced-done i.invariant.9 c.marks_of-groups.ensures.0 t f s re.snap re.fresh vo w
      (c.input_place-source.ensures.1 t f s _ _ (record { reads = w.reads; own = w.own; part = w.source }))
      (c.aux_place-with.ensures.1 t f s _ _ _ _ refl w) l (omega (arith, i.invariant.1)) (re.groups l (omega (arith, i.invariant.3.sized.stride))),
)
