-- `plan_mix::mix` meets its contract.
use Rattle.plan_sum.proofs.Steps.{tick-of}
use Rattle.plan_mix.proofs.mix.Goals as goal

pub returns : goal.returns
returns c = let k = c.mix_all.ensures in (
  k.0,
  λ t f s x m.
      let z = m.mixes in
      let n = k.2 t f s x z m.works in
      (λ l h. tick-of t f s x l (n.0 l h) (c.tick_begun-row.ensures t f s x z (c.base_in-base.ensures t x z.job z.reads.globals m.bases) l h), n.1),
)
