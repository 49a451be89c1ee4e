-- `plan_mix::mix_audio` meets its contract.
use Rattle.plan_sum.proofs.Steps.{audio-of}
use Rattle.model.specs.Counts.{at}
use Rattle.plan_mix.proofs.mix_audio.Goals as goal

pub returns : goal.returns
returns c = let k = c.mix_frame.ensures in (
  k.0,
  λ t f s x m.
      let z = m.mixes in
      let n = k.2 t f s x z m.works in
      (λ l h. audio-of t f s x (at c.args.old l) l (n.0 l h) (c.audio_begun-row.ensures t f s x z (c.base_in-base.ensures t x z.job z.reads.globals m.bases) l h), n.1),
)
