-- `audio_rows::new_row` meets its contract.
use mathlib.Core.Path.{ap}
use mathlib.Core.Bool.{not}
use Rattle.audio_rows.proofs.Numbers.{new-free, new-held}
use Rattle.audio_rows.proofs.new_row.Goals as goal

pub returns-then-not-bounded : goal.returns-then-not-bounded
returns-then-not-bounded c = λ t f s x m.
    let x-is = m.mixes.job.mix in
    let all = c.mix_audio-row.ensures.1 t f s x m in
    (λ o e l h. new-free t f s x o l x-is.min x-is.max (e l h) (all.0 l h) c.bounded.ensures (ap not c.if-not-bounded.true), all.1)

pub returns : goal.returns
returns c = λ t f s x m.
    let x-is = m.mixes.job.mix in
    let all = c.mix_audio-row.ensures.1 t f s x m in (
      λ o e l h.
          new-held t f s x o l x-is.min x-is.max (e l h) (all.0 l h) c.bounded.ensures (ap not c.if-not-bounded.false) (c.whole_plain-whole.ensures t x m.mixes.job) (c.hold_lanes.ensures t m.mixes.job.scene l h),
      all.1,
    )
