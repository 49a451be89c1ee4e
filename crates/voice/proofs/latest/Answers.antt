use mathlib.Core.Path.{◌≡◌, ◌∙◌}
use native.Mathlib.Omega.{arith}
use Rattle.config.specs.Sizes.{most_voices}
use Rattle.voice.proofs.latest.Goals as goal

pub returns : goal.returns
returns c =
    let e : c.loop-v.v ≡ most_voices = omega arith in
    c.loop-v.invariant.1 ∙ rw e
