use mathlib.Core.Path.{refl}
use native.Mathlib.Omega.{arith}
use Rattle.list.proofs.Filled.{filled_none, filled_more, filled-all}
use Rattle.list.specs.Fill.{fill}
use Rattle.config.specs.Sizes.{most_voices}
use Rattle.voice.proofs.first_ranks.Goals as goal

pub loop-k-init : goal.loop-k-init
loop-k-init c = (omega arith, filled_none _ _)

pub loop-k-preserved : goal.loop-k-preserved
loop-k-preserved c = (omega arith, filled_more c.loop-k.invariant.1 refl)

pub returns : goal.returns
unfolding fill
returns c = filled-all {n = most_voices} c.loop-k.invariant.1 (omega arith)
