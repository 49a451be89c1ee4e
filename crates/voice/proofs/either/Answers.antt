use mathlib.Core.Path.{◌∙◌}
use native.Mathlib.Omega.{arith}
use Rattle.list.proofs.Filled.{filled_none, filled-read, filled_more, filled-all}
use mathlib.Core.Bool.{false, ◌||◌}
use Rattle.config.specs.Sizes.{most_voices}
use Rattle.voice.proofs.Elements.{fill-first}
use borrow.Author.Rules.{rules}
use Rattle.voice.proofs.either.Goals as goal

pub loop-v-init : goal.loop-v-init
loop-v-init c = (omega arith, filled_none _ _)

pub loop-v-preserved : goal.loop-v-preserved
loop-v-preserved c =
    let l = c.loop-v in
    (omega arith, filled_more l.invariant.1 (rw (filled-read false l.invariant.1)))

pub returns : goal.returns
returns c =
    let a = c.args in
    filled-all c.loop-v.invariant.1 (omega arith) ∙ fill-first a.marks a.others false false most_voices (search rules) (search rules) ◌||◌
