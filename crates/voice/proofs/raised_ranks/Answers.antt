use mathlib.Core.Path.{ap, ◌∙◌}
use native.Mathlib.Omega.{arith}
use Rattle.list.proofs.Filled.{filled_none, filled-read, filled_more, filled-all}
use Rattle.config.specs.Sizes.{most_voices}
use Rattle.voice.proofs.Elements.{fill-map}
use Rattle.voice.specs.Voices.{raised}
use borrow.Author.Rules.{rules}
use Rattle.voice.proofs.raised_ranks.Goals as goal

pub loop-x-init : goal.loop-x-init
loop-x-init c = filled_none _ _

pub loop-x-preserved : goal.loop-x-preserved
loop-x-preserved c =
    let f = c.loop-x.invariant in
    filled_more f (c.raised_rank.ensures ∙ ap (raised c.args.limit) (filled-read 0 f))

pub returns : goal.returns
returns c = filled-all c.loop-x.invariant (omega arith) ∙ fill-map (raised c.args.limit) _ 0 most_voices (search rules)
