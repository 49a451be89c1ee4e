-- `source::held_info` meets its contract. Assumes nothing.
use mathlib.Core.Path.{ap, ◌∙◌}
use Rattle.source.specs.Info.{info_voice}
use Rattle.source.proofs.held_info.Goals as goal

pub returns : goal.returns
returns c = c.voice.ensures ∙ ap info_voice c.new.ensures
