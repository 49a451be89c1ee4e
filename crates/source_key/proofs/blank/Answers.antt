-- `source_key::blank` meets its contract.
use mathlib.Core.Path.{refl}
use Rattle.source_key.specs.Text.{blank_text}
use Rattle.source_key.proofs.blank.Goals as goal

pub returns : goal.returns
unfolding blank_text
returns c = refl
