-- `engine::no_signals` meets its contract.
use mathlib.Core.Path.{refl}
use Rattle.model.specs.Settings.{unbound_signals}
use Rattle.engine.proofs.no_signals.Goals as goal

pub returns : goal.returns
unfolding unbound_signals
returns c = refl
