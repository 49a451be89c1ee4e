-- `voice::set_value` meets its contract.
use mathlib.Core.Path.{sym}
use Rattle.voice.specs.Notes.{set_value}
use Rattle.voice.proofs.set_value.Goals as goal

pub returns-then-glides_to : goal.returns-then-glides_to
unfolding set_value
returns-then-glides_to c = simp (sym c.glides_to.ensures, c.if-glides_to.true)

pub returns : goal.returns
unfolding set_value
returns c = simp (sym c.glides_to.ensures, c.if-glides_to.false)
