-- `voice::set_glide` meets its contract.
use mathlib.Core.Path.{sym}
use Rattle.voice.specs.Notes.{set_glide}
use Rattle.voice.proofs.set_glide.Goals as goal

pub returns-then-glides_to : goal.returns-then-glides_to
unfolding set_glide
returns-then-glides_to c = simp (sym c.glides_to.ensures, c.if-glides_to.true, c.step_of.ensures)

pub returns : goal.returns
unfolding set_glide
returns c = simp (sym c.glides_to.ensures, c.if-glides_to.false) c.stopped.ensures
