-- `voice::moved` meets its contract.
use mathlib.Core.Path.{sym}
use Rattle.voice.specs.Notes.{moved}
use Rattle.voice.proofs.moved.Goals as goal

pub returns-then-arrives : goal.returns-then-arrives
unfolding moved
returns-then-arrives c = simp (sym c.arrives.ensures, c.if-arrives.true)

pub returns-then-value-target : goal.returns-then-value-target
unfolding moved
returns-then-value-target c = simp (sym c.arrives.ensures, c.if-arrives.false, c.if-value-target.true)

pub returns : goal.returns
unfolding moved
returns c = simp (sym c.arrives.ensures, c.if-arrives.false, c.if-value-target.false)
