-- `engine_notes::code` meets its contract.
use Rattle.refusal.specs.Judge.{judged}
use Rattle.engine_notes.proofs.code.Goals as goal

pub returns-then-missing : goal.returns-then-missing
unfolding judged
returns-then-missing c = simp c.if-missing.true

pub returns-then-not-finite : goal.returns-then-not-finite
unfolding judged
returns-then-not-finite c = simp (c.if-missing.false, c.if-not-finite.true)

pub returns-then-short : goal.returns-then-short
unfolding judged
returns-then-short c = simp (c.if-missing.false, c.if-not-finite.false, c.if-short.true)

pub returns : goal.returns
unfolding judged
returns c = simp (c.if-missing.false, c.if-not-finite.false, c.if-short.false)
