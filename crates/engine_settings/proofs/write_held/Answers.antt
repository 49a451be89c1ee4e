-- `engine_settings::write_held` meets its contract.
use mathlib.Core.Path.{refl}
use borrow.Author.Rules.{rules}
use Rattle.engine_settings.proofs.write_held.Goals as goal

pub returns-then-voice : goal.returns-then-voice
returns-then-voice c = simp c.if-voice.true (record { rows = c.fill_row.ensures; single = refl })

pub returns : goal.returns
returns c = simp c.if-voice.false (record { rows = refl; single = refl })
