-- `source::fixed_sources` meets its contract. Assumes nothing.
use Rattle.source.specs.Standard.{fixed_sources}
use Rattle.source.proofs.fixed_sources.Goals as goal

pub returns : goal.returns
unfolding fixed_sources
returns c =
    rw (
      c.with_usual.ensures,
      c.with_usual-load.ensures,
      c.with_controllers-controllers.ensures,
      c.with_note_sources-notes.ensures,
      c.new.ensures,
    )
