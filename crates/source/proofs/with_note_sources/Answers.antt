-- `source::with_note_sources` meets its contract. Assumes nothing.
use Rattle.source.specs.Standard.{with_note_sources}
use Rattle.source.proofs.with_note_sources.Goals as goal

pub returns : goal.returns
unfolding with_note_sources
returns c =
    rw (
      c.with_usual.ensures,
      c.with_usual-g.ensures,
      c.with_usual-f.ensures,
      c.with_usual-e.ensures,
      c.with_source-d.ensures,
      c.with_usual-c.ensures,
      c.with_usual-b.ensures,
      c.with_usual-a.ensures,
      c.held_info-poly.ensures,
    )
