-- `source::with_controllers` meets its contract. Assumes nothing.
use Rattle.source.specs.Standard.{with_controllers}
use Rattle.source.proofs.with_controllers.Goals as goal

pub returns : goal.returns
unfolding with_controllers
returns c =
    rw (
      c.with_usual.ensures,
      c.with_usual-f.ensures,
      c.with_source-e.ensures,
      c.with_source-d.ensures,
      c.with_source-c.ensures,
      c.with_source-b.ensures,
      c.with_usual-a.ensures,
      c.bipolar-x.ensures,
      c.held_info-held.ensures,
      c.bipolar-bend.ensures,
      c.new.ensures,
    )
