-- The routes of one destination more.
use mathlib.Core.Path.{◌∙◌}
use Rattle.compile.proofs.Planned.{routed-more}
use Rattle.compile.proofs.routes.Goals as goal

pub loop-d-preserved : goal.loop-d-preserved
loop-d-preserved c =
    let a = c.args in
    let l = c.loop-d in (
      l.invariant.0,
      rw (c.add_routes.ensures, c.is_voice-voice.ensures, c.dest_at-e.ensures) (routed-more a.rate a.sources a.dests a.slot a.readers.now a.order.now.items c.as_slice-d-items.result.now l.out.items l.d-index c.loop-d-test.true)
          ∙ l.invariant.1,
    )
