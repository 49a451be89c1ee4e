-- `block::sounded` meets its contract.
use Rattle.block.proofs.Steps.{work-sized, work-room, sounded-is}
use Rattle.block.proofs.sounded.Goals as goal

pub audio_plans-requires : goal.audio_plans-requires
audio_plans-requires c =
    let e = c.work_of-work.ensures in (
      work-sized c.args.state c.args.chunk c.args.snap c.args.signals _ e c.requires.0,
      work-room c.args.state c.args.chunk c.args.snap c.args.signals _ e _ c.requires.1,
    )

pub returns : goal.returns
returns c =
    let a = c.args in
    sounded-is a.state a.chunk a.snap a.signals _ c.work_of-work.ensures a.samples.now a.held.now a.globals.now a.bases.now a.values.now a.audio.now a.tables.now _ _ c.audio_plans.ensures
