-- `block::sweeping_of` meets its contract.
use Rattle.block.proofs.Moves.{whole-low, whole-sized, whole-swept}
use Rattle.block.proofs.sweeping_of.Goals as goal

pub work_of-work-requires : goal.work_of-work-requires
work_of-work-requires c =
    whole-low c.args.state c.args.block c.whole_of-whole.ensures c.requires.0 c.requires.1

pub sweeping_of-requires : goal.sweeping_of-requires
sweeping_of-requires c =
    whole-sized c.args.state c.args.block c.args.signals c.whole_of-whole.ensures c.work_of-work.ensures c.requires.0 c.requires.1

pub returns : goal.returns
returns c =
    let a = c.args in
    whole-swept a.state a.block a.signals _ a.samples.now c.whole_of-whole.ensures c.work_of-work.ensures c.sweeping_of.ensures
