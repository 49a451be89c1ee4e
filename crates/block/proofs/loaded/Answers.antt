-- `block::loaded` meets its contract.
use Rattle.block.proofs.Blocks.{loaded-is}
use Rattle.block.proofs.loaded.Goals as goal

pub returns : goal.returns
returns c =
    let a = c.args in
    λ h d v b t. loaded-is a.state h a.globals.now d v b t _ _ _ c.at_most-n.ensures c.load_value-x.ensures c.set_load.ensures
