-- `block::routed` meets its contract.
use native.Mathlib.Omega.{arith}
use Rattle.block.proofs.Blocks.{steps-ready, routed-is}
use borrow.Author.Rules.{rules}
use Rattle.block.proofs.routed.Goals as goal

pub chunk_steps-moved-requires : goal.chunk_steps-moved-requires
chunk_steps-moved-requires c =
    steps-ready c.drawn-ready.ensures.1 _ c.args.start c.args.end _ _ _ _ (omega arith) c.requires.0 c.block_of-block.ensures c.requires.2 c.requires.3

pub overflow_sub-end : goal.overflow_sub-end
overflow_sub-end c = omega (arith, c.requires.2)

pub shape_of-globals : goal.shape_of-globals
shape_of-globals c =
    search rules

pub shape_of-values : goal.shape_of-values
shape_of-values c =
    search rules

pub returns : goal.returns
returns c =
    let a = c.args in
    routed-is a.samples.now a.signals a.start a.end _ _ _ _ _ _ c.block_of-block.ensures (c.loaded.ensures _ _ _ _ _) (c.drawn-ready.ensures.0 _ _ _ _ _) c.chunk_steps-moved.ensures (c.closed.ensures _ _ _ _ _ _)
