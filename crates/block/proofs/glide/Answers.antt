-- `block::glide` meets its contract.
use Rattle.block.proofs.Moves.{moved-in, held-in}
use Rattle.block.proofs.glide.Goals as goal

pub returns : goal.returns
returns c =
    let a = c.args in (
      moved-in a.moving a.chunk _ _ _ c.primes.ensures c.advance-velocity_next.ensures c.advance-key_next.ensures,
      held-in a.glides a.moving c.advance-velocity_next.result c.advance-key_next.result _ _ _ c.moved_held.ensures c.moved_held-2.ensures,
    )
