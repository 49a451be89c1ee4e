-- `plan_slews::moves` meets its contract.
use Rattle.plan_slews.proofs.Motions.{moves_of}
use Rattle.plan_slews.proofs.moves.Goals as goal

pub returns : goal.returns
returns c = λ t x u q k. moves_of t x u c.args.motion c.args.lane q k c.moves_in.ensures (c.worked-worked.ensures t k.voices)
