-- `audio_rows::pass_of` meets its contract.
use Rattle.audio_rows.proofs.Sweeps.{pass-is}
use Rattle.audio_rows.proofs.pass_of.Goals as goal

pub returns : goal.returns
returns c = let a = c.args in
    pass-is a.field a.plan _ _ a.offsets.now _ c.pass_of.ensures c.base_by-base.ensures c.bounded-bound.ensures
