-- `audio_rows::sweep_from` meets its contract.
use Rattle.audio_rows.proofs.sweep_from.Goals as goal

pub returns : goal.returns
returns c = let w = c.sweep_plans.ensures in
    (w.0, w.1, λ st k h b v m e z d. w.2 st k h b v m e z.1 d)
