-- `audio_rows::sweeping_of` meets its contract.
use Rattle.audio_rows.proofs.Sweeps.{sweeping-is}
use Rattle.audio_rows.proofs.sweeping_of.Goals as goal

pub returns : goal.returns
returns c = let a = c.args in
    let f = c.field_of-field in
    let k = c.leads_of-leads in
    sweeping-is a.work a.chunk f.result a.samples.now k.result c.requires f.ensures k.ensures
