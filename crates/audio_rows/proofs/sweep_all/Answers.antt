-- `audio_rows::sweep_all` meets its contract.
use Rattle.audio_rows.proofs.Chunk.{plans-done}
use Rattle.audio_rows.proofs.sweep_all.Goals as goal

pub returns : goal.returns
returns c = λ st w h b v e z. plans-done st w e h _ _ b _ _ _ _ _ (c.sweep_each.ensures st w h b v e z.1) z.0
