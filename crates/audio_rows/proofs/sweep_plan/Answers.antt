-- `audio_rows::sweep_plan` meets its contract: the rows are a part of the audio.
use mathlib.Core.Path.{ap, ◌∙◌}
use Prim.Native.Nat.{ℕ, ◌+◌}
use native.Mathlib.Omega.{arith}
use Rattle.list.specs.Part.{part, on_part}
use Rattle.audio_rows.proofs.Parts.{swept-part}
use Rattle.audio_rows.proofs.sweep_plan.Goals as goal

pub returns : goal.returns
unfolding part on_part
returns c = let a = c.args in
    let r = c.row_at in
    let e : ℕ = a.a + r.result in
    ap (on_part a.audio.now a.a e) c.rows.ensures
    ∙ swept-part a.starts.now a.steps.now a.gains.now a.samples.now a.pass a.a e a.chunk.start a.chunk.len a.audio.now c.requires.0.span (omega arith) (omega (arith, r.ensures.0, c.requires.1)) (omega (arith, r.ensures.0))
