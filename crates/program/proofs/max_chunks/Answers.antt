-- `program::max_chunks` meets its contract.
use mathlib.Core.Path.{◌≡◌, sym, ap, ◌∙◌}
use Prim.Native.Nat.{min}
use native.Mathlib.Omega.{arith}
use Rattle.std.proofs.lemmas.Result.{err_from_is_err_and}
use Rattle.config.specs.Sizes.{most_chunks, most_frames}
use Rattle.config.proofs.Accepted.{accepted as accepted-config}
use Rattle.program.specs.Sizes.{max_chunks_call}
use Rattle.program.proofs.Counted.{refused-by, accepted}
use Rattle.program.proofs.max_chunks.Goals as goal

pub returns-in_err-check : goal.returns-in_err-check
unfolding max_chunks_call
returns-in_err-check c =
    let p = err_from_is_err_and c.from_residual.result c.from_residual.ensures.1 in
    rw (p.1, p.2) (refused-by _ _ c.in_err-check.ensures)

pub returns : goal.returns
unfolding max_chunks_call
returns c =
    let g = c.args.config in
    let most = (accepted-config g.sample_rate g.max_frames g.voices (sym c.in_ok-check.ensures)).frames_most in
    let same : min g.max_frames most_frames ≡ g.max_frames = omega arith in
    accepted c.in_ok-check.ensures (c.most_chunks.ensures ∙ ap most_chunks same)
