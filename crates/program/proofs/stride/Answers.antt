-- `program::stride` meets its contract.
use mathlib.Core.Path.{◌≡◌, sym, ap, ◌∙◌}
use Prim.Native.Nat.{min}
use native.Mathlib.Omega.{arith}
use Rattle.std.proofs.lemmas.Result.{err_from_is_err_and}
use Rattle.config.specs.Sizes.{lane_stride, most_voices}
use Rattle.config.proofs.Accepted.{accepted as accepted-config}
use Rattle.program.specs.Sizes.{stride_call}
use Rattle.program.proofs.Counted.{refused-by, accepted}
use Rattle.program.proofs.stride.Goals as goal

pub returns-in_err-check : goal.returns-in_err-check
unfolding stride_call
returns-in_err-check c =
    let p = err_from_is_err_and c.from_residual.result c.from_residual.ensures.1 in
    rw (p.1, p.2) (refused-by _ _ c.in_err-check.ensures)

pub returns : goal.returns
unfolding stride_call
returns c =
    let g = c.args.config in
    let most = (accepted-config g.sample_rate g.max_frames g.voices (sym c.in_ok-check.ensures)).voices_most in
    let same : min g.voices most_voices ≡ g.voices = omega arith in
    accepted c.in_ok-check.ensures (c.lane_stride.ensures ∙ ap lane_stride same)
