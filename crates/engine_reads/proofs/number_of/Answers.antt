-- `engine_reads::number_of` meets its contract.
use mathlib.Core.Path.{ap, ◌∙◌}
use Prim.Native.Nat.{ℕ, ◌+◌, ◌*◌}
use native.Mathlib.Omega.{arith}
use lib.Ieee.{nan}
use lib.ListN.{get_or}
use Rattle.engine_reads.proofs.Spots.{lane-most}
use Rattle.engine_reads.proofs.number_of.Goals as goal

pub number_at-requires : goal.number_at-requires
number_at-requires c =
    let a = c.args in
    (omega arith, c.requires.1, omega (arith, c.lane-lane.ensures, lane-most a.spot.voice a.voice (omega arith)))

pub returns : goal.returns
returns c =
    let a = c.args in
    c.number_at.ensures ∙ ap (λ (n : ℕ). get_or a.mem.now (a.a + a.k * a.spot.width + n) nan) c.lane-lane.ensures
