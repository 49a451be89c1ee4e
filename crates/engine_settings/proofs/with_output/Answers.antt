-- `engine_settings::with_output` meets its contract.
use Rattle.slots.specs.Slots.{kept_output}
use mathlib.Core.Path.{◌≡◌}
use native.Mathlib.Omega.{arith}
use lib.ListN.{length}
use lib.Seq.{set_out}
use borrow.Author.Rules.{rules}
use Rattle.engine_settings.proofs.with_output.Goals as goal

pub returns-then-n-ge-SLOTS : goal.returns-then-n-ge-SLOTS
returns-then-n-ge-SLOTS c =
    let a = c.args in
    let long : length a.gains.output ≡ 64 = search rules in
    simp (set_out a.gains.output a.n (kept_output a.output) (omega arith))

pub returns : goal.returns
returns c = rw c.kept_output.ensures
