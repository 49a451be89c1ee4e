-- `engine_settings::with_amount` meets its contract.
use Rattle.slots.specs.Slots.{kept_amount}
use mathlib.Core.Path.{◌≡◌}
use native.Mathlib.Omega.{arith}
use lib.ListN.{length}
use lib.Seq.{set_out}
use borrow.Author.Rules.{rules}
use Rattle.engine_settings.proofs.with_amount.Goals as goal

pub returns-then-n-ge-SLOTS : goal.returns-then-n-ge-SLOTS
returns-then-n-ge-SLOTS c =
    let a = c.args in
    let long : length a.gains.amount ≡ 64 = search rules in
    simp (set_out a.gains.amount a.n (kept_amount a.amount) (omega arith))

pub returns : goal.returns
returns c = rw c.kept_amount.ensures
