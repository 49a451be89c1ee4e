-- `decimal::past` meets its contract. Assumes nothing.
use mathlib.Core.Path.{ap, ◌∙◌}
use Prim.Native.Nat.{ℕ}
use lib.ListN.{drop}
use Rattle.decimal.specs.Decimal.{past}
use Rattle.decimal.proofs.Rows.{after-drop}
use Rattle.decimal.proofs.past.Goals as goal

pub returns : goal.returns
unfolding past
returns c = after-drop c.args.s.now c.run-n.result ∙ ap (λ (k : ℕ). drop k c.args.s.now) c.run-n.ensures.0
