-- `decimal::number` meets its contract. The loop passes digits; the number is held to the bound at each. Assumes nothing.
use mathlib.Core.Path.{◌≡◌}
use Prim.Native.Nat.{◌≤◌, min}
use lib.ListN.{drop}
use Rattle.decimal.specs.Decimal.{number}
use Rattle.decimal.proofs.number.Given as goal

abbrev pub invariant-loop-b : goal.invariant-loop-b
invariant-loop-b l = (l.value ≤ l.most) × (min (number l.value (drop l.b-index l.s)) l.most ≡ min (number l.v l.s) l.most)
