-- `decimal::valued` meets its contract. Assumes nothing.
use mathlib.Core.Path.{sym, ◌∙◌}
use native.Mathlib.Omega.{arith}
use Prim.Native.Nat.{◌^◌}
use borrow.Author.Tests.{lt-ltb, le-ltb}
use Rattle.decimal.specs.Decimal.{valued}
use Rattle.decimal.proofs.valued.Goals.{then-m-gt999999999999999999-via-then-m-gt999999999999999999, then-m-gt999999999999999999-via-else-m-gt999999999999999999+then-e-gt999}
use Rattle.decimal.proofs.valued.Goals as goal

pub returns-then-m-gt999999999999999999 : goal.returns-then-m-gt999999999999999999
unfolding valued
returns-then-m-gt999999999999999999 c =
    elim c.then-m-gt999999999999999999.branch [
      | then-m-gt999999999999999999-via-then-m-gt999999999999999999 w ↦ sym (rw (le-ltb c.args.m (10 ^ 18) w.if-m-gt999999999999999999.true))
      | then-m-gt999999999999999999-via-else-m-gt999999999999999999+then-e-gt999 w ↦ sym (rw (lt-ltb c.args.m (10 ^ 18) (omega (arith, w.if-m-gt999999999999999999.false)), le-ltb c.args.e 1000 w.if-e-gt999.true))
    ]

pub shrunk-requires : goal.shrunk-requires
shrunk-requires c = (omega arith, omega arith)

pub returns-then-n : goal.returns-then-n
unfolding valued
returns-then-n c = c.shrunk.ensures ∙ sym (rw (lt-ltb c.args.m (10 ^ 18) (omega arith), lt-ltb c.args.e 1000 (omega arith), c.if-n.true))

pub returns : goal.returns
unfolding valued
returns c = c.scaled.ensures ∙ sym (rw (lt-ltb c.args.m (10 ^ 18) (omega arith), lt-ltb c.args.e 1000 (omega arith), c.if-n.false))
