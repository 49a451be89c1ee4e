-- `source_key::above` meets its contract. Assumes nothing.
use mathlib.Core.Path.{sym}
use Prim.Native.Nat.{◌<◌}
use native.Mathlib.Omega.{arith}
use Rattle.source_key.specs.Numbered.{longer}
use borrow.Author.Tests.{lt-ltb}
use Rattle.source_key.proofs.Reading.{above-by-tenth}
use Rattle.source_key.proofs.above.Goals as goal

pub returns-then-n-digit : goal.returns-then-n-digit
returns-then-n-digit c =
    let a = c.args in
    let over : a.n < longer a.v a.byte = omega arith in
    sym (lt-ltb _ _ over)

pub returns : goal.returns
returns c = above-by-tenth _ _ _ c.if-n-digit.false
