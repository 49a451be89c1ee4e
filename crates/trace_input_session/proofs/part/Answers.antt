-- `trace_input_session::part` meets its contract. Assumes nothing.
use mathlib.Core.Path.{◌≡◌}
use Prim.Native.Nat.{◌-◌}
use native.Mathlib.Omega.{arith}
use borrow.Author.Tests.{lt-ltb, le-ltb}
use Rattle.trace_input_session.specs.Lines.{part_of}
use Rattle.trace_input_session.proofs.part.Goals as goal

pub returns-then-s-end : goal.returns-then-s-end
unfolding part_of
returns-then-s-end c = simp (lt-ltb _ _ c.if-s-end.true)

pub returns-then-end-at : goal.returns-then-end-at
unfolding part_of
returns-then-end-at c =
    let none : c.args.end - c.args.at ≡ 0 = omega (arith, c.if-end-at.true) in
    rw (le-ltb _ _ c.if-s-end.false, none)

pub returns : goal.returns
unfolding part_of
returns c = simp (le-ltb _ _ c.if-s-end.false)
