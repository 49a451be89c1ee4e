-- `lane_input::starts_below` meets its contract.
use mathlib.Core.Path.{sym, ◌∙◌}
use Prim.Native.Nat.{◌*◌}
use native.Mathlib.Omega.{arith}
use borrow.Author.Tests.{le-ltb}
use Rattle.lane_input.proofs.Numbers.{below-pred}
use Rattle.lane_input.proofs.starts_below.Goals as goal

pub returns-then-len-eq0 : goal.returns-then-len-eq0
returns-then-len-eq0 c = sym (le-ltb (c.args.row * c.args.stride) c.args.len (omega arith))

pub returns : goal.returns
returns c = c.rows_within.ensures ∙ below-pred (c.args.row * c.args.stride) c.args.len c.if-len-eq0.false
