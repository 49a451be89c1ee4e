use mathlib.Core.Path.{refl, sym, ◌∙◌}
use Prim.Native.Nat.{◌≤◌, ◌<◌}
use native.Mathlib.Omega.{arith}
use lib.ListN.{get_or, drop}
use borrow.Author.Tests.{lt-ltb, le-ltb}
use Rattle.source.specs.Standard.{total}
use Rattle.source.proofs.Audio.{total-next, total-past, left_after}
use borrow.Author.Rules.{rules}
use Rattle.source.proofs.adds_up_above.Goals as goal

pub loop-i-init : goal.loop-i-init
loop-i-init c = (search rules, refl)

pub returns-then-left-n : goal.returns-then-left-n
returns-then-left-n c =
    let lengths = c.args.lengths.now in
    let more = total-next lengths c.loop-i.i (omega arith) in
    let over : c.loop-i.left < total (drop c.loop-i.i lengths) = omega arith in
    sym (c.loop-i.invariant.1 ∙ lt-ltb _ _ over)

pub loop-i-preserved : goal.loop-i-preserved
loop-i-preserved c =
    let lengths = c.args.lengths.now in
    let n = get_or lengths c.loop-i.i 0 in
    (search rules, c.loop-i.invariant.1 ∙ rw (total-next lengths c.loop-i.i (omega arith)) (left_after c.loop-i.left n _ c.if-left-n.false))

pub returns : goal.returns
returns c =
    let l = c.loop-i in
    let lengths = c.args.lengths.now in
    let none = total-past lengths l.i (omega arith) in
    let under : total (drop l.i lengths) ≤ l.left = omega arith in
    sym (l.invariant.1 ∙ le-ltb _ _ under)
