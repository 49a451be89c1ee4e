use mathlib.Core.Path.{◌≡◌, sym, ◌∙◌}
use Prim.Native.Nat.{◌+◌}
use native.Mathlib.Omega.{arith}
use lib.ListN.{length}
use Rattle.matrix_editing.specs.Free.{first_free}
use Rattle.matrix_editing.proofs.Laws.{free-here, free-later, free-past, free-is, free-none}
use Rattle.matrix_editing.proofs.first_free.Goals as goal

pub returns-then-not-in_use : goal.returns-then-not-in_use
returns-then-not-in_use c =
    let i = c.loop-lfo.lfo-index in
    let a = c.args in
    let e = free-here a.lfos.now a.slot i (omega arith) (sym c.in_use.ensures ∙ c.if-not-in_use.true) in
    free-is a.lfos.now a.slot i (omega (arith, c.loop-lfo.invariant, e)) (omega arith)

pub loop-lfo-preserved : goal.loop-lfo-preserved
loop-lfo-preserved c =
    let i = c.loop-lfo.lfo-index in
    let a = c.args in
    let e = free-later a.lfos.now a.slot i (omega arith) (sym c.in_use.ensures ∙ c.if-not-in_use.false) in
    omega (arith, c.loop-lfo.invariant, e)

pub returns : goal.returns
returns c =
    let i = c.loop-lfo.lfo-index in
    let a = c.args in
    free-none a.lfos.now a.slot (omega (arith, c.loop-lfo.invariant, free-past a.lfos.now a.slot i (omega arith)))
