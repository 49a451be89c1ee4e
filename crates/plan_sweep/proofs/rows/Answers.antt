-- `plan_sweep::rows` meets its contract.
use mathlib.Core.Path.{◌∙◌}
use Prim.Native.Nat.{ℕ, ◌+◌, ◌-◌, ◌<◌}
use native.Mathlib.Omega.{arith}
use Rattle.plan_sweep.proofs.Laws.{rows-anew}
use Rattle.plan_sweep.proofs.Fours.{part-asks, all_more}
use Rattle.plan_sweep.proofs.rows.Goals as goal

pub returns-then-pass-le4 : goal.returns-then-pass-le4
returns-then-pass-le4 c =
    let a = c.args in
    c.some_rows.ensures ∙ rows-anew a.starts.now a.steps.now a.gains.now a.samples.now a.pass a.frame 0 a.len a.audio.now

pub some_rows-requires-2 : goal.some_rows-requires-2
some_rows-requires-2 c =
    let a = c.args in
    let j : ℕ = c.most_rows-j.result in
    let less : j < a.pass.count = c.most_rows-j.ensures.0 in
    part-asks a.starts.now a.steps.now a.gains.now a.samples.now a.pass (a.frame + a.len) (a.pass.first + j) (a.pass.count - j) (j + (a.pass.count - j)) a.len _ _ c.after-rest.ensures c.requires.0 (omega arith) (omega arith) (omega (arith, c.requires.1))

pub returns : goal.returns
returns c =
    let a = c.args in
    let k = c.most_rows-j in
    all_more a.starts.now a.steps.now a.gains.now a.samples.now a.pass 0 a.frame k.result c.requires.0.span _ _ _ a.len _ k.ensures.0 (omega (arith, c.requires.1)) k.ensures.1 c.after-rest.ensures c.some_rows-2.ensures
