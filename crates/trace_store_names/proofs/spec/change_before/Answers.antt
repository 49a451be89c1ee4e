-- `trace_store_names::spec::change_before` meets its contract. Assumes nothing.
use Rattle.std.proofs.Common.{◌-◌, ◌<◌, ◌≤◌, arith, rules}
use Rattle.trace_store_names.proofs.spec.change_before.Goals as goal

pub returns-then-is : goal.returns-then-is
returns-then-is c =
    λ h.
    let x = c.back.ensures.1 h in
    let y = c.back-q.ensures.0 in
    omega arith

pub returns : goal.returns
returns c =
    λ h.
    let x = c.back.ensures.1 h in
    let y = c.back-q.ensures.0 in
    let z = c.back-2.ensures.0 in
    omega arith
