use mathlib.Core.Path.{◌≡◌, refl, sym, ◌∙◌}
use Prim.Native.Nat.{min}
use native.Mathlib.Omega.{arith}
use borrow.Author.Rules.{rules}
use lib.ListN.{length, take}
use Rattle.config.specs.Sizes.{slots}
use Rattle.list.proofs.Elements.{length-mapped}
use Rattle.program.proofs.Stored.{stored-from, stored-end}
use Rattle.program.specs.Readers.{plan_count, rate_of}
use Rattle.program.proofs.Rates.{rate-here, others-next, no-rate}
use Rattle.program.proofs.Replies.{rate-said}
use Rattle.program.proofs.rate.Goals as goal

pub loop-i-init : goal.loop-i-init
loop-i-init c =
    let a = c.args in
    let long : length a.program.plan ≡ slots = search (rules, length-mapped) in
    (search rules, long, refl)

pub returns-then-p-dest : goal.returns-then-p-dest
unfolding rate_of plan_count
returns-then-p-dest c =
    let a = c.args in
    let l = c.loop-i in
    let m = min a.program.plans slots in
    let from = stored-from a.program.plan m l.invariant.1 l.i _ (omega (arith, c.held-n.ensures)) in
    let said = rate-said a.program a.dest c.rate_by.result
    (c.rate_by.ensures ∙ sym (rate-here (take m a.program.plan) a.dest l.i _ from l.invariant.2 c.if-p-dest.true)) in
    record { value = said.0; reply = said.1 }

pub loop-i-preserved : goal.loop-i-preserved
loop-i-preserved c =
    let a = c.args in
    let l = c.loop-i in
    let m = min a.program.plans slots in
    let from = stored-from a.program.plan m l.invariant.1 l.i _ (omega (arith, c.held-n.ensures)) in
    (omega (arith, c.held-n.ensures), l.invariant.1, others-next (take m a.program.plan) a.dest l.i _ from l.invariant.2 c.if-p-dest.false)

pub returns : goal.returns
unfolding rate_of plan_count
returns c =
    let a = c.args in
    let l = c.loop-i in
    let m = min a.program.plans slots in
    let end = stored-end a.program.plan m l.invariant.1 l.i (omega (arith, c.held-n.ensures)) in
    let said = rate-said a.program a.dest _ (sym (no-rate (take m a.program.plan) a.dest l.i end l.invariant.2)) in
    record { value = said.0; reply = said.1 }
