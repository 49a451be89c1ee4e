use mathlib.Core.Path.{refl, sym, ◌∙◌}
use Prim.Native.Nat.{◌+◌, ◌≤◌, ◌<◌}
use native.Mathlib.Omega.{arith}
use lib.ListN.{length, get_or}
use Rattle.source.proofs.Audio.{clash-hit, clash-miss, clash-none, clash-end}
use borrow.Author.Rules.{rules}
use Rattle.source.proofs.any_clash.Goals as goal

pub loop-i-init : goal.loop-i-init
loop-i-init c = (search rules, search rules, refl)

pub returns-then-bytes-start : goal.returns-then-bytes-start
returns-then-bytes-start c =
    let a = c.args in
    let bytes = a.bytes.now in
    let lengths = a.lengths.now in
    let inside : c.loop-i.i < length lengths = omega arith in
    sym (c.loop-i.invariant.2 ∙ clash-none bytes lengths c.loop-i.start c.loop-i.i a.counts inside c.if-bytes-start.true)

pub key_clashes-requires : goal.key_clashes-requires
key_clashes-requires c =
    (c.requires, search rules, search rules, search rules)

pub returns-then-key_clashes : goal.returns-then-key_clashes
returns-then-key_clashes c =
    let a = c.args in
    let bytes = a.bytes.now in
    let lengths = a.lengths.now in
    let inside : c.loop-i.i < length lengths = omega arith in
    let fits : c.loop-i.start + get_or lengths c.loop-i.i 0 ≤ length bytes = omega arith in
    sym (c.loop-i.invariant.2 ∙ clash-hit bytes lengths c.loop-i.start c.loop-i.i a.counts inside fits (sym c.key_clashes.ensures ∙ c.if-key_clashes.true))

pub loop-i-preserved : goal.loop-i-preserved
loop-i-preserved c =
    let a = c.args in
    let bytes = a.bytes.now in
    let lengths = a.lengths.now in
    let inside : c.loop-i.i < length lengths = omega arith in
    let fits : c.loop-i.start + get_or lengths c.loop-i.i 0 ≤ length bytes = omega arith in
    (fits, omega arith, c.loop-i.invariant.2 ∙ clash-miss bytes lengths c.loop-i.start c.loop-i.i a.counts inside fits (sym c.key_clashes.ensures ∙ c.if-key_clashes.false))

pub returns : goal.returns
returns c =
    let l = c.loop-i in
    let a = c.args in
    sym (l.invariant.2 ∙ clash-end a.bytes.now a.lengths.now l.start l.i a.counts (omega arith))
