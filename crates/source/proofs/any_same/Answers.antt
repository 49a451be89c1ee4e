use mathlib.Core.Path.{◌≡◌, refl, sym, ◌∙◌}
use Prim.Native.Nat.{◌+◌, ◌≤◌, ◌<◌}
use native.Mathlib.Omega.{arith}
use mathlib.Core.Bool.{true, false}
use lib.ListN.{length, get_or}
use Rattle.list.specs.Part.{part}
use Rattle.source_key.specs.Bytes.{same_bytes}
use Rattle.source_key.proofs.Bytes.{pointwise-same}
use Rattle.source.proofs.Audio.{same-hit, same-miss, same_none, same_end}
use borrow.Author.Rules.{rules}
use Rattle.source.proofs.any_same.Goals as goal

pub loop-i-init : goal.loop-i-init
loop-i-init c = (search rules, search rules, refl)

pub returns-then-bytes-at : goal.returns-then-bytes-at
returns-then-bytes-at c =
    let a = c.args in
    let bytes = a.bytes.now in
    let lengths = a.lengths.now in
    let inside : c.loop-i.i < length lengths = omega arith in
    sym (c.loop-i.invariant.2 ∙ same_none bytes lengths c.loop-i.at c.loop-i.i a.key.now inside c.if-bytes-at.true)

pub returns-then-eq : goal.returns-then-eq
unfolding part
returns-then-eq c =
    let a = c.args in
    let bytes = a.bytes.now in
    let lengths = a.lengths.now in
    let inside : c.loop-i.i < length lengths = omega arith in
    let n = get_or lengths c.loop-i.i 0 in
    let fits : c.loop-i.at + n ≤ length bytes = omega arith in
    let same : same_bytes a.key.now (part bytes c.loop-i.at (c.loop-i.at + n)) ≡ true = sym (pointwise-same _ _) ∙ sym c.eq.ensures ∙ c.if-eq.true in
    sym (c.loop-i.invariant.2 ∙ same-hit bytes lengths c.loop-i.at c.loop-i.i a.key.now inside fits same)

pub loop-i-preserved : goal.loop-i-preserved
unfolding part
loop-i-preserved c =
    let a = c.args in
    let bytes = a.bytes.now in
    let lengths = a.lengths.now in
    let inside : c.loop-i.i < length lengths = omega arith in
    let n = get_or lengths c.loop-i.i 0 in
    let fits : c.loop-i.at + n ≤ length bytes = omega arith in
    let other : same_bytes a.key.now (part bytes c.loop-i.at (c.loop-i.at + n)) ≡ false = sym (pointwise-same _ _) ∙ sym c.eq.ensures ∙ c.if-eq.false in
    (fits, omega arith, c.loop-i.invariant.2 ∙ same-miss bytes lengths c.loop-i.at c.loop-i.i a.key.now inside fits other)

pub returns : goal.returns
returns c =
    let l = c.loop-i in
    let a = c.args in
    sym (l.invariant.2 ∙ same_end a.bytes.now a.lengths.now l.at l.i a.key.now (omega arith))
