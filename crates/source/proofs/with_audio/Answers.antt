use mathlib.Core.Path.{refl, sym, ◌∙◌}
use native.Mathlib.Omega.{arith}
use Rattle.source.proofs.Audio.{audio-next, audio-past, total-next, short-next}
use borrow.Author.Rules.{rules}
use Rattle.source.proofs.with_audio.Goals as goal

pub loop-i-init : goal.loop-i-init
loop-i-init c =
    let pre = c.requires in
    (search rules, search rules, omega (arith, pre.0), pre.1, refl)

pub overflow_add-end : goal.overflow_add-end
overflow_add-end c =
    let l = c.loop-i in
    omega (arith, total-next c.args.lengths.now l.i (omega arith))

pub with_audio_key-more-requires : goal.with_audio_key-more-requires
with_audio_key-more-requires c =
    let l = c.loop-i in
    let lengths = c.args.lengths.now in
    let more = total-next lengths l.i (omega arith) in
    let short = short-next lengths l.i (omega arith) l.invariant.3 in
    (omega arith, omega arith, omega arith)

pub loop-i-preserved : goal.loop-i-preserved
loop-i-preserved c =
    let l = c.loop-i in
    let a = c.args in
    let lengths = a.lengths.now in
    let more = total-next lengths l.i (omega arith) in
    let short = short-next lengths l.i (omega arith) l.invariant.3 in
    let next = audio-next a.bytes.now lengths l.start l.i l.next (omega arith) (omega arith) in
    (search rules, omega arith, omega arith, short.1, l.invariant.4 ∙ next ∙ rw c.with_audio_key-more.ensures)

pub returns : goal.returns
returns c =
    let l = c.loop-i in
    let a = c.args in
    sym (l.invariant.4 ∙ audio-past a.bytes.now a.lengths.now l.start l.i l.next (omega arith))
