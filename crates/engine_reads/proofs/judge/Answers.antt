-- `engine_reads::judge` meets its contract.
use Prim.Native.Nat.{◌≤◌, ◌<◌, min}
use native.Mathlib.Omega.{arith}
use borrow.Author.Tests.{le-leb, lt-leb}
use Rattle.config.specs.Sizes.{most_voices}
use Rattle.refusal.specs.Judge.{judged}
use Rattle.engine_reads.proofs.judge.Goals as goal

pub returns-then-voice_count-voice : goal.returns-then-voice_count-voice
unfolding judged
returns-then-voice_count-voice c =
    let a = c.args in
    let h : min a.voices most_voices ≤ a.voice = omega (arith, c.voice_count.ensures) in
    simp (le-leb _ _ h)

pub returns-then-short : goal.returns-then-short
unfolding judged
returns-then-short c =
    let a = c.args in
    let h : a.voice < min a.voices most_voices = omega (arith, c.voice_count.ensures) in
    simp (lt-leb _ _ h, c.if-short.true)

pub returns : goal.returns
unfolding judged
returns c =
    let a = c.args in
    let h : a.voice < min a.voices most_voices = omega (arith, c.voice_count.ensures) in
    simp (lt-leb _ _ h, c.if-short.false)
