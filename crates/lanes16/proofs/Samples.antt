-- A signal that has fewer numbers a frame than there are lanes. Assumes nothing.
use mathlib.Core.Path.{◌≡◌, refl, sym, ap, ◌∙◌}
use mathlib.Core.Bool.{Bool, true, false, cond}
use mathlib.Core.List.{List}
use Prim.Native.Nat.{ℕ, ◌+◌, ◌≤◌, ◌<◌}
use native.Mathlib.Decide.{dec_lt}
use native.Mathlib.Omega.{arith}
use borrow.Author.Tests.{lt-ltb, le-ltb}
use lib.Dec.{ltb}
use lib.Ieee.{Float}
use Rattle.number.specs.Number.{zero32}
use Rattle.state.specs.declared.SignalPart.{SignalPart}
use Rattle.model.specs.Counts.{at}
use Rattle.model.specs.Env.{part_stride, sample_in}

-- a signal of all lanes is the same in each
pub sample-all : (i : List Float) (p : SignalPart) (frame k l : ℕ) → sample_in i p frame false k ≡ sample_in i p frame false l
unfolding sample_in
sample-all i p frame k l = refl

sample-past : (i : List Float) (p : SignalPart) (frame l w : ℕ) → w ≡ part_stride p → w ≤ l → sample_in i p frame true l ≡ zero32
unfolding sample_in
sample-past i p frame l w e h = rw (← e, le-ltb l w h)

-- its w numbers stand from a on, and past them it is 0
pub sample-narrow : (i : List Float) (p : SignalPart) (frame a w l : ℕ) {y : Float} → w ≡ part_stride p → ((l : ℕ) → l < w → sample_in i p frame true l ≡ at i (a + l))
    → y ≡ cond (ltb l w) (at i (a + l)) zero32 → y ≡ sample_in i p frame true l
sample-narrow i p frame a w l {y} e k h = go (dec_lt l w)
  where
    go : Dec (l < w) → y ≡ sample_in i p frame true l
    go (yes z) = h ∙ ap (λ (b : Bool). cond b (at i (a + l)) zero32) (lt-ltb l w z) ∙ sym (k l z)
    go (no z) = h ∙ ap (λ (b : Bool). cond b (at i (a + l)) zero32) (le-ltb l w (omega arith)) ∙ sym (sample-past i p frame l w e (omega arith))
