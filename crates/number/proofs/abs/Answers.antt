-- `number::abs` meets its contract.
use Rattle.std.proofs.Common.{◌≡◌, ◌+◌, ◌*◌, true, false, T, sym, refl, ap, arith, ltb-false, ltb-true}
use lib.Ieee.{Float, nan, inf, fin, binary32, lt, eq, neg, fits, of_bits, up, down}
use Rattle.number.specs.Number.{zero32, abs_of}
use Rattle.number.proofs.Laws.{no, yes-T, zero-plain, zero-of-eq}
use Rattle.number.proofs.abs.Goals as goal

-- below 0: the sign is set, and turning it drops it
below : (x : Float) → lt x zero32 ≡ true → neg x ≡ abs_of x
unfolding lt neg abs_of
below nan h = absurd (no h)
below (inf true) h = refl
below (inf false) h = absurd (no h)
below (fin true m e) h = refl
below (fin false m e) h = absurd (let l = ltb-true (m * up e * 1) (0 * down e) h in omega arith)

-- neither below 0 nor equal to it: the sign is clear
above : (x : Float) → lt x zero32 ≡ false → eq x zero32 ≡ false → x ≡ abs_of x
unfolding lt eq abs_of
above nan h k = refl
above (inf true) h k = absurd (no (sym h))
above (inf false) h k = refl
above (fin true m e) h k =
    let z : m * up e * 1 ≡ 0 = omega (arith, ltb-false 0 (m * up e * 1 + 0 * down e) h) in
    let w : 0 * down e ≡ 0 = omega arith in
    absurd (no (sym (rw (z, w) at k)))
above (fin false m e) h k = refl

zeros : (x : Float) → T (fits binary32 x) → T (eq x zero32) → zero32 ≡ abs_of x
unfolding eq abs_of
zeros nan f h = absurd h
zeros (inf s) f h = absurd h
zeros (fin s m e) f h =
    let z : m ≡ 0 = zero-of-eq s m e h in
    sym (rw z (ap abs_of (zero-plain s e (rw z at f))))

pub returns-then-x : goal.returns-then-x
unfolding of_bits
returns-then-x c = below _ c.if-x.true

pub returns-then-x-2 : goal.returns-then-x-2
unfolding of_bits
returns-then-x-2 c = zeros _ (yes-T c.well_formed.0.1) (yes-T c.if-x-2.true)

pub returns-else-x-2 : goal.returns-else-x-2
unfolding of_bits
returns-else-x-2 c = above _ c.if-x.false c.if-x-2.false
