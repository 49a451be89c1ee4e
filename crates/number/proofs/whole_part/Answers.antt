-- `number::whole_part` meets its contract.
use Rattle.std.proofs.Common.{◌≡◌, ◌+◌, ◌*◌, ◌≤◌, true, false, T, pos, sym, refl, le-div_iff_mul-le, arith, lt→ltb, ltb-false}
use native.Mathlib.Nat.{zero-div}
use lib.Ieee.{Float, nan, inf, fin, lt, to_unsigned, of_bits, up, down}
use lib.Ieee.Fits.{down_pos}
use Rattle.number.specs.Number.{zero32}
use Rattle.number.proofs.Laws.{no, yes-T}
use Rattle.number.proofs.whole_part.Goals as goal

above : (x : Float) → lt zero32 x ≡ true → T (lt (fin true 1 (pos 0)) x)
unfolding lt
above nan h = absurd (no h)
above (inf true) h = absurd (no h)
above (inf false) h = tt
above (fin true m e) h = absurd (no h)
above (fin false m e) h = lt→ltb 0 (1 * down e + m * up e * 1) (omega (arith, down_pos e))

none : (x : Float) → lt zero32 x ≡ false → 0 ≡ to_unsigned 64 x
unfolding lt to_unsigned
none nan h = refl
none (inf true) h = refl
none (inf false) h = absurd (no (sym h))
none (fin true m e) h = refl
none (fin false m e) h =
    let z : m * up e ≡ 0 = omega (arith, ltb-false (0 * down e) (m * up e * 1) h) in
    rw (z, zero-div)

most : (x : Float) → lt zero32 x ≡ true → lt x (fin false 1 (pos 64)) ≡ false → 18446744073709551615 ≡ to_unsigned 64 x
unfolding lt to_unsigned
most nan h k = absurd (no h)
most (inf true) h k = absurd (no h)
most (inf false) h k = refl
most (fin true m e) h k = absurd (no h)
most (fin false m e) h k =
    let b : 18446744073709551616 * down e ≤ m * up e = omega (arith, ltb-false (m * up e * 1) (18446744073709551616 * down e) k) in
    omega (arith, (le-div_iff_mul-le {x = 18446744073709551616} (down_pos e)).1 b)

pub truncating_f32_to_u64-requires : goal.truncating_f32_to_u64-requires
unfolding of_bits
truncating_f32_to_u64-requires c = record { lower_bound = above _ c.if-x.true; upper_bound = yes-T c.if-x-2.true }

pub returns-then-x-2 : goal.returns-then-x-2
returns-then-x-2 c = c.truncating_f32_to_u64.ensures

pub returns-else-x-2 : goal.returns-else-x-2
unfolding of_bits
returns-else-x-2 c = most _ c.if-x.true c.if-x-2.false

pub returns-else-x : goal.returns-else-x
unfolding of_bits
returns-else-x c = none _ c.if-x.false
