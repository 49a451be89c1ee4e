-- The need of a program is within document 01's bound: for at most 64 plans whatever the routes, and for at most 96 plans, each with a route of its own.
-- Both numbers follow from the bound, not from the number of slots (docs/DECISIONS.md, D81).
use mathlib.Core.Path.{◌≡◌, ap, ◌∙◌}
use Prim.Native.Nat.{ℕ, ◌+◌, ◌*◌, ◌-◌, ◌/◌, ◌≤◌}
use native.Mathlib.Nat.{mul-add, add-mul, mul-le-mul_left, mul-le-mul_right}
use native.Mathlib.Decide.{dec_le}
use native.Mathlib.Omega.{arith}
use Rattle.config.specs.Sizes.{period, lane_stride, most_chunks, most_frames}
use Rattle.model.specs.Need.{values_rows, values_need, audio_need, need_bound}

-- the periods of the longest block
abbrev most_periods : ℕ
most_periods = most_frames / period

-- q periods of p plans: at most 64 q of them, and all periods for each plan beyond 64
periods : (p q : ℕ) → q ≤ most_periods → p * q ≤ 64 * q + most_periods * (p - 64)
periods p q h = go (dec_le p 64)
  where
    go : Dec (p ≤ 64) → p * q ≤ 64 * q + most_periods * (p - 64)
    go (yes l) = omega (arith, mul-le-mul_right q l)
    go (no n) =
        let e : p ≡ 64 + (p - 64) = omega arith in
        omega (arith, ap (λ (x : ℕ). x * q) e ∙ add-mul 64 (p - 64) q, mul-le-mul_left (p - 64) h)

twice : (p q : ℕ) → p * (2 * (q + 2) + 6) ≡ p * q + p * q + p * 10
twice p q =
    let t : 2 * (q + 2) + 6 ≡ q + q + 10 = omega arith in
    ap (λ (x : ℕ). p * x) t ∙ mul-add p (q + q) 10 ∙ ap (λ (x : ℕ). x + p * 10) (mul-add p q q)

-- the rows of both memories, where the plans beyond 64 are few for the routes
rows_bound : (f p r : ℕ) → f ≤ most_frames → 2 * most_periods * (p - 64) ≤ 54 * p + 24 * r + 768 → values_rows (most_chunks f) p r + p * f ≤ (p + 4) * (f + 64) + 32 * r + 512
rows_bound f p r F h =
    let q : f / period ≤ most_periods = omega arith in
    omega (arith, twice p (f / period), periods p (f / period) q, add-mul p 4 (f + 64), mul-add p f 64)

whole-bound : (v f p r : ℕ) → values_rows (most_chunks f) p r + p * f ≤ (p + 4) * (f + 64) + 32 * r + 512 → values_need v f p r + audio_need v f p ≤ need_bound v f p r
whole-bound v f p r h =
    let s = lane_stride v in
    rw (← mul-add s (values_rows (most_chunks f) p r) (p * f)) (mul-le-mul_left s h)

-- THE BOUND of document 01, for at most 64 plans
pub need-bound : (v f p r : ℕ) → f ≤ most_frames → p ≤ 64 → values_need v f p r + audio_need v f p ≤ need_bound v f p r
need-bound v f p r F P = whole-bound v f p r (rows_bound f p r F (omega arith))

-- and for at most 96, where each plan has a route
pub need-bound-routed : (v f p r : ℕ) → f ≤ most_frames → p ≤ 96 → p ≤ r → values_need v f p r + audio_need v f p ≤ need_bound v f p r
need-bound-routed v f p r F P R = whole-bound v f p r (rows_bound f p r F (omega arith))
