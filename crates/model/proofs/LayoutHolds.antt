-- The layout of the memories: every part ends inside its memory, and two different parts of one memory stand apart, for any lane stride from 1 on and any
-- counts. Assumes nothing.
use mathlib.Core.Path.{◌≡◌, refl, ap, subst}
use mathlib.Core.Bool.{Bool, true, false}
use mathlib.Core.Logic.{◌≢◌, ◌⊎◌, inl, inr, ⊎_elim}
use Prim.Native.Nat.{ℕ, ◌+◌, ◌*◌, ◌≤◌, ◌<◌}
use native.Mathlib.Nat.{mul-add, add-mul, mul_comm, mul_left_comm, mul-le-mul_left}
use native.Mathlib.Decide.{ℕ_discrete}
use native.Mathlib.Omega.{arith}
use Rattle.list.proofs.Rows.{row_inside, rows_apart}
use Rattle.model.specs.Layout.{plan_width, plan_size, route_size, audio_size, Sizes, Memory, values, audio, need, PlanPart, from, to, from_at, to_at, RoutePart, slew, random, Part, of_plan, of_route, of_frame, ValidOfPlan, ValidOfRoute, row_width, start, width, Valid, Apart}

-- ---- blocks of equal size, one after the other, and what stands inside them

-- l numbers from a on, and m numbers from b on
abbrev Aside : ℕ → ℕ → ℕ → ℕ → Type 0
Aside a l b m = (a + l ≤ b) ⊎ (b + m ≤ a)

block_inside : (size : ℕ) {b n : ℕ} (o l : ℕ) → b < n → o + l ≤ size → b * size + o + l ≤ n * size
block_inside size o l h e = omega (arith, row_inside size h)

blocks-aside : (size : ℕ) {b c : ℕ} (o l p m : ℕ) → b ≢ c → o + l ≤ size → p + m ≤ size → Aside (b * size + o) l (c * size + p) m
blocks-aside size o l p m h e f = ⊎_elim (λ r. inl (omega arith)) (λ r. inr (omega arith)) (rows_apart size h)

-- both further on by as many
aside-after : (k a l b m : ℕ) → Aside a l b m → Aside (k + a) l (k + b) m
aside-after k a l b m h = ⊎_elim (λ r. inl (omega arith)) (λ r. inr (omega arith)) h

-- rows of width w, in room for n rows of a width at least as large
pub narrow-inside : (w s : ℕ) {c n : ℕ} → w ≤ s → c < n → c * w + w ≤ n * s
narrow-inside w s {c} {n} h b = omega (arith, row_inside w b, mul-le-mul_left n h)

-- ---- a plan's parts

pub plan-rows : (s c : ℕ) → plan_size s c ≡ 2 * s + (c * s + c * s) + 4 * s
plan-rows s c = omega (arith, mul-add s (2 * c) 6, mul_left_comm s 2 c, mul_comm s c)

module _ (s c w : ℕ) where
  -- where a part starts inside the plan's block
  abbrev in_plan : PlanPart → ℕ
  in_plan from = 0
  in_plan to = s
  in_plan (from_at k) = 2 * s + k * w
  in_plan (to_at k) = (2 + c) * s + k * w

  module _ (h : w ≤ s) where
    in_plan-inside : (q : PlanPart) → ValidOfPlan c q → in_plan q + w ≤ plan_size s c
    in_plan-inside from v = omega (arith, plan-rows s c)
    in_plan-inside to v = omega (arith, plan-rows s c)
    in_plan-inside (from_at k) v = omega (arith, plan-rows s c, narrow-inside w s h v)
    in_plan-inside (to_at k) v = omega (arith, plan-rows s c, add-mul 2 c s, narrow-inside w s h v)

    in_plan-aside : (q r : PlanPart) → ValidOfPlan c q → ValidOfPlan c r → q ≢ r → Aside (in_plan q) w (in_plan r) w
    in_plan-aside from from v u n = absurd (n refl)
    in_plan-aside from to v u n = inl (omega arith)
    in_plan-aside from (from_at j) v u n = inl (omega arith)
    in_plan-aside from (to_at j) v u n = inl (omega (arith, add-mul 2 c s))
    in_plan-aside to from v u n = inr (omega arith)
    in_plan-aside to to v u n = absurd (n refl)
    in_plan-aside to (from_at j) v u n = inl (omega arith)
    in_plan-aside to (to_at j) v u n = inl (omega (arith, add-mul 2 c s))
    in_plan-aside (from_at k) from v u n = inr (omega arith)
    in_plan-aside (from_at k) to v u n = inr (omega arith)
    in_plan-aside (from_at k) (from_at j) v u n = aside-after (2 * s) (k * w) w (j * w) w (rows_apart w (λ e. n (ap from_at e)))
    in_plan-aside (from_at k) (to_at j) v u n = inl (omega (arith, add-mul 2 c s, narrow-inside w s h v))
    in_plan-aside (to_at k) from v u n = inr (omega (arith, add-mul 2 c s))
    in_plan-aside (to_at k) to v u n = inr (omega (arith, add-mul 2 c s))
    in_plan-aside (to_at k) (from_at j) v u n = inr (omega (arith, add-mul 2 c s, narrow-inside w s h u))
    in_plan-aside (to_at k) (to_at j) v u n = aside-after ((2 + c) * s) (k * w) w (j * w) w (rows_apart w (λ e. n (ap to_at e)))

-- ---- a route's parts

-- the row in the route's block
abbrev in_route : RoutePart → ℕ
in_route (slew p) = p
in_route (random p) = 2 + p

in_route-inside : (s : ℕ) (q : RoutePart) → ValidOfRoute q → in_route q * s + s ≤ route_size s
in_route-inside s (slew p) v = let b : p < 8 = omega arith in row_inside s b
in_route-inside s (random p) v = let b : 2 + p < 8 = omega arith in row_inside s b

in_route-differs : (q r : RoutePart) → ValidOfRoute q → ValidOfRoute r → q ≢ r → in_route q ≢ in_route r
in_route-differs (slew p) (slew o) v u n e = n (ap slew e)
in_route-differs (slew p) (random o) v u n e = omega arith
in_route-differs (random p) (slew o) v u n e = omega arith
in_route-differs (random p) (random o) v u n e = n (ap random (omega arith))

-- ---- the memories as blocks

module _ (z : Sizes) where
  abbrev plan_block : ℕ
  plan_block = plan_size z.stride z.chunks

  abbrev route_block : ℕ
  route_block = route_size z.stride

  abbrev audio_block : ℕ
  audio_block = audio_size z.stride z.frames

  -- of a part of plan i, in the plan's block
  abbrev place : ℕ → PlanPart → ℕ
  place i q = in_plan z.stride z.chunks (row_width z i) q

  values-need : need z values ≡ z.plans * plan_block + z.routes * route_block
  values-need =
      let t = 2 * z.chunks + 6 in
      omega (
        arith,
        mul-add z.stride (z.plans * t) (8 * z.routes),
        mul_left_comm z.stride z.plans t,
        mul_left_comm z.stride 8 z.routes,
        mul_left_comm z.routes 8 z.stride,
        mul_comm z.routes z.stride,
      )

  audio-need : need z audio ≡ z.plans * audio_block
  audio-need = mul_left_comm z.stride z.plans z.frames

  plan-start : (i : ℕ) (q : PlanPart) → start z (of_plan i q) ≡ i * plan_block + place i q
  plan-start i from = omega arith
  plan-start i to = refl
  plan-start i (from_at c) = refl
  plan-start i (to_at c) = refl

  route-start : (r : ℕ) (q : RoutePart) → start z (of_route r q) ≡ z.plans * plan_block + (r * route_block + in_route q * z.stride)
  route-start r (slew p) = refl
  route-start r (random p) = refl

-- ---- THE THEOREMS

module _ (z : Sizes) (h : 1 ≤ z.stride) where
  pub narrow : (i : ℕ) → row_width z i ≤ z.stride
  narrow i = go (z.voice i)
    where
      go : (v : Bool) → plan_width z.stride v ≤ z.stride
      go true = omega arith
      go false = omega arith

  -- what a plan has stays in its block
  of-plan : (i : ℕ) (q : PlanPart) → ValidOfPlan z.chunks q → place z i q + row_width z i ≤ plan_block z
  of-plan i q v = in_plan-inside z.stride z.chunks (row_width z i) (narrow i) q v

  at-frame : (i k : ℕ) → k < z.frames → k * row_width z i + row_width z i ≤ audio_block z
  at-frame i k v = omega (arith, narrow-inside (row_width z i) z.stride (narrow i) v, mul_comm z.stride z.frames)

  -- the plans end before the routes start
  pub plan-ends : (i : ℕ) (q : PlanPart) → Valid z (of_plan i q) → start z (of_plan i q) + row_width z i ≤ z.plans * plan_block z
  plan-ends i q v = omega (arith, plan-start z i q, block_inside (plan_block z) (place z i q) (row_width z i) v.0 (of-plan i q v.1))

  -- EVERY PART ENDS INSIDE ITS MEMORY
  pub parts-inside : {m : Memory} (p : Part m) → Valid z p → start z p + width z p ≤ need z m
  parts-inside (of_plan i q) v = omega (arith, plan-ends i q v, values-need z)
  parts-inside (of_route r q) v =
      omega (
        arith,
        route-start z r q,
        values-need z,
        block_inside (route_block z) (in_route q * z.stride) z.stride v.0 (in_route-inside z.stride q v.1),
      )
  parts-inside (of_frame i k) v =
      omega (arith, audio-need z, block_inside (audio_block z) (k * row_width z i) (row_width z i) v.0 (at-frame i k v.1))

  -- two parts of one plan, and of two
  plan-apart : (i : ℕ) (q r : PlanPart) → ValidOfPlan z.chunks q → ValidOfPlan z.chunks r → q ≢ r → Apart z (of_plan i q) (of_plan i r)
  plan-apart i q r v u n =
      let w = row_width z i in
      rw (plan-start z i q, plan-start z i r)
      (aside-after (i * plan_block z) (place z i q) w (place z i r) w (in_plan-aside z.stride z.chunks w (narrow i) q r v u n))

  plans-apart : (i j : ℕ) (q r : PlanPart) → ValidOfPlan z.chunks q → ValidOfPlan z.chunks r → i ≢ j → Apart z (of_plan i q) (of_plan j r)
  plans-apart i j q r v u n =
      rw (plan-start z i q, plan-start z j r)
      (blocks-aside (plan_block z) (place z i q) (row_width z i) (place z j r) (row_width z j) n (of-plan i q v) (of-plan j r u))

  -- of one route, and of two
  route-apart : (r : ℕ) (q p : RoutePart) → ValidOfRoute q → ValidOfRoute p → q ≢ p → Apart z (of_route r q) (of_route r p)
  route-apart r q p v u n =
      let s = z.stride in
      rw (route-start z r q, route-start z r p)
      (aside-after (z.plans * plan_block z) (r * route_block z + in_route q * s) s (r * route_block z + in_route p * s) s
      (aside-after (r * route_block z) (in_route q * s) s (in_route p * s) s (rows_apart s (in_route-differs q p v u n))))

  routes-apart : (r t : ℕ) (q p : RoutePart) → ValidOfRoute q → ValidOfRoute p → r ≢ t → Apart z (of_route r q) (of_route t p)
  routes-apart r t q p v u n =
      let s = z.stride in
      rw (route-start z r q, route-start z t p)
      (aside-after (z.plans * plan_block z) (r * route_block z + in_route q * s) s (t * route_block z + in_route p * s) s
      (blocks-aside (route_block z) (in_route q * s) s (in_route p * s) s n (in_route-inside s q v) (in_route-inside s p u)))

  -- of one plan's audio rows, and of two plans'
  row_apart : (i k l : ℕ) → k ≢ l → Apart z (of_frame i k) (of_frame i l)
  row_apart i k l n =
      let w = row_width z i in
      aside-after (i * audio_block z) (k * w) w (l * w) w (rows_apart w n)

  -- TWO DIFFERENT PARTS OF ONE MEMORY STAND APART
  pub parts-apart : {m : Memory} (p q : Part m) → Valid z p → Valid z q → p ≢ q → Apart z p q
  parts-apart (of_plan i q) (of_plan j r) v u n = elim (ℕ_discrete i j) [
    | yes e ↦ subst (λ (x : ℕ). Apart z (of_plan i q) (of_plan x r)) e (plan-apart i q r v.1 u.1 (λ d. n (cc)))
    | no d ↦ plans-apart i j q r v.1 u.1 d
  ]
  parts-apart (of_plan i q) (of_route t p) v u n = inl (omega (arith, plan-ends i q v, route-start z t p))
  parts-apart (of_route r q) (of_plan j p) v u n = inr (omega (arith, plan-ends j p u, route-start z r q))
  parts-apart (of_route r q) (of_route t p) v u n = elim (ℕ_discrete r t) [
    | yes e ↦ subst (λ (x : ℕ). Apart z (of_route r q) (of_route x p)) e (route-apart r q p v.1 u.1 (λ d. n (cc)))
    | no d ↦ routes-apart r t q p v.1 u.1 d
  ]
  parts-apart (of_frame i k) (of_frame j l) v u n = elim (ℕ_discrete i j) [
    | yes e ↦ subst (λ (x : ℕ). Apart z (of_frame i k) (of_frame x l)) e (row_apart i k l (λ d. n (cc)))
    | no d ↦ blocks-aside (audio_block z) (k * row_width z i) (row_width z i) (l * row_width z j) (row_width z j) d (at-frame i k v.1) (at-frame j l u.1)
  ]
