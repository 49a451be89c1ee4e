-- What the turns of a tick leave in the lent values: of a plan before its turn and after it, and that the whole is the model's numbers written plan by plan. Assumes nothing.
use mathlib.Core.Path.{◌≡◌, refl, sym, ap, ◌∙◌}
use mathlib.Core.Bool.{Bool, true, false}
use mathlib.Core.Logic.{◌≢◌, ◌⊎◌, inl, inr, ⊎_elim}
use mathlib.Core.List.{List}
use Prim.Native.Nat.{ℕ, zero, suc, ◌+◌, ◌*◌, ◌≤◌, ◌<◌}
use native.Mathlib.Nat.{mul-add, eq-or-lt_of_le, le_of_suc-le-suc, le_refl, le_trans, le_of_lt, lt_of_lt_of_le, min-le_right}
use native.Mathlib.Decide.{ℕ_discrete, dec_lt}
use native.Mathlib.Omega.{arith}
use lib.ListN.{length}
use lib.Ieee.{Float}
use Rattle.list.proofs.Rows.{row_inside}
use Rattle.state.specs.declared.State.{State}
use Rattle.model.specs.Counts.{voice_count, frame_count, stride_of, chunks_most, plan_total, control_total, route_total, plan_at, route_at, at}
use Rattle.model.specs.Env.{Env, Own}
use Rattle.model.specs.Mix.{plan_mix}
use Rattle.model.specs.Layout.{plan_width, plan_size, plan_from, plan_to, route_slew, Sizes, of_plan, of_route}
use Rattle.model.specs.Layout as L
use Rattle.model.specs.Slews.{source_after, aux_after}
use Rattle.model.specs.Tick.{mix_width, new_to, new_from, fill_from, lanes_from, from_start, to_start, own_start, rows_of, own_of, put_slews, slew_after, put_plan, turn, turns, tick_of}
use Rattle.model.specs.Process.{values_of}
use Rattle.model.specs.Rule.{Values}
use Rattle.model.specs.Model.{written}
use Rattle.model.proofs.LayoutHolds.{parts-inside}
use Rattle.model.proofs.ProgramLayout.{stride-least}
use Rattle.model.proofs.FillFrom.{fill-length, fill-inside, fill-outside, fill-same}

-- ---- places

-- k is none of the n places from a on
abbrev Clear : ℕ → ℕ → ℕ → Type 0
Clear a n k = (k < a) ⊎ (a + n ≤ k)

one-first : {a b : ℕ} → a ≢ b → (a < b) ⊎ (b < a)
one-first {a} {b} n = elim (dec_lt a b) [
  | yes h ↦ inl h
  | no h ↦ inr (elim (dec_lt b a) [
    | yes f ↦ f
    | no f ↦ absurd (n (omega arith))
  ])
]

beyond : (a : ℕ) {w l : ℕ} → w ≤ l → a + w ≤ a + l
beyond a h = omega arith

width-most : (s : ℕ) (v : Bool) → 1 ≤ s → plan_width s v ≤ s
width-most s true h = omega arith
width-most s false h = h

-- s the lane stride, c the chunks
module _ (s c : ℕ) where
  plan-block : 2 * s ≤ plan_size s c
  plan-block = omega (arith, mul-add s (2 * c) 6)

  -- a row ends where a later one starts or before: of two plans, of a plan and a route behind n plans, of two routes, of one route
  plans-follow : {i j : ℕ} → i < j → plan_to s c i + s ≤ plan_from s c j
  plans-follow h = omega (arith, row_inside (plan_size s c) h, plan-block)

  plan-before : {n i : ℕ} (r q : ℕ) → i < n → plan_to s c i + s ≤ route_slew s c n r q
  plan-before r q h = omega (arith, plans-follow h)

  routes-follow : (n : ℕ) {r t p : ℕ} (q : ℕ) → r < t → p < 8 → route_slew s c n r p + s ≤ route_slew s c n t q
  routes-follow n q h b = omega (arith, row_inside (8 * s) h, row_inside s b)

  slews-follow : (n r : ℕ) {p q : ℕ} → p < q → route_slew s c n r p + s ≤ route_slew s c n r q
  slews-follow n r h = omega (arith, row_inside s h)

  -- k stands in the rows of plan i
  abbrev InPlan : ℕ → ℕ → Type 0
  InPlan i k = (plan_from s c i ≤ k) × (k < plan_to s c i + s)

  in-from : (i l : ℕ) → l < s → InPlan i (plan_from s c i + l)
  in-from i l h = (omega arith, omega arith)

  in-to : (i l : ℕ) → l < s → InPlan i (plan_to s c i + l)
  in-to i l h = (omega arith, omega arith)

  from-before : (i l : ℕ) → l < s → plan_from s c i + l < plan_to s c i
  from-before i l h = omega arith

  to-behind : (i l : ℕ) {w : ℕ} → w ≤ s → plan_from s c i + w ≤ plan_to s c i + l
  to-behind i l h = omega arith

  -- the rows of another plan are clear of it, and so is every route behind it
  clear-from : {d i w k : ℕ} → d ≢ i → w ≤ s → InPlan i k → Clear (plan_from s c d) w k
  clear-from n h p = ⊎_elim (λ b. inr (omega (arith, plans-follow b))) (λ b. inl (omega (arith, plans-follow b))) (one-first n)

  clear-to : {d i w k : ℕ} → d ≢ i → w ≤ s → InPlan i k → Clear (plan_to s c d) w k
  clear-to n h p = ⊎_elim (λ b. inr (omega (arith, plans-follow b))) (λ b. inl (omega (arith, plans-follow b))) (one-first n)

  clear-route : {n i k : ℕ} (r q : ℕ) → i < n → InPlan i k → Clear (route_slew s c n r q) s k
  clear-route r q h p = inl (omega (arith, plan-before r q h))

  -- k stands in row q of route r
  abbrev InRoute : ℕ → ℕ → ℕ → ℕ → Type 0
  InRoute n r q k = (route_slew s c n r q ≤ k) × (k < route_slew s c n r q + s)

  in-route : (n r q l : ℕ) → l < s → InRoute n r q (route_slew s c n r q + l)
  in-route n r q l h = (omega arith, omega arith)

  -- the rows of a plan are clear of it, and so is every other row of a route
  route-clear-from : {n d w k : ℕ} (r q : ℕ) → d < n → w ≤ s → InRoute n r q k → Clear (plan_from s c d) w k
  route-clear-from r q h b p = inr (omega (arith, plan-before r q h))

  route-clear-to : {n d w k : ℕ} (r q : ℕ) → d < n → w ≤ s → InRoute n r q k → Clear (plan_to s c d) w k
  route-clear-to r q h b p = inr (omega (arith, plan-before r q h))

  clear-of-route : (n : ℕ) {r q t o k : ℕ} → t ≢ r → q < 8 → o < 8 → InRoute n r q k → Clear (route_slew s c n t o) s k
  clear-of-route n {r} {q} {t} {o} e b f p =
      ⊎_elim (λ h. inr (omega (arith, routes-follow n q h f))) (λ h. inl (omega (arith, routes-follow n o h b))) (one-first e)

  clear-of-row : (n r : ℕ) {q o k : ℕ} → o ≢ q → InRoute n r q k → Clear (route_slew s c n r o) s k
  clear-of-row n r e p = ⊎_elim (λ h. inr (omega (arith, slews-follow n r h))) (λ h. inl (omega (arith, slews-follow n r h))) (one-first e)

-- ---- the slews of a plan

module _ (st : State) (d : ℕ) where
  -- the place of row q of its route j
  abbrev own_at : ℕ → ℕ → ℕ
  own_at j q = own_start st ((plan_at st d).first + j) q

  -- with row 0 of its route k, before row 1
  abbrev half_put : Own → ℕ → List Float → List Float
  half_put g k m = fill_from (put_slews st d g k m) (own_at k 0) (g k 0) (stride_of st)

  slews-length : (g : Own) (k : ℕ) (m : List Float) → length (put_slews st d g k m) ≡ length m
  unfolding put_slews
  slews-length g zero m = refl
  slews-length g (suc k) m =
      fill-length (half_put g k m) (own_at k 1) (g k 1) (stride_of st)
      ∙ fill-length (put_slews st d g k m) (own_at k 0) (g k 0) (stride_of st)
      ∙ slews-length g k m

  slews-off : (g : Own) (k p : ℕ) (m : List Float) → ((j q : ℕ) → j < k → q < 2 → Clear (own_at j q) (stride_of st) p)
      → at (put_slews st d g k m) p ≡ at m p
  unfolding put_slews
  slews-off g zero p m h = refl
  slews-off g (suc k) p m h =
      fill-outside (half_put g k m) (own_at k 1) (g k 1) (stride_of st) p (h k 1 (omega arith) (omega arith))
      ∙ fill-outside (put_slews st d g k m) (own_at k 0) (g k 0) (stride_of st) p (h k 0 (omega arith) (omega arith))
      ∙ slews-off g k p m (λ j q b e. h j q (omega arith) e)

  slews-at : (g : Own) (k j q l : ℕ) (m : List Float) → j < k → q < 2 → l < stride_of st → own_at j q + l < length m
      → at (put_slews st d g k m) (own_at j q + l) ≡ g j q l
  unfolding put_slews
  slews-at g zero j q l m h b i r = absurd (omega arith)
  slews-at g (suc k) j q l m h b i r = ⊎_elim (λ (e : j ≡ k). here e) (λ (e : j < k). before e (slews-at g k j q l m e b i r)) (eq-or-lt_of_le (le_of_suc-le-suc h))
    where
      before : j < k → at (put_slews st d g k m) (own_at j q + l) ≡ g j q l → at (put_slews st d g (suc k) m) (own_at j q + l) ≡ g j q l
      before e x =
          let s = stride_of st in
          let c = chunks_most st in
          let n = plan_total st.program in
          let f = (plan_at st d).first in
          let other : f + k ≢ f + j = λ x. omega arith in
          let place = in-route s c n (f + j) q l i in
          fill-outside (half_put g k m) (own_at k 1) (g k 1) s (own_at j q + l) (clear-of-route s c n other (omega arith) (omega arith) place)
          ∙ fill-outside (put_slews st d g k m) (own_at k 0) (g k 0) s (own_at j q + l) (clear-of-route s c n other (omega arith) (omega arith) place)
          ∙ x

      row : (o : ℕ) → o < 2 → own_at k o + l < length m → at (put_slews st d g (suc k) m) (own_at k o + l) ≡ g k o l
      row zero e u =
          let s = stride_of st in
          let c = chunks_most st in
          let n = plan_total st.program in
          let f = (plan_at st d).first in
          let place = in-route s c n (f + k) 0 l i in
          fill-outside (half_put g k m) (own_at k 1) (g k 1) s (own_at k 0 + l) (clear-of-row s c n (f + k) (λ x. omega arith) place)
          ∙ fill-inside (put_slews st d g k m) (own_at k 0) (g k 0) s l i (rw (slews-length g k m) u)
      row (suc zero) e u =
          fill-inside (half_put g k m) (own_at k 1) (g k 1) (stride_of st) l i
          (rw (fill-length (put_slews st d g k m) (own_at k 0) (g k 0) (stride_of st), slews-length g k m) u)
      row (suc (suc o)) e u = absurd (omega arith)

      here : j ≡ k → at (put_slews st d g (suc k) m) (own_at j q + l) ≡ g j q l
      here e = rw e (row q b (rw e at r))

  -- own numbers that agree are put alike
  slews-same : (g h : Own) (k : ℕ) (m : List Float) → ((j q l : ℕ) → j < k → q < 2 → l < stride_of st → g j q l ≡ h j q l)
      → put_slews st d g k m ≡ put_slews st d h k m
  unfolding put_slews
  slews-same g h zero m e = refl
  slews-same g h (suc k) m e =
      let s = stride_of st in
      let half : half_put g k m ≡ half_put h k m =
      ap (λ (x : List Float). fill_from x (own_at k 0) (g k 0) s) (slews-same g h k m (λ j q l a b i. e j q l (omega arith) b i))
      ∙ fill-same (put_slews st d h k m) (own_at k 0) (g k 0) (h k 0) s (λ l i. e k 0 l (omega arith) (omega arith) i) in
      ap (λ (x : List Float). fill_from x (own_at k 1) (g k 1) s) half
      ∙ fill-same (half_put h k m) (own_at k 1) (g k 1) (h k 1) s (λ l i. e k 1 l (omega arith) (omega arith) i)

-- ---- one plan put

-- place k is none of those that plan d of width w is put into
record Off (st : State) (d w k : ℕ) : Type 0 where
  start : Clear (from_start st d) w k
  number : Clear (to_start st d) w k
  slews : (j q : ℕ) → j < (plan_at st d).count → q < 2 → Clear (own_at st d j q) (stride_of st) k

module _ (st : State) (d w : ℕ) (to from : ℕ → Float) (slew : Own) (m : List Float) where
  -- with the starts of ramps, and then the numbers
  abbrev starts_put : List Float
  starts_put = fill_from m (from_start st d) from w

  abbrev rows_put : List Float
  rows_put = fill_from starts_put (to_start st d) to w

  abbrev all_put : List Float
  all_put = put_plan st d w to from slew m

  rows-length : length rows_put ≡ length m
  rows-length = fill-length starts_put (to_start st d) to w ∙ fill-length m (from_start st d) from w

  put-length : length all_put ≡ length m
  put-length = slews-length st d slew (plan_at st d).count rows_put ∙ rows-length

  put-off : (k : ℕ) → Off st d w k → at all_put k ≡ at m k
  put-off k o =
      slews-off st d slew (plan_at st d).count k rows_put o.slews
      ∙ fill-outside starts_put (to_start st d) to w k o.number
      ∙ fill-outside m (from_start st d) from w k o.start

  module _ (i : d < plan_total st.program) (h : w ≤ stride_of st) where
    put-to : (l : ℕ) → l < w → to_start st d + l < length m → at all_put (to_start st d + l) ≡ to l
    put-to l b r =
        let s = stride_of st in
        let c = chunks_most st in
        let place = in-to s c d l (lt_of_lt_of_le b h) in
        slews-off st d slew (plan_at st d).count (to_start st d + l) rows_put (λ j q x y. clear-route s c ((plan_at st d).first + j) q i place)
        ∙ fill-inside starts_put (to_start st d) to w l b (rw (fill-length m (from_start st d) from w) r)

    put-from : (l : ℕ) → l < w → from_start st d + l < length m → at all_put (from_start st d + l) ≡ from l
    put-from l b r =
        let s = stride_of st in
        let c = chunks_most st in
        let place = in-from s c d l (lt_of_lt_of_le b h) in
        slews-off st d slew (plan_at st d).count (from_start st d + l) rows_put (λ j q x y. clear-route s c ((plan_at st d).first + j) q i place)
        ∙ fill-outside starts_put (to_start st d) to w (from_start st d + l) (inl (from-before s c d l (lt_of_lt_of_le b h)))
        ∙ fill-inside m (from_start st d) from w l b r

  put-own : (j q l : ℕ) → j < (plan_at st d).count → q < 2 → l < stride_of st → own_at st d j q + l < length m → at all_put (own_at st d j q + l) ≡ slew j q l
  put-own j q l b e i r = slews-at st d slew (plan_at st d).count j q l rows_put b e i (rw rows-length r)

-- numbers that agree are put alike
put_same : (st : State) (d w : ℕ) (to to' from from' : ℕ → Float) (slew slew' : Own) (m : List Float)
    → ((l : ℕ) → l < w → to l ≡ to' l)
    → ((l : ℕ) → l < w → from l ≡ from' l)
    → ((j q l : ℕ) → j < (plan_at st d).count → q < 2 → l < stride_of st → slew j q l ≡ slew' j q l)
    → put_plan st d w to from slew m ≡ put_plan st d w to' from' slew' m
put_same st d w to to' from from' slew slew' m e f g =
    let n = (plan_at st d).count in
    slews-same st d slew slew' n (rows_put st d w to from slew m) g
    ∙ ap (put_slews st d slew' n)
    (ap (λ (x : List Float). fill_from x (to_start st d) to w) (fill-same m (from_start st d) from from' w f)
    ∙ fill-same (starts_put st d w to from' slew m) (to_start st d) to to' w e)

-- ---- written

-- TWO THAT AGREE on the first k plans ARE WRITTEN ALIKE
pub written_same : (st : State) (m : List Float) (u v : Values) (k : ℕ)
    → ((i l : ℕ) → i < k → l < plan_width (stride_of st) (plan_at st i).voice → u.to (plan_at st i).dest l ≡ v.to (plan_at st i).dest l)
    → ((i l : ℕ) → i < k → l < plan_width (stride_of st) (plan_at st i).voice → u.from (plan_at st i).dest l ≡ v.from (plan_at st i).dest l)
    → ((i j q l : ℕ) → i < k → j < (plan_at st i).count → q < 2 → l < stride_of st
    → u.own (route_at st ((plan_at st i).first + j)).slot q l ≡ v.own (route_at st ((plan_at st i).first + j)).slot q l)
    → written st u k m ≡ written st v k m
unfolding written
written_same st m u v zero e f g = refl
written_same st m u v (suc k) e f g =
    let p = plan_at st k in
    let w = plan_width (stride_of st) p.voice in
    let own : Values → Own = λ x j. x.own (route_at st (p.first + j)).slot in
    let b : k < suc k = omega arith in
    ap (put_plan st k w (u.to p.dest) (u.from p.dest) (own u))
    (written_same st m u v k (λ i l h. e i l (omega arith)) (λ i l h. f i l (omega arith)) (λ i j q l h. g i j q l (omega arith)))
    ∙ put_same st k w (u.to p.dest) (v.to p.dest) (u.from p.dest) (v.from p.dest) (own u) (own v) (written st v k m)
    (λ l. e k l b) (λ l. f k l b) (λ j q l. g k j q l b)

-- ---- the turns

-- THE ROUTES OF CONTROL PLANS STAND PLAN BY PLAN, inside the program's
pub record Laid (st : State) : Type 0 where
  pub apart : (a b : ℕ) → a < b → b < control_total st.program → (plan_at st a).first + (plan_at st a).count ≤ (plan_at st b).first
  pub inside : (d : ℕ) → d < control_total st.program → (plan_at st d).first + (plan_at st d).count ≤ route_total st.program

control-plan : (st : State) {i : ℕ} → i < control_total st.program → i < plan_total st.program
control-plan st h = lt_of_lt_of_le h (min-le_right st.program.control (plan_total st.program))

-- the sizes, with room for a whole row in each
abbrev whole_rows : State → Sizes
whole_rows st =
    record {
      stride = stride_of st;
      chunks = chunks_most st;
      frames = frame_count st;
      plans = plan_total st.program;
      routes = route_total st.program;
      voice = λ i. true;
    }

to_inside : (st : State) {i : ℕ} → i < plan_total st.program → to_start st i + stride_of st ≤ values_of st
to_inside st {i} h = parts-inside (whole_rows st) (stride-least (voice_count st)) (of_plan i L.to) (h, tt)

own-inside : (st : State) {r q : ℕ} → r < route_total st.program → q < 2 → own_start st r q + stride_of st ≤ values_of st
own-inside st {r} {q} h b = parts-inside (whole_rows st) (stride-least (voice_count st)) (of_route r (L.slew q)) (h, b)

-- the widths of a plan in a tick and in the model
same_width : (st : State) (t : Env) → t.stride ≡ stride_of st → (d : ℕ) → mix_width t (plan_mix st d) ≡ plan_width (stride_of st) (plan_at st d).voice
same_width st t same d = ap (λ (s : ℕ). plan_width s (plan_at st d).voice) same

width_fits : (st : State) (t : Env) → t.stride ≡ stride_of st → (d : ℕ) → mix_width t (plan_mix st d) ≤ stride_of st
width_fits st t same d = rw (same_width st t same d) (width-most (stride_of st) (plan_at st d).voice (stride-least (voice_count st)))

module _ (st : State) (t : Env) (phase : ℕ) where
  -- what the turn of plan d puts, the values being m
  abbrev to_by : ℕ → List Float → ℕ → Float
  to_by d m = new_to t phase (plan_mix st d) (rows_of st m) (own_of st m d) (rows_of st m d)

  abbrev from_by : ℕ → List Float → ℕ → Float
  from_by d m = new_from t phase (plan_mix st d) (rows_of st m) (own_of st m d) (rows_of st m d) (lanes_from m (from_start st d))

  abbrev own_by : ℕ → List Float → Own
  own_by d m = slew_after t (plan_mix st d) (rows_of st m) (own_of st m d)

  turn_is : (d : ℕ) (m : List Float) → turn st t phase d m ≡ put_plan st d (mix_width t (plan_mix st d)) (to_by d m) (from_by d m) (own_by d m) m
  unfolding turn
  turn_is d m = refl

module _ (st : State) (t : Env) (phase : ℕ) (m : List Float) (laid : Laid st) (same : t.stride ≡ stride_of st) (room : values_of st ≤ length m) where
  abbrev after : ℕ → List Float
  after k = turns st t phase k m

  abbrev width_at : ℕ → ℕ
  width_at d = mix_width t (plan_mix st d)

  next : (k : ℕ) → after (suc k) ≡ put_plan st k (width_at k) (to_by st t phase k (after k)) (from_by st t phase k (after k)) (own_by st t phase k (after k)) (after k)
  unfolding turns
  next k = turn_is st t phase k (after k)

  tick_is : tick_of st t phase m ≡ after (control_total st.program)
  unfolding tick_of
  tick_is = refl

  -- AS LONG AS BEFORE
  pub turns-length : (k : ℕ) → length (turns st t phase k m) ≡ length m
  unfolding turns
  turns-length zero = refl
  turns-length (suc k) =
      ap length (next k)
      ∙ put-length st k (width_at k) (to_by st t phase k (after k)) (from_by st t phase k (after k)) (own_by st t phase k (after k)) (after k)
      ∙ turns-length k

  -- a place that no plan from a up to k is put into
  turns-off : (a k p : ℕ) → a ≤ k → ((d : ℕ) → a ≤ d → d < k → Off st d (width_at d) p) → at (after k) p ≡ at (after a) p
  turns-off a zero p h o = let e : 0 ≡ a = omega arith in ap (λ (x : ℕ). at (after x) p) e
  turns-off a (suc k) p h o =
      ⊎_elim
      (λ (e : a ≡ suc k). ap (λ (x : ℕ). at (after x) p) (sym e))
      (λ (b : a < suc k).
      ap (λ (x : List Float). at x p) (next k)
      ∙ put-off st k (width_at k) (to_by st t phase k (after k)) (from_by st t phase k (after k)) (own_by st t phase k (after k)) (after k) p (o k (omega arith) (omega arith))
      ∙ turns-off a k p (omega arith) (λ d x y. o d x (omega arith)))
      (eq-or-lt_of_le h)

  turns-off-all : (k p : ℕ) → ((d : ℕ) → d < k → Off st d (width_at d) p) → at (after k) p ≡ at m p
  unfolding turns
  turns-off-all k p o = turns-off 0 k p (omega arith) (λ d x y. o d y)

  -- the places of plan i, and of its routes, are none of another plan's
  plan-off : (d i p : ℕ) → d ≢ i → i < control_total st.program → InPlan (stride_of st) (chunks_most st) i p → Off st d (width_at d) p
  plan-off d i p n h e =
      let s = stride_of st in
      let c = chunks_most st in
      record {
        start = clear-from s c n (width_fits st t same d) e;
        number = clear-to s c n (width_fits st t same d) e;
        slews = λ j q x y. clear-route s c ((plan_at st d).first + j) q (control-plan st h) e;
      }

  route-off : (d r q p : ℕ) → d < control_total st.program → InRoute (stride_of st) (chunks_most st) (plan_total st.program) r q p
      → ((j o : ℕ) → j < (plan_at st d).count → o < 2 → Clear (own_at st d j o) (stride_of st) p) → Off st d (width_at d) p
  route-off d r q p h e f =
      let s = stride_of st in
      let c = chunks_most st in
      record {
        start = route-clear-from s c r q (control-plan st h) (width_fits st t same d) e;
        number = route-clear-to s c r q (control-plan st h) (width_fits st t same d) e;
        slews = f;
      }

  own-off : (d i j q l : ℕ) → d ≢ i → d < control_total st.program → i < control_total st.program → j < (plan_at st i).count → q < 4 → l < stride_of st
      → Off st d (width_at d) (own_at st i j q + l)
  own-off d i j q l n h b e f x =
      let s = stride_of st in
      let c = chunks_most st in
      let r = (plan_at st i).first + j in
      let p = in-route s c (plan_total st.program) r q l x in
      route-off d r q (own_at st i j q + l) h p (λ o a y z. clear-of-route s c (plan_total st.program) (others o y) (omega arith) (omega arith) p)
    where
      others : (o : ℕ) → o < (plan_at st d).count → (plan_at st d).first + o ≢ (plan_at st i).first + j
      others o y z = ⊎_elim (λ g. omega (arith, laid.apart d i g b)) (λ g. omega (arith, laid.apart i d g h)) (one-first n)

  -- ---- BEFORE ITS TURN a plan has what it had

  pub to-early : (k i l : ℕ) → k ≤ i → i < control_total st.program → l < stride_of st
      → at (turns st t phase k m) (to_start st i + l) ≡ at m (to_start st i + l)
  to-early k i l h b x =
      turns-off-all k (to_start st i + l) (λ d e. plan-off d i (to_start st i + l) (λ z. omega arith) b (in-to (stride_of st) (chunks_most st) i l x))

  pub from-early : (k i l : ℕ) → k ≤ i → i < control_total st.program → l < stride_of st
      → at (turns st t phase k m) (from_start st i + l) ≡ at m (from_start st i + l)
  from-early k i l h b x =
      turns-off-all k (from_start st i + l) (λ d e. plan-off d i (from_start st i + l) (λ z. omega arith) b (in-from (stride_of st) (chunks_most st) i l x))

  pub own-early : (k i j q l : ℕ) → k ≤ i → i < control_total st.program → j < (plan_at st i).count → q < 4 → l < stride_of st
      → at (turns st t phase k m) (own_start st ((plan_at st i).first + j) q + l) ≡ at m (own_start st ((plan_at st i).first + j) q + l)
  own-early k i j q l h b e f x =
      turns-off-all k (own_at st i j q + l) (λ d g. own-off d i j q l (λ z. omega arith) (lt_of_lt_of_le g (le_trans h (le_of_lt b))) b e f x)

  -- random inputs never change
  pub own-random : (k i j q l : ℕ) → k ≤ control_total st.program → i < control_total st.program → j < (plan_at st i).count → 2 ≤ q → q < 4 → l < stride_of st
      → at (turns st t phase k m) (own_start st ((plan_at st i).first + j) q + l) ≡ at m (own_start st ((plan_at st i).first + j) q + l)
  own-random k i j q l h b e f g x =
      let s = stride_of st in
      let c = chunks_most st in
      let n = plan_total st.program in
      let r = (plan_at st i).first + j in
      let p = in-route s c n r q l x in
      turns-off-all k (own_at st i j q + l) (λ d y.
      route-off d r q (own_at st i j q + l) (lt_of_lt_of_le y h) p (λ o a u v. elim (ℕ_discrete ((plan_at st d).first + o) r) [
        | no w ↦ clear-of-route s c n w (omega arith) (omega arith) p
        | yes w ↦ rw w (clear-of-row s c n r (λ z. omega arith) p)
      ]))

  -- ---- AFTER ITS TURN it has what its turn made of the values as they then were

  pub to-done : (k i l : ℕ) → i < k → k ≤ control_total st.program → l < mix_width t (plan_mix st i)
      → at (turns st t phase k m) (to_start st i + l)
      ≡ new_to t phase (plan_mix st i) (rows_of st (turns st t phase i m)) (own_of st (turns st t phase i m) i) (rows_of st (turns st t phase i m) i) l
  to-done k i l h b x =
      let c : i < control_total st.program = lt_of_lt_of_le h b in
      let e : l < stride_of st = lt_of_lt_of_le x (width_fits st t same i) in
      let p = to_start st i + l in
      let v = after i in
      turns-off (suc i) k p h (λ d f g. plan-off d i p (λ z. omega arith) c (in-to (stride_of st) (chunks_most st) i l e))
      ∙ ap (λ (y : List Float). at y p) (next i)
      ∙ put-to st i (width_at i) (to_by st t phase i v) (from_by st t phase i v) (own_by st t phase i v) v (control-plan st c) (width_fits st t same i) l x
      (rw (turns-length i) (lt_of_lt_of_le (in-to (stride_of st) (chunks_most st) i l e).1 (le_trans (to_inside st (control-plan st c)) room)))

  pub from-done : (k i l : ℕ) → i < k → k ≤ control_total st.program → l < mix_width t (plan_mix st i)
      → at (turns st t phase k m) (from_start st i + l)
      ≡ new_from t phase (plan_mix st i) (rows_of st (turns st t phase i m)) (own_of st (turns st t phase i m) i) (rows_of st (turns st t phase i m) i)
      (lanes_from (turns st t phase i m) (from_start st i)) l
  from-done k i l h b x =
      let c : i < control_total st.program = lt_of_lt_of_le h b in
      let e : l < stride_of st = lt_of_lt_of_le x (width_fits st t same i) in
      let p = from_start st i + l in
      let v = after i in
      turns-off (suc i) k p h (λ d f g. plan-off d i p (λ z. omega arith) c (in-from (stride_of st) (chunks_most st) i l e))
      ∙ ap (λ (y : List Float). at y p) (next i)
      ∙ put-from st i (width_at i) (to_by st t phase i v) (from_by st t phase i v) (own_by st t phase i v) v (control-plan st c) (width_fits st t same i) l x
      (rw (turns-length i) (lt_of_lt_of_le (in-from (stride_of st) (chunks_most st) i l e).1 (le_trans (to_inside st (control-plan st c)) room)))

  own-done : (k i j q l : ℕ) → i < k → k ≤ control_total st.program → j < (plan_at st i).count → q < 2 → l < stride_of st
      → at (turns st t phase k m) (own_at st i j q + l) ≡ own_by st t phase i (after i) j q l
  own-done k i j q l h b e f x =
      let c : i < control_total st.program = lt_of_lt_of_le h b in
      let p = own_at st i j q + l in
      let v = after i in
      let r : (plan_at st i).first + j < route_total st.program = lt_of_lt_of_le (omega arith) (laid.inside i c) in
      turns-off (suc i) k p h (λ d y g. own-off d i j q l (λ z. omega arith) (lt_of_lt_of_le g b) c e (omega arith) x)
      ∙ ap (λ (y : List Float). at y p) (next i)
      ∙ put-own st i (width_at i) (to_by st t phase i v) (from_by st t phase i v) (own_by st t phase i v) v j q l e f x
      (rw (turns-length i) (lt_of_lt_of_le (in-route (stride_of st) (chunks_most st) (plan_total st.program) ((plan_at st i).first + j) q l x).1 (le_trans (own-inside st r f) room)))

  pub source-done : (k i j l : ℕ) → i < k → k ≤ control_total st.program → j < (plan_at st i).count → l < stride_of st
      → at (turns st t phase k m) (own_start st ((plan_at st i).first + j) 0 + l)
      ≡ source_after t (plan_mix st i) (rows_of st (turns st t phase i m)) (own_of st (turns st t phase i m) i) j l
  source-done k i j l h b e x = own-done k i j 0 l h b e (omega arith) x

  pub aux-done : (k i j l : ℕ) → i < k → k ≤ control_total st.program → j < (plan_at st i).count → l < stride_of st
      → at (turns st t phase k m) (own_start st ((plan_at st i).first + j) 1 + l)
      ≡ aux_after t (plan_mix st i) (rows_of st (turns st t phase i m)) (own_of st (turns st t phase i m) i) j l
  aux-done k i j l h b e x = own-done k i j 1 l h b e (omega arith) x

  -- the lanes of a row beyond the width are as they were
  pub to-beyond : (k i l : ℕ) → i < control_total st.program → mix_width t (plan_mix st i) ≤ l → l < stride_of st
      → at (turns st t phase k m) (to_start st i + l) ≡ at m (to_start st i + l)
  to-beyond k i l h b x =
      turns-off-all k (to_start st i + l) (λ d y. elim (ℕ_discrete d i) [
        | no n ↦ plan-off d i (to_start st i + l) n h place
        | yes e ↦ rw e here
      ])
    where
      place : InPlan (stride_of st) (chunks_most st) i (to_start st i + l)
      place = in-to (stride_of st) (chunks_most st) i l x

      here : Off st i (width_at i) (to_start st i + l)
      here =
          record {
            start = inr (to-behind (stride_of st) (chunks_most st) i l (width_fits st t same i));
            number = inr (beyond (to_start st i) b);
            slews = λ j q e f. clear-route (stride_of st) (chunks_most st) ((plan_at st i).first + j) q (control-plan st h) place;
          }

  -- ---- THE TICK WRITES what u has for each control plan, where u has what the tick leaves there

  module _ (u : Values)
      (a : (i l : ℕ) → i < control_total st.program → l < mix_width t (plan_mix st i) → u.to (plan_at st i).dest l ≡ at (tick_of st t phase m) (to_start st i + l))
      (b : (i l : ℕ) → i < control_total st.program → l < mix_width t (plan_mix st i) → u.from (plan_at st i).dest l ≡ at (tick_of st t phase m) (from_start st i + l))
      (c : (i j q l : ℕ) → i < control_total st.program → j < (plan_at st i).count → q < 2 → l < stride_of st
      → u.own (route_at st ((plan_at st i).first + j)).slot q l ≡ at (tick_of st t phase m) (own_start st ((plan_at st i).first + j) q + l)) where
    first-written : (k : ℕ) → k ≤ control_total st.program → turns st t phase k m ≡ written st u k m
    unfolding written turns
    first-written zero h = refl
    first-written (suc k) h =
        let n = control_total st.program in
        let v = after k in
        let p = plan_at st k in
        let own : Own = λ j. u.own (route_at st (p.first + j)).slot in
        next k
        ∙ put_same st k (width_at k) (to_by st t phase k v) (u.to p.dest) (from_by st t phase k v) (u.from p.dest) (own_by st t phase k v) own v
        (λ l x. sym (a k l h x ∙ ap (λ (y : List Float). at y (to_start st k + l)) tick_is ∙ to-done n k l h (le_refl n) x))
        (λ l x. sym (b k l h x ∙ ap (λ (y : List Float). at y (from_start st k + l)) tick_is ∙ from-done n k l h (le_refl n) x))
        (λ j q l e f x. sym (c k j q l h e f x ∙ ap (λ (y : List Float). at y (own_at st k j q + l)) tick_is ∙ own-done n k j q l h (le_refl n) e f x))
        ∙ ap (λ (w : ℕ). put_plan st k w (u.to p.dest) (u.from p.dest) own v) (same_width st t same k)
        ∙ ap (put_plan st k (plan_width (stride_of st) p.voice) (u.to p.dest) (u.from p.dest) own) (first-written k (le_of_lt h))

    pub turns-written : tick_of st t phase m ≡ written st u (control_total st.program) m
    turns-written = tick_is ∙ first-written (control_total st.program) (le_refl (control_total st.program))
