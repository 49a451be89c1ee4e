-- New slews that are put where they lie are the slews of the plan. Assumes nothing.
use Rattle.std.specs.Prelude.{Option, Some, None}
use mathlib.Core.Path.{◌≡◌, refl, sym, ap, ◌∙◌}
use mathlib.Core.Bool.{Bool, true, false, cond, ◌&&◌}
use mathlib.Core.Logic.{inr, ⊎_elim}
use mathlib.Core.List.{List}
use Prim.Native.Nat.{ℕ, zero, suc, ◌+◌, ◌*◌, ◌≤◌, ◌<◌}
use native.Mathlib.Nat.{eq-or-lt_of_le, le_of_suc-le-suc}
use native.Mathlib.Numerals.{add-one}
use native.Mathlib.Decide.{dec_lt}
use native.Mathlib.Omega.{arith}
use lib.ListN.{length, get_or}
use lib.Ieee.{Float, nan}
use Rattle.list.proofs.Rows.{row_inside}
use Rattle.list.proofs.Elements.{get_or_past}
use Rattle.state.specs.declared.Gain.TheVariants as G
use Rattle.state.specs.declared.Read.TheVariants as D
use Rattle.state.specs.declared.Input.{Input}
use Rattle.state.specs.declared.Route.{Route}
use Rattle.state.specs.declared.State.{State}
use Rattle.state_filled.specs.Filled.{no_route}
use Rattle.model.specs.Counts.{stride_of, chunks_most, plan_total, plan_at, at}
use Rattle.model.specs.Env.{Env, Rows, Own}
use Rattle.model.specs.Layout.{route_slew}
use Rattle.model.specs.Mix.{Mix}
use Rattle.model.specs.Routes.{free_slew}
use Rattle.model.specs.Slews.{aux_slew, source_after, aux_after}
use Rattle.model.specs.Tick.{fill_from, lanes_from, own_start, put_slews, slew_after}
use Rattle.model.proofs.FillFrom.{fill-length, fill-outside, fill-same, fill-self}
use Rattle.lane_input.proofs.Numbers.{which}
use Rattle.lane_input.specs.Reads.{plan_rows}
use Rattle.lane.specs.View.{own_rows}
use Rattle.plan_slews.specs.Seen.{Lies}
use Rattle.plan_slews.specs.Put.{aux_free, still, new_start, IsNew, put_route, put_new}

-- what is read past the routes of an array
abbrev pub unread : Route
unread =
    record {
      slot = 0;
      source = record { read = D.Signal 0 false; bipolar = false; table = false; slew = None };
      aux = None;
      aux_invert = false;
      bipolar = false;
      amount = G.Live;
      output = G.Live;
      voice = false;
      scale = nan;
      offset = nan;
      simple = false;
    }

-- ---- the loop

module _ (s c n first : ℕ) (routes : List Route) (new : List Float) where
  pub put-none : (m : List Float) → m ≡ put_new s c n first routes new 0 m
  unfolding put_new
  put-none m = refl

  pub put-more : (k : ℕ) (m p q : List Float) (r : Route) (a : ℕ) → p ≡ put_new s c n first routes new k m → r ≡ get_or routes (first + k) no_route → a ≡ route_slew s c n (first + k) 0
      → q ≡ put_route s r a new k p → q ≡ put_new s c n first routes new (k + 1) m
  unfolding put_new
  put-more k m p q r a e f g h = rw (add-one, ← e, ← f, ← g) h

  pub put-route-length : (r : Route) (a k : ℕ) (m : List Float) → length (put_route s r a new k m) ≡ length m
  put-route-length r a k m = go (still r)
    where
      go : (b : Bool) → length (cond b m (fill_from (fill_from m a (lanes_from new (new_start k 0)) s) (a + s) (lanes_from new (new_start k 1)) s)) ≡ length m
      go true = refl
      go false =
          fill-length (fill_from m a (lanes_from new (new_start k 0)) s) (a + s) (lanes_from new (new_start k 1)) s
          ∙ fill-length m a (lanes_from new (new_start k 0)) s

  pub put-end : (k l : ℕ) (m p : List Float) → p ≡ put_new s c n first routes new k m → k ≡ l → p ≡ put_new s c n first routes new l m
  put-end k l m p e h = e ∙ ap (λ (y : ℕ). put_new s c n first routes new y m) h

  -- routes without slews change nothing
  pub put-still : (k b : ℕ) (m : List Float) → b ≤ k → ((j : ℕ) → b ≤ j → j < k → still (get_or routes (first + j) no_route) ≡ true)
      → put_new s c n first routes new b m ≡ put_new s c n first routes new k m
  unfolding put_new
  put-still zero b m h e = let z : b ≡ 0 = omega arith in ap (λ (y : ℕ). put_new s c n first routes new y m) z
  put-still (suc k) b m h e =
      ⊎_elim
      (λ (z : b ≡ suc k). ap (λ (y : ℕ). put_new s c n first routes new y m) z)
      (λ (z : b < suc k). rw (e k (le_of_suc-le-suc z) (omega arith)) (put-still k b m (le_of_suc-le-suc z) (λ j u v. e j u (omega arith))))
      (eq-or-lt_of_le h)

-- the two rows of one route
pub two-parts : (m n o : List Float) (a w : ℕ) (new : List Float) (j : ℕ) → n ≡ fill_from m a (lanes_from new (j * 128)) w → o ≡ fill_from n (a + w) (lanes_from new (j * 128 + 64)) w
    → o ≡ fill_from (fill_from m a (lanes_from new (new_start j 0)) w) (a + w) (lanes_from new (new_start j 1)) w
two-parts m n o a w new j e d =
    let p : j * 128 ≡ new_start j 0 = omega arith in
    let q : j * 128 + 64 ≡ new_start j 1 = omega arith in
    rw (← p, ← q, ← e) d

-- ---- against the definition

module _ (st : State) (d : ℕ) (g : Own) (m : List Float) where
  abbrev place : ℕ → ℕ → ℕ
  place j q = own_start st ((plan_at st d).first + j) q

  -- from route k on the numbers are as they were while the routes before it are put
  later : (k p : ℕ) → place k 0 ≤ p → at (put_slews st d g k m) p ≡ at m p
  unfolding put_slews
  later zero p h = refl
  later (suc k) p h =
      let s = stride_of st in
      let f = (plan_at st d).first in
      let step : f + k < f + suc k = omega arith in
      let room = row_inside (8 * s) step in
      fill-outside (fill_from (put_slews st d g k m) (place k 0) (g k 0) s) (place k 1) (g k 1) s p (inr (omega arith))
      ∙ fill-outside (put_slews st d g k m) (place k 0) (g k 0) s p (inr (omega arith))
      ∙ later k p (omega arith)

  module _ (routes : List Route) (new : List Float) where
    abbrev route_of : ℕ → Route
    route_of j = get_or routes ((plan_at st d).first + j) no_route

    abbrev put_by : ℕ → List Float
    put_by k = put_new (stride_of st) (chunks_most st) (plan_total st.program) (plan_at st d).first routes new k m

    -- with route k's two rows, as g has them
    abbrev with_route : ℕ → List Float
    with_route k = fill_from (fill_from (put_slews st d g k m) (place k 0) (g k 0) (stride_of st)) (place k 1) (g k 1) (stride_of st)

    kept : (k : ℕ) → ((q l : ℕ) → q < 2 → l < stride_of st → g k q l ≡ at m (place k q + l)) → with_route k ≡ put_slews st d g k m
    kept k v =
        let o = put_slews st d g k m in
        ap (λ (y : List Float). fill_from y (place k 1) (g k 1) (stride_of st))
        (fill-self o (place k 0) (g k 0) (stride_of st) (λ l b. v 0 l (omega arith) b ∙ sym (later k (place k 0 + l) (omega arith))))
        ∙ fill-self o (place k 1) (g k 1) (stride_of st) (λ l b. v 1 l (omega arith) b ∙ sym (later k (place k 1 + l) (omega arith)))

    made : (k : ℕ) → ((q l : ℕ) → q < 2 → l < stride_of st → at new (new_start k q + l) ≡ g k q l)
        → fill_from (fill_from (put_slews st d g k m) (place k 0) (lanes_from new (new_start k 0)) (stride_of st)) (place k 0 + stride_of st) (lanes_from new (new_start k 1)) (stride_of st) ≡ with_route k
    made k u =
        let o = put_slews st d g k m in
        let w = stride_of st in
        let next : place k 0 + stride_of st ≡ place k 1 = omega arith in
        ap (λ (y : ℕ). fill_from (fill_from o (place k 0) (lanes_from new (new_start k 0)) w) y (lanes_from new (new_start k 1)) w) next
        ∙ ap (λ (y : List Float). fill_from y (place k 1) (lanes_from new (new_start k 1)) w)
        (fill-same o (place k 0) (lanes_from new (new_start k 0)) (g k 0) w (λ l b. u 0 l (omega arith) b))
        ∙ fill-same (fill_from o (place k 0) (g k 0) w) (place k 1) (lanes_from new (new_start k 1)) (g k 1) w (λ l b. u 1 l (omega arith) b)

    step : (k : ℕ) → put_by k ≡ put_slews st d g k m → (still (route_of k) ≡ false → (q l : ℕ) → q < 2 → l < stride_of st → at new (new_start k q + l) ≡ g k q l)
        → (still (route_of k) ≡ true → (q l : ℕ) → q < 2 → l < stride_of st → g k q l ≡ at m (place k q + l))
        → put_route (stride_of st) (route_of k) (place k 0) new k (put_by k) ≡ with_route k
    step k before u v =
        ⊎_elim
        (λ (e : still (route_of k) ≡ true). rw (e, before) (sym (kept k (v e))))
        (λ (e : still (route_of k) ≡ false). rw (e, before) (made k (u e)))
        (which (still (route_of k)))

    put_is : (k : ℕ) → ((j : ℕ) → j < k → still (route_of j) ≡ false → (q l : ℕ) → q < 2 → l < stride_of st → at new (new_start j q + l) ≡ g j q l)
        → ((j : ℕ) → j < k → still (route_of j) ≡ true → (q l : ℕ) → q < 2 → l < stride_of st → g j q l ≡ at m (place j q + l))
        → put_by k ≡ put_slews st d g k m
    unfolding put_new put_slews
    put_is zero u v = refl
    put_is (suc k) u v = step k (put_is k (λ j b. u j (omega arith)) (λ j b. v j (omega arith))) (u k (omega arith)) (v k (omega arith))

-- ---- slews that stand still

aux-stands : (t : Env) (x : Mix) (f : Rows) (s : Own) (j l : ℕ) (r : Route) (y : Option Input) → aux_free y ≡ true → aux_slew t x f s j r l y ≡ s j 1 l
aux-stands t x f s j l r None e = refl
aux-stands t x f s j l r (Some i) e = rw e

and_left : (a b : Bool) → a && b ≡ true → a ≡ true
and_left true b e = refl
and_left false b e = e

and_right : (a b : Bool) → a && b ≡ true → b ≡ true
and_right true b e = e
and_right false b e = let z : ◌≡◌ {A = ℕ} 0 1 = cc in absurd (omega arith)

and-false : (a : Bool) → a && false ≡ false
and-false true = refl
and-false false = refl

pub stands : (t : Env) (x : Mix) (f : Rows) (s : Own) (j q l : ℕ) (r : Route) → x.route j ≡ r → still r ≡ true → q < 2 → slew_after t x f s j q l ≡ s j q l
unfolding source_after aux_after
stands t x f s j zero l r e h b = rw (e, and_left (free_slew r.source.slew) (aux_free r.aux) h)
stands t x f s j (suc zero) l r e h b = rw e (aux-stands t x f s j l r r.aux (and_right (free_slew r.source.slew) (aux_free r.aux) h))
stands t x f s j (suc (suc q)) l r e h b = absurd (omega arith)

-- no route stands past the array
pub none-past : (routes : List Route) (i : ℕ) → length routes ≡ 64 → 64 ≤ i → still (get_or routes i no_route) ≡ true
none-past routes i e h = ap still (get_or_past routes i no_route (omega arith))

-- ---- the slews of a plan

slews-put : (st : State) (d : ℕ) (g : Own) (m : List Float) (routes : List Route) (new : List Float) (s c n a k : ℕ) → Lies st d s c n a
    → ((j : ℕ) → j < k → still (get_or routes (a + j) no_route) ≡ false → (q l : ℕ) → q < 2 → l < s → at new (new_start j q + l) ≡ g j q l)
    → ((j : ℕ) → j < k → still (get_or routes (a + j) no_route) ≡ true → (q l : ℕ) → q < 2 → l < s → g j q l ≡ at m (route_slew s c n (a + j) q + l))
    → put_new s c n a routes new k m ≡ put_slews st d g k m
slews-put st d g m routes new s c n a k lies = rw (lies.stride, lies.chunks, lies.plans, lies.first) at (put_is st d g m routes new k)

-- THE SLEWS: the new ones of the first k routes are put, and those from there on stand still
pub slews-done : (t : Env) (x : Mix) (st : State) (d : ℕ) (routes : List Route) (s c n a : ℕ) (m new r : List Float) (k : ℕ) → t.stride ≡ s
    → ((j : ℕ) → j < x.count → x.route j ≡ get_or routes (a + j) no_route) → Lies st d s c n a
    → k ≤ x.count → ((j : ℕ) → k ≤ j → j < x.count → still (get_or routes (a + j) no_route) ≡ true)
    → ((j : ℕ) → j < k → IsNew t x (plan_rows s c m) (own_rows s c n a m) j (x.route j) new)
    → r ≡ put_new s c n a routes new k m
    → r ≡ put_slews st d (slew_after t x (plan_rows s c m) (own_rows s c n a m)) x.count m
slews-done t x st d routes s c n a m new r k w from lies b past news e =
    let f = plan_rows s c m in
    let o = own_rows s c n a m in
    e
    ∙ put-still s c n a routes new x.count k m b past
    ∙ slews-put st d (slew_after t x f o) m routes new s c n a x.count lies
    (λ j h off. made' j h off (dec_lt j k))
    (λ j h on q l v i. stands t x f o j q l (get_or routes (a + j) no_route) (from j h) on v)
  where
    made' : (j : ℕ) → j < x.count → still (get_or routes (a + j) no_route) ≡ false → Dec (j < k) → (q l : ℕ) → q < 2 → l < s
        → at new (new_start j q + l) ≡ slew_after t x (plan_rows s c m) (own_rows s c n a m) j q l
    made' j h off (yes z) q l v i = news j z (ap still (from j h) ∙ off) q l v (omega arith)
    made' j h off (no z) q l v i = let on = past j (omega arith) h in let u : ◌≡◌ {A = ℕ} 0 1 = cc in absurd (omega arith)
