-- SAID IS RULED: what `said` gives a destination in a lane is what the rule gives it. Assumes nothing.
use mathlib.Core.Path.{◌≡◌, refl, sym, ap, ap₂, ◌∙◌}
use mathlib.Core.Logic.{◌⊎◌, inl, inr}
use mathlib.Core.Bool.{Bool, true, false, not, cond, ◌&&◌, ◌||◌}
use Prim.Native.Nat.{ℕ, zero, suc, ◌≤◌, ◌<◌}
use native.Mathlib.Omega.{arith}
use borrow.Author.Tests.{lt-ltb}
use lib.Dec.{ltb}
use lib.ListN.{length}
use lib.Ieee.{Float, eq, nan}
use Rattle.std.specs.Prelude.{Option, Some, None}
use Rattle.config.specs.Sizes.{slots}
use Rattle.number.specs.Number.{zero32, plus, times, hold}
use Rattle.feed.proofs.Tests.{which}
use Rattle.state.specs.declared.Base.{Base}
use Rattle.state.specs.declared.Base.TheVariants as B
use Rattle.state.specs.declared.Feed.{Feed}
use Rattle.state.specs.declared.Feed.TheVariants as F
use Rattle.state.specs.declared.Route.{Route}
use Rattle.state.specs.declared.Wiring.{Wiring}
use Rattle.state.specs.Registry.{known_source, source_at, dest_at}
use Rattle.model.specs.Feeds.{held_global, counted, counted_feed, dest_voice}
use Rattle.model.specs.Env.{Env, Rows, Own, gain_of, base_of}
use Rattle.model.specs.Mix.{Mix}
use Rattle.model.specs.Layout.{plan_width}
use Rattle.model.specs.Lanes.{in_group, lane_if, addend}
use Rattle.model.specs.RouteValue.{raw_in, route_value, is_zero, idle, plain}
use Rattle.model.specs.Sums.{base_in, offsets, some_plain, scaled_gain, plains, add_lane, others, begun, tick_sum}
use Rattle.model.specs.Tick.{new_to}
use Rattle.model.specs.Rule.{Values, slot_route, slot_into, dest_mix, lanes_of, owns_of, seen, ruled}
use Rattle.model.specs.Said.{Instant, any_below, slot_n, sends, feed_at, slot_voice, offset_at, plain_slot}
use Rattle.model.specs.Said.{product, silent, base_by, per_voice, term, add_newest, add_term, said_base, is_plain}
use Rattle.model.specs.Said.{offset_onto, offset_sum, pick_read, scaled_at, plain_onto, plain_sum, first_sum, other_onto}
use Rattle.model.specs.Said.{sum_said, said}
use Rattle.model.specs.Instants.{laned}
use Rattle.model.proofs.SaidInputs.{voice-same, AtTick, Opens, instant_on, group-same, span_same, stays_same}
use Rattle.model.proofs.SaidTerms.{Stands, FedAs, voice-slot}
use Rattle.model.proofs.SaidRoutes.{offset-is, product_is, raw_same, term-same, plain-same, idle-same}
use Rattle.model.proofs.SaidRoutes.{scaled-same}
use Rattle.model.proofs.SaidSlots.{sent, sent-all, sent-slot, sent-dest, sent-stands}
use Rattle.model.proofs.SaidFeeds.{takes_same, fed-as}

-- ---- the same by parts

added-same : {b b' : Bool} {a a' u u' : Float} → b ≡ b' → a ≡ a' → u ≡ u'
    → cond b (plus a u) a ≡ cond b' (plus a' u') a'
added-same p q r = rw (p, q, r)

pub cond_same : {b b' : Bool} {a a' u u' : Float} → b ≡ b' → a ≡ a' → u ≡ u' → cond b a u ≡ cond b' a' u'
cond_same p q r = rw (p, q, r)

unless : (b : Bool) (a u : Float) → cond (not b) u a ≡ cond b a u
unless true a u = refl
unless false a u = refl

or-none : (b : Bool) → b || false ≡ b
or-none true = refl
or-none false = refl

-- the lanes of a destination are lanes of the stride
pub lanes-in : (s : ℕ) → 0 < s → (b : Bool) (l : ℕ) → l < plan_width s b → l < s
lanes-in s h true l k = k
lanes-in s h false l k = omega arith

module _ (w : Wiring) (slotted : length w.matrix.slot ≡ slots) (t : Env) (phase : ℕ) (v : Values) (o : Opens t)
    (to : Rows) (d : ℕ) (at : AtTick t phase) where
  abbrev x : Instant
  x = instant_on t phase v o

  abbrev proposed : Rows
  proposed e = laned t.stride (to e)

  abbrev f : Rows
  f = seen v to d

  abbrev s : Own
  s = owns_of w v d

  abbrev m : Mix
  m = dest_mix w d

  abbrev j : ℕ → ℕ
  j n = sent w d n

  abbrev r : ℕ → Route
  r n = slot_route w (slot_into w d (j n))

  -- ---- a slot that sends to the destination, at the place of its route

  fed : FedAs w
  fed = fed-as w slotted

  module _ (n : ℕ) (h : n < slots) (b : sends w n d ≡ true) where
    stands : Stands w (slot_into w d (j n))
    stands = sent-stands w d slotted n h b

    is : (slot_into w d (j n)).slot ≡ n
    is = sent-slot w d slotted n h b

    plain_at : plain_slot w x n d ≡ plain t (dest_voice w d) (r n)
    plain_at =
        sym (plain-same w fed t phase v o to d at (j n) stands (sent-dest w d slotted n h b)
        ∙ ap (λ (k : ℕ). plain_slot w x k d) is)

    silent-at : silent w x n ≡ idle t (r n)
    silent-at = sym (idle-same w fed t phase v o to d at (j n) stands ∙ ap (λ (k : ℕ). silent w x k) is)

    voice-at : slot_voice w n ≡ (r n).voice
    voice-at = sym (voice-slot w fed (slot_into w d (j n)) stands ∙ ap (λ (k : ℕ). slot_voice w k) is)

    offset-at : times (offset_at w n) (product w x n) ≡ times (r n).offset (gain_of t (r n))
    offset-at =
        sym (ap₂ times (offset-is w fed t phase v o to d at (j n) stands)
        (product_is w fed t phase v o to d at (j n) stands)
        ∙ ap (λ (k : ℕ). times (offset_at w k) (product w x k)) is)

    scaled-at : scaled_at w x proposed d n ≡ scaled_gain t (r n)
    scaled-at =
        sym (scaled-same w fed t phase v o to d at (j n) stands ∙ ap (λ (k : ℕ). scaled_at w x proposed d k) is)

    read_at : (l : ℕ) → pick_read w x proposed d n l (slot_n w n).source ≡ raw_in t f s (j n) l (r n)
    read_at l =
        sym (raw_same w fed t phase v o to d at (j n) stands l
        ∙ ap (λ (k : ℕ). pick_read w x proposed d k l (slot_n w k).source) is)

    term-at : (l : ℕ) → term w x proposed d n l ≡ route_value t f s (j n) l (r n)
    term-at l =
        sym (term-same w fed t phase v o to d at (j n) stands l ∙ ap (λ (k : ℕ). term w x proposed d k l) is)

    -- ---- added to a lane

    lane-if : (a : Float) (g : Bool) (k : ℕ)
        → cond g (plus a (term w x proposed d n k)) a ≡ add_lane t f s (j n) (r n) a (lane_if g k)
    lane-if a true k = ap (plus a) (term-at k)
    lane-if a false k = refl

    newest-if : (a : Float) (o : Option ℕ) → add_newest w x proposed d n a o ≡ add_lane t f s (j n) (r n) a o
    newest-if a None = refl
    newest-if a (Some k) = ap (plus a) (term-at k)

    lane-by : (l : ℕ) (a : Float) (mine its : Bool)
        → cond mine (cond (in_group t l) (plus a (term w x proposed d n (cond its l 0))) a)
        (cond its (add_newest w x proposed d n a t.voices.newest) (plus a (term w x proposed d n 0)))
        ≡ add_lane t f s (j n) (r n) a (addend t mine its l)
    lane-by l a true true = lane-if a (in_group t l) l
    lane-by l a true false = lane-if a (in_group t l) 0
    lane-by l a false true = newest-if a t.voices.newest
    lane-by l a false false = ap (plus a) (term-at 0)

    add_at : (l : ℕ) (a : Float)
        → add_term w x proposed d n l a ≡ add_lane t f s (j n) (r n) a (addend t (dest_voice w d) (r n).voice l)
    add_at l a =
        let lone = term w x proposed d n in
        let newest = add_newest w x proposed d n a t.voices.newest in
        ap (λ (g : Bool). cond (per_voice w d) (cond g (plus a (lone (cond (slot_voice w n) l 0))) a)
        (cond (slot_voice w n) newest (plus a (lone 0)))) (group-same w t phase v o l)
        ∙ ap₂ (λ (mine its : Bool). cond mine (cond (in_group t l) (plus a (lone (cond its l 0))) a)
        (cond its newest (plus a (lone 0)))) (voice-same (dest_at w.dests d).scope) voice-at
        ∙ lane-by l a (dest_voice w d) (r n).voice

  -- ---- the base

  base-if : (b : Bool) (u : Base) → cond b (base_of t d u) (base_of t d B.Set) ≡ base_of t d (cond b u B.Set)
  base-if true u = refl
  base-if false u = refl

  base-by : (e : Feed) → base_by w x d e ≡ base_of t d (counted w.sources e)
  base-by F.Nothing = refl
  base-by (F.Source i) =
      ap (λ (b : Bool). cond b (x.global i) (x.base d)) (sym (takes_same w i))
      ∙ base-if (known_source w.sources i && held_global (source_at w.sources i)) (B.Held i)
  base-by (F.Amount n) = base-if (ltb n slots) (B.Amount n)
  base-by (F.Output n) = base-if (ltb n slots) (B.Output n)

  base_same : said_base w x proposed d ≡ base_in t m
  unfolding counted_feed
  base_same = base-by (feed_at w d)

  -- ---- sums over slots are sums over routes

  sent-more : (n : ℕ) (b : Bool) → sends w n d ≡ b → cond b (suc (j n)) (j n) ≡ j (suc n)
  sent-more n b e = ap (λ (z : Bool). cond z (suc (j n)) (j n)) (sym e)

  offsets-same : (n : ℕ) → n ≤ slots → offset_sum w x proposed d n ≡ offsets t m (j n)
  unfolding offset_sum offsets
  offsets-same zero h = refl
  offsets-same (suc n) h = go (which (sends w n d)) (offsets-same n (omega arith))
    where
      a : Float
      a = offset_sum w x proposed d n

      step : (b : Bool) → sends w n d ≡ b → offset_onto w x proposed d n a
          ≡ cond (b && plain_slot w x n d) (plus a (times (offset_at w n) (product w x n))) a
      step b e =
          ap (λ (z : Bool). cond (z && plain_slot w x n d) (plus a (times (offset_at w n) (product w x n))) a) e

      go : (sends w n d ≡ true) ⊎ (sends w n d ≡ false) → a ≡ offsets t m (j n)
          → offset_onto w x proposed d n a ≡ offsets t m (j (suc n))
      go (inl b) e =
          step true b ∙ added-same (plain_at n (omega arith) b) e (offset-at n (omega arith) b)
          ∙ ap (offsets t m) (sent-more n true b)
      go (inr b) e = step false b ∙ e ∙ ap (offsets t m) (sent-more n false b)

  some_same : (n : ℕ) → n ≤ slots → any_below (is_plain w x proposed d) n ≡ some_plain t m (j n)
  unfolding some_plain
  some_same zero h = refl
  some_same (suc n) h = go (which (sends w n d)) (some_same n (omega arith))
    where
      a : Bool
      a = any_below (is_plain w x proposed d) n

      go : (sends w n d ≡ true) ⊎ (sends w n d ≡ false) → a ≡ some_plain t m (j n)
          → a || is_plain w x proposed d n ≡ some_plain t m (j (suc n))
      go (inl b) e =
          ap₂ ◌||◌ e (ap (λ (z : Bool). z && plain_slot w x n d) b ∙ plain_at n (omega arith) b)
          ∙ ap (some_plain t m) (sent-more n true b)
      go (inr b) e =
          ap (λ (z : Bool). a || (z && plain_slot w x n d)) b ∙ or-none a ∙ e ∙ ap (some_plain t m) (sent-more n false b)

  plains-same : (l n : ℕ) → n ≤ slots → plain_sum w x proposed d l n ≡ plains t f s m l (j n)
  unfolding plain_sum plains
  plains-same l zero h =
      ap₂ plus base_same (offsets-same slots (omega arith) ∙ ap (offsets t m) (sent-all w d slotted))
  plains-same l (suc n) h = go (which (sends w n d)) (plains-same l n (omega arith))
    where
      a : Float
      a = plain_sum w x proposed d l n

      k : Float
      k = scaled_at w x proposed d n

      u : Float
      u = times (pick_read w x proposed d n l (slot_n w n).source) k

      step : (b : Bool) → sends w n d ≡ b
          → plain_onto w x proposed d n l a ≡ cond ((b && plain_slot w x n d) && not (eq k zero32)) (plus a u) a
      step b e = ap (λ (z : Bool). cond ((z && plain_slot w x n d) && not (eq k zero32)) (plus a u) a) e

      go : (sends w n d ≡ true) ⊎ (sends w n d ≡ false) → a ≡ plains t f s m l (j n)
          → plain_onto w x proposed d n l a ≡ plains t f s m l (j (suc n))
      go (inl b) e =
          let kept = scaled-at n (omega arith) b in
          step true b
          ∙ added-same (ap₂ (λ (p : Bool) (q : Float). p && not (is_zero q)) (plain_at n (omega arith) b) kept) e
          (ap₂ times (read_at n (omega arith) b l) kept)
          ∙ ap (plains t f s m l) (sent-more n true b)
      go (inr b) e = step false b ∙ e ∙ ap (plains t f s m l) (sent-more n false b)

  first-same : (l : ℕ) → first_sum w x proposed d l ≡ begun t f s m l
  first-same l =
      cond_same
      (ap₂ ◌&&◌ (some_same slots (omega arith) ∙ ap (some_plain t m) (sent-all w d slotted)) (span_same w t phase v o l))
      (plains-same l slots (omega arith) ∙ ap (plains t f s m l) (sent-all w d slotted))
      base_same

  others_same : (l n : ℕ) → n ≤ slots → sum_said w x proposed d l n ≡ others t f s m l (begun t f s m l) (j n)
  unfolding sum_said others
  others_same l zero h = first-same l
  others_same l (suc n) h = go (which (sends w n d)) (others_same l n (omega arith))
    where
      a : Float
      a = sum_said w x proposed d l n

      before : Float
      before = others t f s m l (begun t f s m l) (j n)

      step : (b : Bool) → sends w n d ≡ b → other_onto w x proposed d n l a
          ≡ cond (b && not (plain_slot w x n d || silent w x n)) (add_term w x proposed d n l a) a
      step b e =
          ap (λ (z : Bool). cond (z && not (plain_slot w x n d || silent w x n)) (add_term w x proposed d n l a) a) e

      go : (sends w n d ≡ true) ⊎ (sends w n d ≡ false) → a ≡ before
          → other_onto w x proposed d n l a ≡ others t f s m l (begun t f s m l) (j (suc n))
      go (inl b) e =
          step true b
          ∙ unless (plain_slot w x n d || silent w x n) a (add_term w x proposed d n l a)
          ∙ cond_same (ap₂ ◌||◌ (plain_at n (omega arith) b) (silent-at n (omega arith) b)) e
          (ap (add_term w x proposed d n l) e ∙ add_at n (omega arith) b l before)
          ∙ ap (others t f s m l (begun t f s m l)) (sent-more n true b)
      go (inr b) e = step false b ∙ e ∙ ap (others t f s m l (begun t f s m l)) (sent-more n false b)

  -- THE SUM
  pub sum_same : (l : ℕ) → sum_said w x proposed d l slots ≡ tick_sum t f s m l
  unfolding tick_sum
  sum_same l =
      others_same l slots (omega arith) ∙ ap (others t f s m l (begun t f s m l)) (sent-all w d slotted)

  -- SAID IS RULED
  pub said-ruled : 0 < t.stride → (l : ℕ) → l < lanes_of w t d → said w x proposed d l ≡ ruled w t phase v to d l
  unfolding said new_to
  said-ruled wide l h =
      let z : ltb l t.stride ≡ true = lt-ltb l t.stride (lanes-in t.stride wide (dest_voice w d) l h) in
      cond_same (stays_same w t phase v o to d l) (ap (λ (b : Bool). cond b (v.to d l) nan) z)
      (ap (hold m.min m.max) (sum_same l))
