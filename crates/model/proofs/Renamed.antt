-- A PLAN'S NUMBERS ARE THOSE OF ITS DESTINATION'S SLOTS: a compiled route names the place of a feeder in the order where the slot's route names the destination, and is else
-- the same; read through rows by place it gives what the slot's route gives through the same rows by destination. Assumes nothing.
use Rattle.std.specs.Prelude.{Option, Some, None}
use mathlib.Core.Path.{◌≡◌, refl, sym, ap, ◌∙◌}
use mathlib.Core.Bool.{Bool, true, false}
use mathlib.Core.List.{List}
use Prim.Native.Nat.{ℕ, zero, suc, ◌≤◌, ◌<◌}
use native.Mathlib.Omega.{arith}
use lib.Ieee.{Float}
use Rattle.feed.specs.Numbers.{index_of}
use Rattle.curve_table.specs.declared.Curve.{Curve}
use Rattle.state.specs.declared.Kind.{Kind}
use Rattle.state.specs.declared.Kind.TheVariants as K
use Rattle.state.specs.declared.Source.{Source}
use Rattle.state.specs.declared.Sources.{Sources}
use Rattle.state.specs.declared.Base.{Base}
use Rattle.state.specs.declared.Base.TheVariants as B
use Rattle.state.specs.declared.Slot.{Slot}
use Rattle.state.specs.declared.Read.{Read}
use Rattle.state.specs.declared.Read.TheVariants as D
use Rattle.state.specs.declared.Input.{Input}
use Rattle.state.specs.declared.Gain.{Gain}
use Rattle.state.specs.declared.Gain.TheVariants as G
use Rattle.state.specs.declared.Route.{Route}
use Rattle.state.specs.declared.FedBy.{FedBy}
use Rattle.state.specs.declared.Candidate.{Candidate}
use Rattle.state.specs.declared.Wiring.{Wiring}
use Rattle.state.specs.Registry.{source_at}
use Rattle.model.specs.Feeds.{is_voice, dest_voice, feeder_of, aux_thing, reader_by}
use Rattle.model.specs.Routes.{linked, voice_gain, live_gain, unfed_read, read_by, voice_read, input_by, aux_by, voice_aux, no_aux, route_by, route_in}
use Rattle.model.specs.Env.{Env, Rows, Own}
use Rattle.model.specs.Mix.{Mix}
use Rattle.model.specs.Input.{read_in, input_in}
use Rattle.model.specs.RouteValue.{source_in, sourced, with_aux, gain_in, gained, route_value, idle, whole_row, plain}
use Rattle.model.specs.Sums.{base_in, offsets, some_plain, plains, has_plain, add_lane, others, begun, tick_sum}
use Rattle.model.specs.Slews.{moves_in, aux_slew, source_after, aux_after}
use Rattle.model.specs.Tick.{mix_width, held_sum, new_to, new_from}
use Rattle.model.specs.Rule.{fed_from, slot_of, slot_route}

module _ (os : List ℕ) where
  -- ---- a route with fed inputs by place

  abbrev placed_read : Read → Read
  placed_read (D.Signal i v) = D.Signal i v
  placed_read (D.Held i v) = D.Held i v
  placed_read (D.Fed e v) = D.Fed (index_of e os) v
  placed_read D.Constant = D.Constant
  placed_read D.RouteRandom = D.RouteRandom

  abbrev placed_gain : Gain → Gain
  placed_gain G.Live = G.Live
  placed_gain (G.Fed e v) = G.Fed (index_of e os) v

  abbrev placed_input : Input → Input
  placed_input i = record { read = placed_read i.read; bipolar = i.bipolar; table = i.table; slew = i.slew }

  abbrev placed_aux : Option Input → Option Input
  placed_aux None = None
  placed_aux (Some i) = Some (placed_input i)

  abbrev placed_route : Route → Route
  placed_route r =
      record {
        slot = r.slot;
        source = placed_input r.source;
        aux = placed_aux r.aux;
        aux_invert = r.aux_invert;
        bipolar = r.bipolar;
        amount = placed_gain r.amount;
        output = placed_gain r.output;
        voice = r.voice;
        scale = r.scale;
        offset = r.offset;
        simple = r.simple;
      }

  -- ---- as which it is compiled

  gain-linked : (e : Option FedBy) → linked os e ≡ placed_gain (fed_from e)
  gain-linked None = refl
  gain-linked (Some f) = refl

  unfed-placed : (k : Kind) (i : ℕ) (v : Bool) → unfed_read k i v ≡ placed_read (unfed_read k i v)
  unfed-placed K.Signal i v = refl
  unfed-placed K.Audio i v = refl
  unfed-placed K.Held i v = refl
  unfed-placed K.Velocity i v = refl
  unfed-placed K.Key i v = refl
  unfed-placed K.ReleaseVelocity i v = refl
  unfed-placed K.Random i v = refl
  unfed-placed (K.Alternate inverse) i v = refl
  unfed-placed K.RandomPerRoute i v = refl
  unfed-placed K.VoiceLoad i v = refl
  unfed-placed K.Constant i v = refl

  read-linked : (s : Source) (i : ℕ) (e : Option FedBy) → read_by s i (linked os e) ≡ placed_read (read_by s i (fed_from e))
  read-linked s i None = unfed-placed s.kind i (is_voice s.scope)
  read-linked s i (Some f) = refl

  input-linked : (rate : Float) (s : Source) (i : ℕ) (e : Option FedBy) (c : Curve) → input_by rate s i (linked os e) c ≡ placed_input (input_by rate s i (fed_from e) c)
  unfolding input_by
  input-linked rate s i e c = rw (read-linked s i e)

  aux-linked : (rate : Float) (ss : Sources) (a : Option ℕ) (e : Option FedBy) (c : Curve) → aux_by rate ss a (linked os e) c ≡ placed_aux (aux_by rate ss a (fed_from e) c)
  aux-linked rate ss None e c = refl
  aux-linked rate ss (Some i) e c = ap Some (input-linked rate (source_at ss i) i e c)

  voice-read-placed : (r : Read) → voice_read (placed_read r) ≡ voice_read r
  voice-read-placed (D.Signal i v) = refl
  voice-read-placed (D.Held i v) = refl
  voice-read-placed (D.Fed e v) = refl
  voice-read-placed D.Constant = refl
  voice-read-placed D.RouteRandom = refl

  voice-gain-placed : (g : Gain) → voice_gain (placed_gain g) ≡ voice_gain g
  voice-gain-placed G.Live = refl
  voice-gain-placed (G.Fed e v) = refl

  live-gain-placed : (g : Gain) → live_gain (placed_gain g) ≡ live_gain g
  live-gain-placed G.Live = refl
  live-gain-placed (G.Fed e v) = refl

  voice-aux-placed : (x : Option Input) → voice_aux (placed_aux x) ≡ voice_aux x
  voice-aux-placed None = refl
  voice-aux-placed (Some i) = voice-read-placed i.read

  no-aux-placed : (x : Option Input) → no_aux (placed_aux x) ≡ no_aux x
  no-aux-placed None = refl
  no-aux-placed (Some i) = refl

  route-by-placed : (n : ℕ) (s : Slot) (dv : Bool) (i : Input) (x : Option Input) (a o : Gain)
      → route_by n s dv (placed_input i) (placed_aux x) (placed_gain a) (placed_gain o) ≡ placed_route (route_by n s dv i x a o)
  unfolding route_by
  route-by-placed n s dv i x a o =
      rw (voice-read-placed i.read, voice-aux-placed x, voice-gain-placed a, voice-gain-placed o, no-aux-placed x, live-gain-placed a, live-gain-placed o)

  compiled-placed : (n : ℕ) (s : Slot) (dv : Bool) (i : Input) (x : Option Input) (a o : Gain) {i' : Input} {x' : Option Input} {a' o' : Gain}
      → i' ≡ placed_input i → x' ≡ placed_aux x → a' ≡ placed_gain a → o' ≡ placed_gain o → route_by n s dv i' x' a' o' ≡ placed_route (route_by n s dv i x a o)
  compiled-placed n s dv i x a o p q r u = rw (p, q, r, u) (route-by-placed n s dv i x a o)

  -- ---- read through rows by place, and through rows by destination

  module _ (t : Env) (f : Rows) where
    abbrev by_dest : Rows
    by_dest e = f (index_of e os)

    read-in : (random : Float) (l : ℕ) (r : Read) → read_in t f random l (placed_read r) ≡ read_in t by_dest random l r
    read-in random l (D.Signal i v) = refl
    read-in random l (D.Held i true) = refl
    read-in random l (D.Held i false) = refl
    read-in random l (D.Fed e v) = refl
    read-in random l D.Constant = refl
    read-in random l D.RouteRandom = refl

    input-in : (slot position : ℕ) (snap prev random : Float) (l : ℕ) (i : Input)
        → input_in t f slot position snap prev random l (placed_input i) ≡ input_in t by_dest slot position snap prev random l i
    unfolding input_in
    input-in slot position snap prev random l i = rw (read-in random l i.read)

    gain-in : (l : ℕ) (live : Float) (g : Gain) → gain_in t f l live (placed_gain g) ≡ gain_in t by_dest l live g
    gain-in l live G.Live = refl
    gain-in l live (G.Fed e v) = refl

    rowed-in : (r : Read) → whole_row t (placed_read r) ≡ whole_row t r
    rowed-in (D.Signal i true) = refl
    rowed-in (D.Signal i false) = refl
    rowed-in (D.Held i v) = refl
    rowed-in (D.Fed e v) = refl
    rowed-in D.Constant = refl
    rowed-in D.RouteRandom = refl

    -- ---- one route

    module _ (s : Own) (j l : ℕ) (q : Route) where
      source-in : source_in t f s j l (placed_route q) ≡ source_in t by_dest s j l q
      source-in = input-in _ _ _ _ _ _ q.source

      sourced-in : sourced t f s j l (placed_route q) ≡ sourced t by_dest s j l q
      sourced-in = rw (read-in _ l q.source.read, source-in)

      with-aux-in : (x : Option Input) (p : Float) → with_aux t f s j l (placed_route q) (placed_aux x) p ≡ with_aux t by_dest s j l q x p
      with-aux-in None p = refl
      with-aux-in (Some i) p = rw (input-in _ _ _ _ _ _ i)

      gained-in : gained t f l (placed_route q) ≡ gained t by_dest l q
      gained-in = rw (gain-in l _ q.amount, gain-in l _ q.output)

      value-in : route_value t f s j l (placed_route q) ≡ route_value t by_dest s j l q
      unfolding route_value
      value-in = rw (sourced-in, with-aux-in q.aux, gained-in)

    idle-in : (q : Route) → idle t (placed_route q) ≡ idle t q
    idle-in q = rw (live-gain-placed q.amount, live-gain-placed q.output)

    plain_in : (v : Bool) (q : Route) → plain t v (placed_route q) ≡ plain t v q
    unfolding plain
    plain_in v q = rw (rowed-in q.source.read)

    add-in : (s : Own) (j : ℕ) (q : Route) (a : Float) (n : Option ℕ) → add_lane t f s j (placed_route q) a n ≡ add_lane t by_dest s j q a n
    add-in s j q a (Some l) = rw (value-in s j l q)
    add-in s j q a None = refl

module _ (w : Wiring) (os : List ℕ) where
  -- ---- what goes into a plan, and into its destination

  -- the route of a candidate, compiled in the order os
  abbrev pub plan_route : Candidate → Route
  plan_route c = route_in w.config.sample_rate w.sources os (slot_of w c) (dest_voice w c.dest) (reader_by (feeder_of w) c)

  route-placed : (c : Candidate) → plan_route c ≡ placed_route os (slot_route w c)
  unfolding route_in slot_route
  route-placed c =
      let rate = w.config.sample_rate in
      let from : Base → Gain = λ b. fed_from (feeder_of w b) in
      compiled-placed os c.slot (slot_of w c) (dest_voice w c.dest)
      (input_by rate (source_at w.sources c.source) c.source (from (B.Held c.source)) (slot_of w c).source_curve)
      (aux_by rate w.sources c.aux (from (aux_thing c.aux)) (slot_of w c).aux_curve)
      (from (B.Amount c.slot))
      (from (B.Output c.slot))
      (input-linked os rate (source_at w.sources c.source) c.source (feeder_of w (B.Held c.source)) (slot_of w c).source_curve)
      (aux-linked os rate w.sources c.aux (feeder_of w (aux_thing c.aux)) (slot_of w c).aux_curve)
      (gain-linked os (feeder_of w (B.Amount c.slot)))
      (gain-linked os (feeder_of w (B.Output c.slot)))

  -- x is y with fed inputs by place
  pub record Placed (x y : Mix) : Type 0 where
    pub dest : x.dest ≡ y.dest
    pub voice : x.voice ≡ y.voice
    pub min : x.min ≡ y.min
    pub max : x.max ≡ y.max
    pub base : x.base ≡ y.base
    pub count : x.count ≡ y.count
    pub routes : (j : ℕ) → j < y.count → (c : Candidate) × ((x.route j ≡ plan_route c) × (y.route j ≡ slot_route w c))

  module _ (t : Env) (f : Rows) (s : Own) (x y : Mix) (p : Placed x y) where
    abbrev g : Rows
    g e = f (index_of e os)

    route-at : (j : ℕ) → j < y.count → x.route j ≡ placed_route os (y.route j)
    route-at j h = let c = p.routes j h in c.1.0 ∙ route-placed c.0 ∙ ap (placed_route os) (sym c.1.1)

    -- ---- the tests of a route

    plain_at : (j : ℕ) → j < y.count → plain t x.voice (x.route j) ≡ plain t y.voice (y.route j)
    plain_at j h = rw (p.voice, route-at j h, plain_in os t f y.voice (y.route j))

    idle-at : (j : ℕ) → j < y.count → idle t (x.route j) ≡ idle t (y.route j)
    idle-at j h = rw (route-at j h) (idle-in os t f (y.route j))

    -- ---- the sums of the first k routes

    base-at : base_in t x ≡ base_in t y
    base-at = rw (p.dest, p.base)

    offsets-at : (k : ℕ) → k ≤ y.count → offsets t x k ≡ offsets t y k
    unfolding offsets
    offsets-at zero h = refl
    offsets-at (suc k) h = rw (plain_at k (omega arith), offsets-at k (omega arith), route-at k (omega arith))

    offsets-all : offsets t x x.count ≡ offsets t y y.count
    offsets-all = offsets-at x.count (omega arith) ∙ ap (offsets t y) p.count

    some_at : (k : ℕ) → k ≤ y.count → some_plain t x k ≡ some_plain t y k
    unfolding some_plain
    some_at zero h = refl
    some_at (suc k) h = rw (some_at k (omega arith), plain_at k (omega arith))

    plains_at : (l k : ℕ) → k ≤ y.count → plains t f s x l k ≡ plains t g s y l k
    unfolding plains
    plains_at l zero h = rw (base-at, offsets-all)
    plains_at l (suc k) h =
        rw (plain_at k (omega arith), plains_at l k (omega arith), route-at k (omega arith), read-in os t f _ l (y.route k).source.read)

    others-at : (l : ℕ) (a : Float) (k : ℕ) → k ≤ y.count → others t f s x l a k ≡ others t g s y l a k
    unfolding others
    others-at l a zero h = refl
    others-at l a (suc k) h =
        rw (plain_at k (omega arith), idle-at k (omega arith), others-at l a k (omega arith), route-at k (omega arith), p.voice, add-in os t f s k (y.route k))

    has-plain-at : has_plain t x ≡ has_plain t y
    has-plain-at = some_at x.count (omega arith) ∙ ap (some_plain t y) p.count

    begun-at : (l : ℕ) → begun t f s x l ≡ begun t g s y l
    begun-at l = rw (has-plain-at, plains_at l x.count (omega arith), p.count, base-at)

    sum-at : (l : ℕ) → tick_sum t f s x l ≡ tick_sum t g s y l
    unfolding tick_sum
    sum-at l = rw (begun-at l, others-at l (begun t g s y l) x.count (omega arith), p.count)

    held_at : (l : ℕ) → held_sum t f s x l ≡ held_sum t g s y l
    held_at l = rw (sum-at l, p.min, p.max)

    -- ---- THE PLAN'S NUMBERS ARE THE DESTINATION'S

    pub to-placed : (phase : ℕ) (old : ℕ → Float) (l : ℕ) → new_to t phase x f s old l ≡ new_to t phase y (λ e. f (index_of e os)) s old l
    unfolding new_to
    to-placed phase old l = rw (held_at l, p.voice)

    -- where the ramps start
    pub from-placed : (phase : ℕ) (old from : ℕ → Float) (l : ℕ) → new_from t phase x f s old from l ≡ new_from t phase y (λ e. f (index_of e os)) s old from l
    unfolding new_from
    from-placed phase old from l = rw (held_at l, p.voice)

    -- the slews
    moves-at : (j l : ℕ) → j < y.count → moves_in t x (x.route j) l ≡ moves_in t y (y.route j) l
    moves-at j l h = rw (plain_at j h, idle-at j h, route-at j h, p.voice)

    pub source-placed : (j l : ℕ) → j < y.count → source_after t x f s j l ≡ source_after t y (λ e. f (index_of e os)) s j l
    unfolding source_after
    source-placed j l h = rw (moves-at j l h, route-at j h, source-in os t f s j l (y.route j))

    aux-slew-at : (j l : ℕ) → j < y.count → (a : Option Input) → aux_slew t x f s j (x.route j) l (placed_aux os a) ≡ aux_slew t y g s j (y.route j) l a
    aux-slew-at j l h None = refl
    aux-slew-at j l h (Some i) = rw (moves-at j l h, route-at j h, input-in os t f _ _ _ _ _ _ i)

    pub aux-placed : (j l : ℕ) → j < y.count → aux_after t x f s j l ≡ aux_after t y (λ e. f (index_of e os)) s j l
    unfolding aux_after
    aux-placed j l h = ap (λ (r : Route). aux_slew t x f s j (x.route j) l r.aux) (route-at j h) ∙ aux-slew-at j l h (y.route j).aux

    pub width-placed : mix_width t x ≡ mix_width t y
    width-placed = rw p.voice
