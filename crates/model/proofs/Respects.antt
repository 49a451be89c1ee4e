-- WHAT A DESTINATION'S NEW NUMBER DEPENDS ON: of the rows only the lanes that its routes read, for every comparison of numbers that the operations respect; and
-- of own and old numbers only those of its routes, and that of the lane. Assumes nothing.
use Rattle.std.specs.Prelude.{Option, Some, None}
use mathlib.Core.Path.{◌≡◌, refl, ap, ap₂}
use mathlib.Core.Logic.{◌⊎◌, inl, inr}
use mathlib.Core.Bool.{Bool, true, false, not, cond, ◌&&◌, ◌||◌}
use mathlib.Core.List.{List}
use Prim.Native.Nat.{ℕ, zero, suc, ◌≤◌, ◌<◌}
use native.Mathlib.Omega.{arith}
use lib.Dec.{ltb}
use lib.Ieee.{Float, nan}
use borrow.Author.Tests.{ltb-true}
use Rattle.feed.proofs.Tests.{which}
use Rattle.number.specs.Number as N
use Rattle.curve_table.specs.Table.{lookup_of}
use Rattle.slew.specs.Slew.{slew_step}
use Rattle.state.specs.declared.Read.{Read}
use Rattle.state.specs.declared.Read.TheVariants as D
use Rattle.state.specs.declared.Slew.{Slew}
use Rattle.state.specs.declared.Input.{Input}
use Rattle.state.specs.declared.Gain.{Gain}
use Rattle.state.specs.declared.Gain.TheVariants as G
use Rattle.state.specs.declared.Route.{Route}
use Rattle.model.specs.Env.{Env, Rows, Own, live_amount_of, live_output_of}
use Rattle.model.specs.Mix.{Mix}
use Rattle.model.specs.Input.{fed_at, read_in, curved, slewed, input_in}
use Rattle.model.specs.Lanes.{addend, in_span, snap_of}
use Rattle.model.specs.Routes.{free_slew}
use Rattle.model.specs.RouteValue.{own_at, source_in, aux_in, raw_in, with_aux, gain_in, gained, route_value, is_zero, idle, plain}
use Rattle.model.specs.Sums.{scaled_gain, plains, has_plain, add_lane, others, tick_sum}
use Rattle.model.specs.Slews.{moves_in, aux_slew, source_after, aux_after}
use Rattle.model.specs.Tick.{starting, kept, held_sum, new_to, new_from}
use Rattle.model.proofs.RouteReads.{Reads}

-- ---- what is asked of a comparison

pub record Respected (Same : Float → Float → Type 0) : Type 0 where
  pub refl : (x : Float) → Same x x
  pub plus : {x x' y y' : Float} → Same x x' → Same y y' → Same (N.plus x y) (N.plus x' y')
  pub less : {x x' y y' : Float} → Same x x' → Same y y' → Same (N.less x y) (N.less x' y')
  pub times : {x x' y y' : Float} → Same x x' → Same y y' → Same (N.times x y) (N.times x' y')
  pub hold : (lo hi : Float) {x x' : Float} → Same x x' → Same (N.hold lo hi x) (N.hold lo hi x')
  pub lookup : (t : List Float) {x x' : Float} → Same x x' → Same (lookup_of t x) (lookup_of t x')
  pub slew : (up down snap prev : Float) {u u' : Float} → Same u u' → Same (slew_step up down snap prev u) (slew_step up down snap prev u')

-- equality
pub equal-respected : Respected ◌≡◌
equal-respected =
    record {
      refl = λ x. refl;
      plus = λ p q. ap₂ N.plus p q;
      less = λ p q. ap₂ N.less p q;
      times = λ p q. ap₂ N.times p q;
      hold = λ lo hi p. ap (N.hold lo hi) p;
      lookup = λ t p. ap (lookup_of t) p;
      slew = λ up down snap prev p. ap (slew_step up down snap prev) p;
    }

-- the rows agree where the routes of x read
abbrev pub Agree : (Float → Float → Type 0) → Env → Rows → Rows → Mix → Type 0
Agree Same t f g x = (j : ℕ) → j < x.count → (e : ℕ) (v : Bool) → Reads e v (x.route j) → (l : ℕ) → l < cond v t.stride 1 → Same (f e l) (g e l)

module _ (Same : Float → Float → Type 0) (laws : Respected Same) where
  cond-respects : (b : Bool) {x x' y y' : Float} → Same x x' → Same y y' → Same (cond b x y) (cond b x' y')
  cond-respects true p q = p
  cond-respects false p q = q

  -- ---- two ways of giving rows and own numbers, from one route to the sum
  module _ (t : Env) (f g : Rows) (s s' : Own) where
    with-aux : (j l : ℕ) (r : Route) (y : Option Input) → ((i : Input) → y ≡ Some i → Same (aux_in t f s j l r i) (aux_in t g s' j l r i)) → {p p' : Float} → Same p p'
        → Same (with_aux t f s j l r y p) (with_aux t g s' j l r y p')
    with-aux j l r None h p = p
    with-aux j l r (Some i) h p = laws.times p (cond-respects r.aux_invert (laws.less (laws.refl _) (h i refl)) (h i refl))

    value-by : (j l : ℕ) (r : Route) → Same (raw_in t f s j l r) (raw_in t g s' j l r) → Same (source_in t f s j l r) (source_in t g s' j l r)
        → ((i : Input) → r.aux ≡ Some i → Same (aux_in t f s j l r i) (aux_in t g s' j l r i)) → Same (gained t f l r) (gained t g l r)
        → Same (route_value t f s j l r) (route_value t g s' j l r)
    unfolding route_value
    value-by j l r raw source aux gain =
        laws.times
        (with-aux j l r r.aux aux
        (cond-respects (not r.source.table && free_slew r.source.slew)
        (laws.plus (laws.times raw (laws.refl _)) (laws.refl _))
        (cond-respects r.bipolar (laws.less (laws.times source (laws.refl _)) (laws.refl _)) source)))
        gain

    -- the sums, where each route reads and has the same
    module _ (x : Mix) (raws : (j l : ℕ) → j < x.count → Same (raw_in t f s j l (x.route j)) (raw_in t g s' j l (x.route j)))
        (values : (j l : ℕ) → j < x.count → Same (route_value t f s j l (x.route j)) (route_value t g s' j l (x.route j))) where
      plains-by : (l k : ℕ) → k ≤ x.count → Same (plains t f s x l k) (plains t g s' x l k)
      unfolding plains
      plains-by l zero h = laws.refl _
      plains-by l (suc k) h =
          let before = plains-by l k (omega arith) in
          cond-respects (plain t x.voice (x.route k) && not (is_zero (scaled_gain t (x.route k))))
          (laws.plus before (laws.times (raws k l h) (laws.refl _)))
          before

      added-by : (j : ℕ) → j < x.count → {a a' : Float} → Same a a' → (w : Option ℕ) → Same (add_lane t f s j (x.route j) a w) (add_lane t g s' j (x.route j) a' w)
      added-by j h p (Some l) = laws.plus p (values j l h)
      added-by j h p None = p

      others_by : (l : ℕ) {a a' : Float} → Same a a' → (k : ℕ) → k ≤ x.count → Same (others t f s x l a k) (others t g s' x l a' k)
      unfolding others
      others_by l p zero h = p
      others_by l p (suc k) h =
          let before = others_by l p k (omega arith) in
          cond-respects (plain t x.voice (x.route k) || idle t (x.route k)) before (added-by k h before (addend t x.voice (x.route k).voice l))

      sum_by : (l : ℕ) → Same (tick_sum t f s x l) (tick_sum t g s' x l)
      unfolding tick_sum
      sum_by l = others_by l (cond-respects (has_plain t x && in_span t l) (plains-by l x.count (omega arith)) (laws.refl _)) x.count (omega arith)

      held_by : (l : ℕ) → Same (held_sum t f s x l) (held_sum t g s' x l)
      held_by l = laws.hold x.min x.max (sum_by l)

      to-by : (phase : ℕ) (old : ℕ → Float) (l : ℕ) → Same (new_to t phase x f s old l) (new_to t phase x g s' old l)
      unfolding new_to
      to-by phase old l = cond-respects (kept t phase x l) (laws.refl _) (held_by l)

      from-by : (phase : ℕ) (old from : ℕ → Float) (l : ℕ) → Same (new_from t phase x f s old from l) (new_from t phase x g s' old from l)
      unfolding new_from
      from-by phase old from l = cond-respects (kept t phase x l) (laws.refl _) (cond-respects (starting t x l || not t.primed) (held_by l) (laws.refl _))

    -- the slews
    source-by : (x : Mix) (j l : ℕ) → Same (source_in t f s j l (x.route j)) (source_in t g s' j l (x.route j)) → Same (s j 0 l) (s' j 0 l)
        → Same (source_after t x f s j l) (source_after t x g s' j l)
    unfolding source_after
    source-by x j l p q = cond-respects (not (free_slew (x.route j).source.slew) && moves_in t x (x.route j) l) p q

    aux-slew-by : (x : Mix) (j l : ℕ) (r : Route) (y : Option Input) → ((i : Input) → y ≡ Some i → Same (aux_in t f s j l r i) (aux_in t g s' j l r i)) → Same (s j 1 l) (s' j 1 l)
        → Same (aux_slew t x f s j r l y) (aux_slew t x g s' j r l y)
    aux-slew-by x j l r None p q = q
    aux-slew-by x j l r (Some i) p q = cond-respects (not (free_slew i.slew) && moves_in t x r l) (p i refl) q

    aux-by : (x : Mix) (j l : ℕ) → ((i : Input) → (x.route j).aux ≡ Some i → Same (aux_in t f s j l (x.route j) i) (aux_in t g s' j l (x.route j) i)) → Same (s j 1 l) (s' j 1 l)
        → Same (aux_after t x f s j l) (aux_after t x g s' j l)
    unfolding aux_after
    aux-by x j l p q = aux-slew-by x j l (x.route j) (x.route j).aux p q

  -- ---- rows that agree where the routes read
  module _ (t : Env) (f g : Rows) where
    fed-respects : (e : ℕ) (v : Bool) (l : ℕ) → ((k : ℕ) → k < cond v t.stride 1 → Same (f e k) (g e k)) → Same (fed_at t f e v l) (fed_at t g e v l)
    fed-respects e true l h = go (which (ltb l t.stride))
      where
        go : (ltb l t.stride ≡ true) ⊎ (ltb l t.stride ≡ false) → Same (fed_at t f e true l) (fed_at t g e true l)
        go (inl p) = rw p (h l (ltb-true l t.stride p))
        go (inr p) = rw p (laws.refl nan)
    fed-respects e false l h = cond-respects (ltb 0 t.stride) (h 0 (omega arith)) (laws.refl nan)

    -- where an input reads
    abbrev ReadAgree : Read → Type 0
    ReadAgree r = (e : ℕ) (v : Bool) → r ≡ D.Fed e v → (l : ℕ) → l < cond v t.stride 1 → Same (f e l) (g e l)

    abbrev GainAgree : Gain → Type 0
    GainAgree r = (e : ℕ) (v : Bool) → r ≡ G.Fed e v → (l : ℕ) → l < cond v t.stride 1 → Same (f e l) (g e l)

    read-respects : (random : Float) (l : ℕ) (r : Read) → ReadAgree r → Same (read_in t f random l r) (read_in t g random l r)
    read-respects random l (D.Signal src voice) h = laws.refl _
    read-respects random l (D.Held src true) h = laws.refl _
    read-respects random l (D.Held src false) h = laws.refl _
    read-respects random l (D.Fed e voice) h = fed-respects e voice l (h e voice refl)
    read-respects random l D.Constant h = laws.refl _
    read-respects random l D.RouteRandom h = laws.refl _

    gain-respects : (l : ℕ) (live : Float) (x : Gain) → GainAgree x → Same (gain_in t f l live x) (gain_in t g l live x)
    gain-respects l live G.Live h = laws.refl _
    gain-respects l live (G.Fed e voice) h = fed-respects e voice l (h e voice refl)

    curved-respects : (slot position : ℕ) (b : Bool) {u u' : Float} → Same u u' → Same (curved t slot position b u) (curved t slot position b u')
    curved-respects slot position true p = laws.lookup _ p
    curved-respects slot position false p = p

    slewed-respects : (snap prev : Float) (w : Option Slew) {u u' : Float} → Same u u' → Same (slewed t snap prev w u) (slewed t snap prev w u')
    slewed-respects snap prev None p = p
    slewed-respects snap prev (Some w) p = laws.slew _ _ snap prev p

    input-respects : (slot position : ℕ) (snap prev random : Float) (l : ℕ) (i : Input) → ReadAgree i.read
        → Same (input_in t f slot position snap prev random l i) (input_in t g slot position snap prev random l i)
    unfolding input_in
    input-respects slot position snap prev random l i h =
        let read = read-respects random l i.read h in
        slewed-respects snap prev i.slew
        (curved-respects slot position i.table (cond-respects i.bipolar (laws.plus (laws.times read (laws.refl _)) (laws.refl _)) read))

    -- route j of x
    module _ (x : Mix) (agree : Agree Same t f g x) (s : Own) (j l : ℕ) (h : j < x.count) where
      raw-respects : Same (raw_in t f s j l (x.route j)) (raw_in t g s j l (x.route j))
      raw-respects = read-respects (own_at t s j 2 l) l (x.route j).source.read (λ e v p. agree j h e v (inl p))

      source-in-respects : Same (source_in t f s j l (x.route j)) (source_in t g s j l (x.route j))
      source-in-respects =
          input-respects (x.route j).slot 0 (snap_of t (x.route j).voice l) (own_at t s j 0 l) (own_at t s j 2 l) l (x.route j).source (λ e v p. agree j h e v (inl p))

      aux-in-respects : (i : Input) → (x.route j).aux ≡ Some i → Same (aux_in t f s j l (x.route j) i) (aux_in t g s j l (x.route j) i)
      aux-in-respects i q =
          input-respects (x.route j).slot 1 (snap_of t (x.route j).voice l) (own_at t s j 1 l) (own_at t s j 3 l) l i
          (λ e v p. agree j h e v (inr (inl (rw q p))))

      gained-respects : Same (gained t f l (x.route j)) (gained t g l (x.route j))
      gained-respects =
          laws.times
          (gain-respects l (live_amount_of t (x.route j).slot) (x.route j).amount (λ e v p. agree j h e v (inr (inr (inl p)))))
          (gain-respects l (live_output_of t (x.route j).slot) (x.route j).output (λ e v p. agree j h e v (inr (inr (inr p)))))

      value-respects : Same (route_value t f s j l (x.route j)) (route_value t g s j l (x.route j))
      value-respects = value-by t f g s s j l (x.route j) raw-respects source-in-respects aux-in-respects gained-respects

    -- THE NEW NUMBER is the same
    pub to-respects : (phase : ℕ) (x : Mix) (s : Own) (old : ℕ → Float) (l : ℕ) → Agree Same t f g x → Same (new_to t phase x f s old l) (new_to t phase x g s old l)
    to-respects phase x s old l agree = to-by t f g s s x (raw-respects x agree s) (value-respects x agree s) phase old l

    -- so is where the ramp starts
    pub from-respects : (phase : ℕ) (x : Mix) (s : Own) (old from : ℕ → Float) (l : ℕ) → Agree Same t f g x
        → Same (new_from t phase x f s old from l) (new_from t phase x g s old from l)
    from-respects phase x s old from l agree = from-by t f g s s x (raw-respects x agree s) (value-respects x agree s) phase old from l

    -- and the slews of each route
    pub source-respects : (x : Mix) (s : Own) (j l : ℕ) → Agree Same t f g x → j < x.count → Same (source_after t x f s j l) (source_after t x g s j l)
    source-respects x s j l agree h = source-by t f g s s x j l (source-in-respects x agree s j l h) (laws.refl _)

    pub aux-respects : (x : Mix) (s : Own) (j l : ℕ) → Agree Same t f g x → j < x.count → Same (aux_after t x f s j l) (aux_after t x g s j l)
    aux-respects x s j l agree h = aux-by t f g s s x j l (aux-in-respects x agree s j l h) (laws.refl _)

-- ---- equality: rows

module _ (t : Env) (f g : Rows) where
  pub to_same : (phase : ℕ) (x : Mix) (s : Own) (old : ℕ → Float) (l : ℕ) → Agree ◌≡◌ t f g x → new_to t phase x f s old l ≡ new_to t phase x g s old l
  to_same = to-respects ◌≡◌ equal-respected t f g

  pub from-same : (phase : ℕ) (x : Mix) (s : Own) (old from : ℕ → Float) (l : ℕ) → Agree ◌≡◌ t f g x
      → new_from t phase x f s old from l ≡ new_from t phase x g s old from l
  from-same = from-respects ◌≡◌ equal-respected t f g

  pub source-same : (x : Mix) (s : Own) (j l : ℕ) → Agree ◌≡◌ t f g x → j < x.count → source_after t x f s j l ≡ source_after t x g s j l
  source-same = source-respects ◌≡◌ equal-respected t f g

  pub aux-same : (x : Mix) (s : Own) (j l : ℕ) → Agree ◌≡◌ t f g x → j < x.count → aux_after t x f s j l ≡ aux_after t x g s j l
  aux-same = aux-respects ◌≡◌ equal-respected t f g

-- ---- equality: own numbers

-- the same numbers of each route of x, in each of its four rows and each lane
abbrev pub OwnAgree : Env → Own → Own → Mix → Type 0
OwnAgree t s s' x = (j q l : ℕ) → j < x.count → q < 4 → l < t.stride → s j q l ≡ s' j q l

module _ (t : Env) (f : Rows) (s s' : Own) (x : Mix) (agree : OwnAgree t s s' x) where
  own-at : (j q l : ℕ) → j < x.count → q < 4 → own_at t s j q l ≡ own_at t s' j q l
  own-at j q l h k = go (which (ltb l t.stride))
    where
      go : (ltb l t.stride ≡ true) ⊎ (ltb l t.stride ≡ false) → own_at t s j q l ≡ own_at t s' j q l
      go (inl p) = rw p (agree j q l h k (ltb-true l t.stride p))
      go (inr p) = rw p

  own-raw : (j l : ℕ) → j < x.count → raw_in t f s j l (x.route j) ≡ raw_in t f s' j l (x.route j)
  own-raw j l h = ap (λ (random : Float). read_in t f random l (x.route j).source.read) (own-at j 2 l h (omega arith))

  own-source-in : (j l : ℕ) → j < x.count → source_in t f s j l (x.route j) ≡ source_in t f s' j l (x.route j)
  own-source-in j l h =
      ap₂ (λ (prev random : Float). input_in t f (x.route j).slot 0 (snap_of t (x.route j).voice l) prev random l (x.route j).source) (own-at j 0 l h (omega arith)) (own-at j 2 l h (omega arith))

  own-aux-in : (j l : ℕ) → j < x.count → (i : Input) → (x.route j).aux ≡ Some i → aux_in t f s j l (x.route j) i ≡ aux_in t f s' j l (x.route j) i
  own-aux-in j l h i q =
      ap₂ (λ (prev random : Float). input_in t f (x.route j).slot 1 (snap_of t (x.route j).voice l) prev random l i) (own-at j 1 l h (omega arith)) (own-at j 3 l h (omega arith))

  own_value : (j l : ℕ) → j < x.count → route_value t f s j l (x.route j) ≡ route_value t f s' j l (x.route j)
  own_value j l h = value-by ◌≡◌ equal-respected t f f s s' j l (x.route j) (own-raw j l h) (own-source-in j l h) (own-aux-in j l h) refl

  pub own-to-same : (phase : ℕ) (old : ℕ → Float) (l : ℕ) → new_to t phase x f s old l ≡ new_to t phase x f s' old l
  own-to-same = to-by ◌≡◌ equal-respected t f f s s' x own-raw own_value

  pub own-from-same : (phase : ℕ) (old from : ℕ → Float) (l : ℕ) → new_from t phase x f s old from l ≡ new_from t phase x f s' old from l
  own-from-same = from-by ◌≡◌ equal-respected t f f s s' x own-raw own_value

  pub own-source-same : (j l : ℕ) → j < x.count → l < t.stride → source_after t x f s j l ≡ source_after t x f s' j l
  own-source-same j l h i = source-by ◌≡◌ equal-respected t f f s s' x j l (own-source-in j l h) (agree j 0 l h (omega arith) i)

  pub own-aux-same : (j l : ℕ) → j < x.count → l < t.stride → aux_after t x f s j l ≡ aux_after t x f s' j l
  own-aux-same j l h i = aux-by ◌≡◌ equal-respected t f f s s' x j l (own-aux-in j l h) (agree j 1 l h (omega arith) i)

-- ---- equality: the number before, and where the ramp started before, in that lane

module _ (t : Env) (phase : ℕ) (x : Mix) (f : Rows) (s : Own) where
  pub old-same : (old old' : ℕ → Float) (l : ℕ) → old l ≡ old' l → new_to t phase x f s old l ≡ new_to t phase x f s old' l
  unfolding new_to
  old-same old old' l p = cc

  pub start-same : (old old' from from' : ℕ → Float) (l : ℕ) → old l ≡ old' l → from l ≡ from' l → new_from t phase x f s old from l ≡ new_from t phase x f s old' from' l
  unfolding new_from
  start-same old old' from from' l p q = cc
