-- The lists of plans and of routes that are made of a list of destinations: what stands at each place, and which slots the routes have. Assumes nothing.
use mathlib.Core.Path.{◌≡◌, refl, sym, ap, ◌∙◌}
use mathlib.Core.Logic.{◌⊎◌, inl, inr}
use mathlib.Core.Bool.{Bool, true, false}
use mathlib.Core.List.{List, [], ◌∷◌, ◌++◌, map, map-append, Memᴰ}
use Prim.Native.Nat.{ℕ, zero, suc, ◌+◌, ◌≤◌, ◌<◌}
use native.Mathlib.Omega.{arith}
use native.Mathlib.Decide.{ℕ_discrete}
use borrow.Author.Tests.{eqb-true, eq-eqb, ne_eqb}
use lib.Dec.{eqb, ltb}
use lib.ListN.{length, get_or, length-map, get_or-append, get_or-map}
use lib.Seq.{get_or-append-add}
use lib.Ieee.{Float}
use Rattle.list.proofs.Elements.{get_or-inside}
use Rattle.feed.specs.Numbers.{hit, count, In, Distinct, index_of}
use Rattle.feed.proofs.Tests.{which}
use Rattle.feed.proofs.Count.{hit_same, hit_other}
use Rattle.state.specs.declared.Slot.{Slot}
use Rattle.state.specs.declared.Sources.{Sources}
use Rattle.state.specs.declared.Destinations.{Destinations}
use Rattle.state.specs.declared.Base.{Base}
use Rattle.std.specs.Prelude.{Option, None, Some}
use Rattle.state.specs.declared.FedBy.{FedBy}
use Rattle.state.specs.declared.Target.{Target}
use Rattle.state.specs.declared.Plan.{Plan}
use Rattle.state.specs.declared.Route.{Route}
use Rattle.state.specs.declared.Candidate.{Candidate}
use Rattle.state.specs.declared.Reader.{Reader}
use Rattle.state.specs.declared.Verdict.{Verdict}
use Rattle.state.specs.declared.Verdict.TheVariants.{Over, LeftOut, Taken}
use Rattle.state.specs.Registry.{known_source, dest_count, dest_at, dest_place}
use Rattle.model.specs.Wiring.{aux_known, looked, verdict_by, verdict, verdicts_from, with_candidate, taken_of}
use Rattle.model.specs.Feeds.{is_voice, counted, audio_in, reader_by}
use Rattle.model.specs.Routes.{no_slot, route_by, route_in, routes_in}
use Rattle.model.specs.Plans.{readers_into, routes_over, plan_by, plans_in}
use Rattle.model.specs.Outputs.{plan_of}
use Rattle.model.specs.Rule.{candidates_into, no_candidate}
use Rattle.model.specs.Model.{route_of}
use Rattle.model.proofs.RouteCount.{into, AllIn}
use Rattle.model.proofs.Ordered.{count-append}

-- ---- the slots of a destination

-- the readers into a destination are those of its slots
pub readers-into : (g : Base → Option FedBy) (d : ℕ) (cs : List Candidate) → readers_into d (map (reader_by g) cs) ≡ map (reader_by g) (candidates_into d cs)
readers-into g d [] = refl
readers-into g d (c ∷ cs) = go (which (eqb c.dest d)) (readers-into g d cs)
  where
    go : (eqb c.dest d ≡ true) ⊎ (eqb c.dest d ≡ false) → readers_into d (map (reader_by g) cs) ≡ map (reader_by g) (candidates_into d cs)
        → readers_into d (map (reader_by g) (c ∷ cs)) ≡ map (reader_by g) (candidates_into d (c ∷ cs))
    go (inl t) ih = rw (t, ih)
    go (inr t) ih = rw (t, ih)

-- each has the destination
pub into-dest : (d : ℕ) (cs : List Candidate) (j : ℕ) (z : Candidate) → j < length (candidates_into d cs) → (get_or (candidates_into d cs) j z).dest ≡ d
into-dest d [] j z h = absurd (omega arith)
into-dest d (c ∷ cs) j z h = go (which (eqb c.dest d)) j h (into-dest d cs)
  where
    go : (eqb c.dest d ≡ true) ⊎ (eqb c.dest d ≡ false) → (j : ℕ) → j < length (candidates_into d (c ∷ cs))
        → ((j : ℕ) (z : Candidate) → j < length (candidates_into d cs) → (get_or (candidates_into d cs) j z).dest ≡ d)
        → (get_or (candidates_into d (c ∷ cs)) j z).dest ≡ d
    go (inl t) zero h ih = rw t (eqb-true c.dest d t)
    go (inl t) (suc j) h ih = rw t (ih j z (omega (arith, rw t at h)))
    go (inr t) j h ih = rw t (ih j z (rw t at h))

pub all_in : (g : Base → Option FedBy) (l : List ℕ) (cs : List Candidate) → ((c : Candidate) → Memᴰ c cs → In c.dest l) → AllIn l (map (reader_by g) cs)
all_in g l [] h = tt
all_in g l (c ∷ cs) h = (h c (Memᴰ.head refl), all_in g l cs (λ x m. h x (Memᴰ.tail m)))

-- ---- where the routes of a destination start

-- how many of the readers are into the first i destinations of the list
abbrev pub into_first : ℕ → List ℕ → List Reader → ℕ
into_first zero l rs = 0
into_first (suc i) [] rs = 0
into_first (suc i) (d ∷ l) rs = length (readers_into d rs) + into_first i l rs

pub first-apart : (l : List ℕ) (rs : List Reader) (a b : ℕ) → a < b → b < length l
    → into_first a l rs + length (readers_into (get_or l a 0) rs) ≤ into_first b l rs
first-apart [] rs a b h k = absurd (omega arith)
first-apart (d ∷ l) rs a zero h k = absurd (omega arith)
first-apart (d ∷ l) rs zero (suc b) h k = omega arith
first-apart (d ∷ l) rs (suc a) (suc b) h k = omega (arith, first-apart l rs a b (omega arith) (omega arith))

pub first-inside : (l : List ℕ) (rs : List Reader) (i : ℕ) → i < length l → into_first i l rs + length (readers_into (get_or l i 0) rs) ≤ into l rs
first-inside [] rs i h = absurd (omega arith)
first-inside (d ∷ l) rs zero h = omega arith
first-inside (d ∷ l) rs (suc i) h = omega (arith, first-inside l rs i (omega arith))

-- ---- plans

module _ (ss : Sources) (ds : Destinations) (cs : List Candidate) (rs : List Reader) where
  -- the plan of d, whose routes start at number f
  abbrev pub plan_from : ℕ → ℕ → Plan
  plan_from d f = plan_by d (dest_at ds d) (counted ss (dest_at ds d).feed) (audio_in ss cs d (dest_at ds d)) f (length (readers_into d rs))

  pub plans-length : (f : ℕ) (l : List ℕ) → length (plans_in ss ds cs rs f l) ≡ length l
  plans-length f [] = refl
  plans-length f (d ∷ l) = ap suc (plans-length (f + length (readers_into d rs)) l)

  -- THE PLAN AT A PLACE
  pub plans-at : (f : ℕ) (l : List ℕ) (i : ℕ) (z : Plan) → i < length l → get_or (plans_in ss ds cs rs f l) i z ≡ plan_from (get_or l i 0) (f + into_first i l rs)
  plans-at f [] i z h = absurd (omega arith)
  plans-at f (d ∷ l) zero z h = ap (plan_from d) (omega arith)
  plans-at f (d ∷ l) (suc i) z h = plans-at (f + length (readers_into d rs)) l i z (omega arith) ∙ ap (plan_from (get_or l i 0)) (omega arith)

  -- the plan of a destination stands where the destination does
  pub plans-place : (d f : ℕ) (l : List ℕ) → plan_of d (plans_in ss ds cs rs f l) ≡ index_of d l
  unfolding plan_by
  plans-place d f [] = refl
  plans-place d f (e ∷ l) = go (ℕ_discrete d e) (plans-place d (f + length (readers_into e rs)) l)
    where
      go : Dec (d ≡ e) → plan_of d (plans_in ss ds cs rs (f + length (readers_into e rs)) l) ≡ index_of d l → plan_of d (plans_in ss ds cs rs f (e ∷ l)) ≡ index_of d (e ∷ l)
      go (yes p) ih = rw (eq-eqb d e p, eq-eqb e d (sym p))
      go (no n) ih = rw (ne_eqb d e n, ne_eqb e d (λ q. n (sym q)), ih)

-- ---- routes

module _ (rate : Float) (ss : Sources) (ds : Destinations) (ms : List Slot) (g : Base → Option FedBy) (cs : List Candidate) (os : List ℕ) where
  abbrev rs : List Reader
  rs = map (reader_by g) cs

  -- the route of a reader into d, and of a slot of d
  abbrev route_to : ℕ → Reader → Route
  route_to d r = route_in rate ss os (get_or ms r.candidate.slot no_slot) (is_voice (dest_at ds d).scope) r

  abbrev pub route_for : ℕ → Candidate → Route
  route_for d c = route_in rate ss os (get_or ms c.slot no_slot) (is_voice (dest_at ds d).scope) (reader_by g c)

  abbrev routes_for : ℕ → List Reader → List Route
  routes_for d l = routes_in rate ss os ms (is_voice (dest_at ds d).scope) l

  here-length : (d : ℕ) → length (routes_for d (readers_into d rs)) ≡ length (readers_into d rs)
  here-length d = length-map (readers_into d rs) (route_to d)

  pub into-length : (d : ℕ) → length (readers_into d rs) ≡ length (candidates_into d cs)
  into-length d = ap length (readers-into g d cs) ∙ length-map (candidates_into d cs) (reader_by g)

  here-at : (d j : ℕ) (z : Route) → j < length (candidates_into d cs) → get_or (routes_for d (readers_into d rs)) j z ≡ route_for d (get_or (candidates_into d cs) j no_candidate)
  here-at d j z h =
      get_or-inside (routes_for d (readers_into d rs)) j z (route_for d no_candidate) (omega (arith, here-length d, into-length d))
      ∙ ap (λ (l : List Reader). get_or (routes_for d l) j (route_for d no_candidate)) (readers-into g d cs)
      ∙ get_or-map (route_to d) (map (reader_by g) (candidates_into d cs)) j (reader_by g no_candidate)
      ∙ ap (route_to d) (get_or-map (reader_by g) (candidates_into d cs) j no_candidate)

  abbrev over : List ℕ → List Route
  over l = routes_over rate ss ds ms rs os l

  -- THE ROUTE AT A PLACE: the j-th of the i-th destination
  pub routes-at : (l : List ℕ) (i j : ℕ) (z : Route) → i < length l → j < length (candidates_into (get_or l i 0) cs)
      → get_or (routes_over rate ss ds ms rs os l) (into_first i l rs + j) z ≡ route_for (get_or l i 0) (get_or (candidates_into (get_or l i 0) cs) j no_candidate)
  routes-at [] i j z h k = absurd (omega arith)
  routes-at (d ∷ l) zero j z h k =
      let e : 0 + j ≡ j = omega arith in
      ap (λ (p : ℕ). get_or (routes_for d (readers_into d rs) ++ over l) p z) e
      ∙ get_or-append (routes_for d (readers_into d rs)) (over l) z j (omega (arith, here-length d, into-length d))
      ∙ here-at d j z k
  routes-at (d ∷ l) (suc i) j z h k =
      let e : length (readers_into d rs) + into_first i l rs + j ≡ length (routes_for d (readers_into d rs)) + (into_first i l rs + j) = omega (arith, here-length d) in
      ap (λ (p : ℕ). get_or (routes_for d (readers_into d rs) ++ over l) p z) e
      ∙ get_or-append-add (routes_for d (readers_into d rs)) (over l) (into_first i l rs + j) z
      ∙ routes-at l i j z (omega arith) k

-- ---- the slots of the routes

abbrev pub slots_of : List Candidate → List ℕ
slots_of cs = map (λ c. c.slot) cs

abbrev pub route_slots : List Route → List ℕ
route_slots rs = map (λ r. r.slot) rs

-- the first route of a slot stands where the slot does
pub route-index : (n : ℕ) (rs : List Route) → route_of n rs ≡ index_of n (route_slots rs)
route-index n [] = refl
route-index n (r ∷ rs) = go (ℕ_discrete n r.slot) (route-index n rs)
  where
    go : Dec (n ≡ r.slot) → route_of n rs ≡ index_of n (route_slots rs) → route_of n (r ∷ rs) ≡ index_of n (route_slots (r ∷ rs))
    go (yes p) ih = rw (eq-eqb n r.slot p, eq-eqb r.slot n (sym p))
    go (no k) ih = rw (ne_eqb n r.slot k, ne_eqb r.slot n (λ q. k (sym q)), ih)

-- how often n is the slot of a candidate into a destination of the list
abbrev times_over : ℕ → List ℕ → List Candidate → ℕ
times_over n [] cs = 0
times_over n (d ∷ l) cs = count n (slots_of (candidates_into d cs)) + times_over n l cs

none_over : (n : ℕ) (l : List ℕ) → times_over n l [] ≡ 0
none_over n [] = refl
none_over n (d ∷ l) = omega (arith, none_over n l)

other-over : (n : ℕ) (l : List ℕ) (c : Candidate) (cs : List Candidate) → count c.dest l ≡ 0 → times_over n l (c ∷ cs) ≡ times_over n l cs
other-over n [] c cs h = refl
other-over n (d ∷ l) c cs h = go (ℕ_discrete c.dest d) (other-over n l c cs (omega arith))
  where
    go : Dec (c.dest ≡ d) → times_over n l (c ∷ cs) ≡ times_over n l cs → times_over n (d ∷ l) (c ∷ cs) ≡ times_over n (d ∷ l) cs
    go (yes p) ih = absurd (omega (arith, hit_same d, rw p at h))
    go (no k) ih = rw (ne_eqb c.dest d k) (omega arith)

more-over : (n : ℕ) (l : List ℕ) (c : Candidate) (cs : List Candidate) → Distinct l → times_over n l (c ∷ cs) ≤ hit n c.slot + times_over n l cs
more-over n [] c cs once = omega arith
more-over n (d ∷ l) c cs once = go (ℕ_discrete c.dest d) (more-over n l c cs (λ a. omega (arith, once a)))
  where
    go : Dec (c.dest ≡ d) → times_over n l (c ∷ cs) ≤ hit n c.slot + times_over n l cs → times_over n (d ∷ l) (c ∷ cs) ≤ hit n c.slot + times_over n (d ∷ l) cs
    go (yes p) ih =
        let z : count c.dest l ≡ 0 = rw p (omega (arith, once d, hit_same d)) in
        rw (eq-eqb c.dest d p) (omega (arith, other-over n l c cs z))
    go (no k) ih = rw (ne_eqb c.dest d k) (omega arith)

over-bound : (n : ℕ) (l : List ℕ) (cs : List Candidate) → Distinct l → times_over n l cs ≤ count n (slots_of cs)
over-bound n l [] once = omega (arith, none_over n l)
over-bound n l (c ∷ cs) once = omega (arith, more-over n l c cs once, over-bound n l cs once)

module _ (rate : Float) (ss : Sources) (ds : Destinations) (ms : List Slot) (g : Base → Option FedBy) (cs : List Candidate) (os : List ℕ) where
  slots_same : (v : Bool) (l : List Candidate) → route_slots (routes_in rate ss os ms v (map (reader_by g) l)) ≡ slots_of l
  unfolding route_in route_by
  slots_same v [] = refl
  slots_same v (c ∷ l) = ap (λ (ks : List ℕ). c.slot ∷ ks) (slots_same v l)

  slots-here : (v : Bool) (d : ℕ) → route_slots (routes_in rate ss os ms v (readers_into d (map (reader_by g) cs))) ≡ slots_of (candidates_into d cs)
  slots-here v d = ap (λ (r : List Reader). route_slots (routes_in rate ss os ms v r)) (readers-into g d cs) ∙ slots_same v (candidates_into d cs)

  slots-times : (n : ℕ) (l : List ℕ) → count n (route_slots (routes_over rate ss ds ms (map (reader_by g) cs) os l)) ≡ times_over n l cs
  slots-times n [] = refl
  slots-times n (d ∷ l) =
      let v = is_voice (dest_at ds d).scope in
      let xs = route_slots (routes_in rate ss os ms v (readers_into d (map (reader_by g) cs))) in
      let ys = route_slots (routes_over rate ss ds ms (map (reader_by g) cs) os l) in
      let e : xs ≡ slots_of (candidates_into d cs) = slots-here v d in
      rw map-append (count-append n xs ys ∙ rw (e, slots-times n l))

  -- NO SLOT TWICE, where no destination stands twice and no candidate's slot
  pub route-slots-distinct : (l : List ℕ) → Distinct l → Distinct (slots_of cs) → Distinct (route_slots (routes_over rate ss ds ms (map (reader_by g) cs) os l))
  route-slots-distinct l once apart n = omega (arith, slots-times n l, over-bound n l cs once, apart n)

-- ---- the slots of the candidates

module _ (ss : Sources) (ds : Destinations) where
  -- a slot that is taken has its number
  abbrev Numbered : ℕ → Verdict → Type 0
  Numbered n Over = Unit {0}
  Numbered n (LeftOut r) = Unit {0}
  Numbered n (Taken c) = c.slot ≡ n

  looked-numbered : (n i : ℕ) (aux : Option ℕ) (d : ℕ) → Numbered n (looked ss ds n i aux d)
  looked-numbered n i aux d = go (which (known_source ss i)) (which (aux_known ss aux)) (which (ltb d (dest_count ds)))
    where
      go : (known_source ss i ≡ true) ⊎ (known_source ss i ≡ false) → (aux_known ss aux ≡ true) ⊎ (aux_known ss aux ≡ false)
          → (ltb d (dest_count ds) ≡ true) ⊎ (ltb d (dest_count ds) ≡ false) → Numbered n (looked ss ds n i aux d)
      go (inr s) a t = rw s tt
      go (inl s) (inr a) t = rw (s, a) tt
      go (inl s) (inl a) (inr t) = rw (s, a, t) tt
      go (inl s) (inl a) (inl t) = rw (s, a, t) refl

  by-numbered : (n : ℕ) (bypass : Bool) (aux s : Option ℕ) (a : Option Target) → Numbered n (verdict_by ss ds n bypass aux s a)
  by-numbered n b aux None a = tt
  by-numbered n b aux (Some i) None = tt
  by-numbered n true aux (Some i) (Some t) = tt
  by-numbered n false aux (Some i) (Some t) = looked-numbered n i aux (dest_place ds t)

  numbered : (n : ℕ) (s : Slot) → Numbered n (verdict ss ds n s)
  unfolding verdict
  numbered n s = by-numbered n s.bypass s.aux s.source s.destination

  with-times : (m n : ℕ) (v : Verdict) (cs : List Candidate) → Numbered n v → count m (slots_of (with_candidate v cs)) ≤ hit m n + count m (slots_of cs)
  with-times m n Over cs h = omega arith
  with-times m n (LeftOut r) cs h = omega arith
  with-times m n (Taken c) cs h = rw h (omega arith)

  slots-below : (m n : ℕ) (l : List Slot) → m < n → count m (slots_of (taken_of (verdicts_from ss ds n l))) ≡ 0
  unfolding verdicts_from
  slots-below m n [] h = refl
  slots-below m n (s ∷ l) h =
      omega (
        arith,
        with-times m n (verdict ss ds n s) (taken_of (verdicts_from ss ds (suc n) l)) (numbered n s),
        hit_other m n (λ e. omega arith),
        slots-below m (suc n) l (omega arith),
      )

  -- NO SLOT TWICE
  pub slots-distinct : (n : ℕ) (l : List Slot) → Distinct (slots_of (taken_of (verdicts_from ss ds n l)))
  unfolding verdicts_from
  slots-distinct n [] m = omega arith
  slots-distinct n (s ∷ l) m = go (ℕ_discrete m n) (with-times m n (verdict ss ds n s) (taken_of (verdicts_from ss ds (suc n) l)) (numbered n s)) (slots-distinct (suc n) l m)
    where
      go : Dec (m ≡ n) → count m (slots_of (taken_of (verdicts_from ss ds n (s ∷ l)))) ≤ hit m n + count m (slots_of (taken_of (verdicts_from ss ds (suc n) l)))
          → count m (slots_of (taken_of (verdicts_from ss ds (suc n) l))) ≤ 1 → count m (slots_of (taken_of (verdicts_from ss ds n (s ∷ l)))) ≤ 1
      go (yes e) h ih =
          let u : hit m n ≡ 1 = rw e (hit_same n) in
          omega (arith, slots-below m (suc n) l (omega arith))
      go (no k) h ih = omega (arith, hit_other m n k)
