-- The plans and the routes of a compiled program, by destination and by slot: which plan a destination in use has and what is in it, which routes stand from its first on,
-- and where a slot's route stands. Assumes nothing.
use mathlib.Core.Path.{◌≡◌, refl, sym, ap, ◌∙◌}
use mathlib.Core.List.{Memᴰ}
use Prim.Native.Nat.{ℕ, ◌+◌, ◌≤◌, ◌<◌, min}
use native.Mathlib.Nat.{min-eq_left}
use native.Mathlib.Omega.{arith}
use lib.ListN.{length, get_or, take, length-append, length-map, get_or-append, get_or-map}
use Rattle.config.specs.Sizes.{slots}
use Rattle.list.proofs.Padded.{padded-take, padded-at}
use Rattle.list.proofs.Elements.{get_or-inside}
use Rattle.feed.specs.Numbers.{In, Distinct, index_of}
use Rattle.feed.specs.Order.{order}
use Rattle.feed.proofs.Count.{in-at}
use Rattle.feed.proofs.Index.{at-index, index_at}
use Rattle.feed.proofs.Placed.{order-length, order-in}
use Rattle.state_filled.specs.Filled.{no_plan, no_route}
use Rattle.state.specs.declared.Candidate.{Candidate}
use Rattle.state.specs.declared.Plan.{Plan}
use Rattle.state.specs.declared.Route.{Route}
use Rattle.state.specs.declared.Program.{Program}
use Rattle.state.specs.declared.State.{State}
use Rattle.state.specs.declared.Wiring.{Wiring}
use Rattle.state.specs.Registry.{dest_at}
use Rattle.model.specs.Wiring.{verdicts, candidates}
use Rattle.model.specs.Feeds.{in_use, counted_feed, dest_voice, is_audio, feeder_of, reader_by, readers_of, reads, controls, audios, plan_order}
use Rattle.model.specs.Routes.{route_by, route_in}
use Rattle.model.specs.Plans.{readers_into, plan_by, plans_of, all_routes, compiled}
use Rattle.model.specs.Counts.{plan_total, control_total, route_total, plan_at, route_at}
use Rattle.model.specs.Outputs.{plan_of, plan_place}
use Rattle.model.specs.Rule.{slot_of, candidates_into, slots_into, no_candidate, slot_into}
use Rattle.model.specs.Model.{route_of, route_place}
use Rattle.model.proofs.Candidates.{candidates-most, candidate-named}
use Rattle.model.proofs.InUse.{some-named, in-use-means}
use Rattle.model.proofs.Ordered.{plan-order-in, plan-order-distinct}
use Rattle.model.proofs.ProgramLayout.{plans-most}
use Rattle.model.proofs.RouteCount.{into, into-all, routes-length}
use Rattle.model.proofs.PlanLists.{into-dest, all_in, into_first, first-apart, first-inside, plan_from, plans-length, plans-at, plans-place}
use Rattle.model.proofs.PlanLists.{route_for, into-length, routes-at, route_slots, route-index, route-slots-distinct, slots-distinct}

-- plan i is that of destination d
pub record PlanOf (w : Wiring) (st : State) (d i : ℕ) : Type 0 where
  pub dest : (plan_at st i).dest ≡ d
  pub voice : (plan_at st i).voice ≡ dest_voice w d
  pub min : (plan_at st i).min ≡ (dest_at w.dests d).min
  pub max : (plan_at st i).max ≡ (dest_at w.dests d).max
  pub base : (plan_at st i).base ≡ counted_feed w d
  pub count : (plan_at st i).count ≡ length (slots_into w d)

-- ---- of the wiring alone

module _ (w : Wiring) where
  -- THE SLOTS OF A DESTINATION HAVE IT
  pub slot-dest : (d j : ℕ) → j < length (slots_into w d) → (slot_into w d j).dest ≡ d
  unfolding slot_into slots_into
  slot-dest d j h = into-dest d (candidates w) j no_candidate h

  -- the control destinations are the first of the order
  controls-length : length (controls w) + length (audios w) ≡ length (plan_order w)
  unfolding plan_order
  controls-length = simp length-append (omega (arith, order-length (reads w) (controls w)))

  control-at : (i : ℕ) → i < length (controls w) → get_or (plan_order w) i 0 ≡ get_or (order (reads w) (controls w)) i 0
  unfolding plan_order
  control-at i h = get_or-append (order (reads w) (controls w)) (audios w) 0 i (omega (arith, order-length (reads w) (controls w)))

  control-first : (d : ℕ) → In d (controls w) → index_of d (plan_order w) < length (controls w)
  control-first d h =
      let os = order (reads w) (controls w) in
      let i = index_of d os in
      let r = at-index d os ((order-in (reads w) (controls w) d).1 h) in
      let k : i < length (controls w) = omega (arith, order-length (reads w) (controls w)) in
      let e : get_or (plan_order w) i 0 ≡ d = control-at i k ∙ r.0 in
      let p : index_of (get_or (plan_order w) i 0) (plan_order w) ≡ i = index_at (plan_order w) (plan-order-distinct w) i (omega (arith, controls-length)) in
      omega (arith, rw e at p)

  -- a destination in use stands in the order
  place_at : (d : ℕ) → In d (in_use w) → (get_or (plan_order w) (index_of d (plan_order w)) 0 ≡ d) × (index_of d (plan_order w) < length (plan_order w))
  place_at d h = at-index d (plan_order w) ((plan-order-in w d).1 h)

  -- the plan of d, whose routes start at number f
  abbrev plan_with : ℕ → ℕ → Plan
  plan_with d f = plan_from w.sources w.dests (candidates w) (readers_of w) d f

  -- the route of a slot of d
  abbrev route_with : ℕ → Candidate → Route
  route_with d c = route_for w.config.sample_rate w.sources w.dests w.matrix.slot (feeder_of w) (candidates w) (plan_order w) d c

  plans-many : length (plans_of w) ≡ length (plan_order w)
  unfolding plans_of
  plans-many = plans-length w.sources w.dests (candidates w) (readers_of w) 0 (plan_order w)

  -- how many readers each destination has
  readers-many : (d : ℕ) → length (readers_into d (readers_of w)) ≡ length (slots_into w d)
  unfolding readers_of slots_into
  readers-many d = into-length w.config.sample_rate w.sources w.dests w.matrix.slot (feeder_of w) (candidates w) (plan_order w) d

  module _ (slotted : length w.matrix.slot ≡ slots) where
    candidate-placed : (c : Candidate) → Memᴰ c (candidates w) → In c.dest (plan_order w)
    candidate-placed c m =
        (plan-order-in w c.dest).1
        ((in-use-means w c.dest).1 (candidate-named w slotted c.dest (some-named (candidates w) c.dest c m refl), record { by = c; stands = m; names = refl }))

    into-many : into (plan_order w) (readers_of w) ≡ length (candidates w)
    unfolding readers_of
    into-many =
        into-all (plan_order w) (readers_of w) (plan-order-distinct w) (all_in (feeder_of w) (plan_order w) (candidates w) candidate-placed)
        ∙ length-map (candidates w) (reader_by (feeder_of w))

    -- a route for each candidate
    pub routes-many : length (all_routes w) ≡ length (candidates w)
    unfolding all_routes
    routes-many = routes-length w.config.sample_rate w.sources w.dests w.matrix.slot (readers_of w) (plan_order w) (plan_order w) ∙ into-many

  -- no slot has two routes
  pub route-slots-once : Distinct (route_slots (all_routes w))
  unfolding all_routes readers_of candidates verdicts
  route-slots-once =
      route-slots-distinct w.config.sample_rate w.sources w.dests w.matrix.slot (feeder_of w) (candidates w) (plan_order w) (plan_order w)
      (plan-order-distinct w) (slots-distinct w.sources w.dests 0 w.matrix.slot)

-- ---- of the program

module _ (w : Wiring) (slotted : length w.matrix.slot ≡ slots) (st : State) (is : st.program ≡ compiled w) where
  -- ---- how many

  pub plan-total : plan_total st.program ≡ length (plan_order w)
  unfolding compiled
  plan-total = ap plan_total is ∙ min-eq_left (plans-most w slotted)

  pub control-total : control_total st.program ≡ length (controls w)
  unfolding compiled
  control-total =
      ap (λ (p : Program). min p.control (plan_total st.program)) is
      ∙ min-eq_left (omega (arith, plan-total, controls-length w))

  pub route-total : route_total st.program ≡ length (candidates w)
  unfolding compiled
  route-total = ap route_total is ∙ min-eq_left (candidates-most w slotted)

  -- ---- plans

  plans-taken : take (plan_total st.program) st.program.plan ≡ plans_of w
  unfolding compiled
  plans-taken =
      ap (λ (n : ℕ). take n st.program.plan) (plan-total ∙ sym (plans-many w))
      ∙ ap (λ (p : Program). take (length (plans_of w)) p.plan) is
      ∙ padded-take slots no_plan (plans_of w)

  plan-at : (i : ℕ) → i < length (plan_order w)
      → plan_at st i ≡ plan_with w (get_or (plan_order w) i 0) (0 + into_first i (plan_order w) (readers_of w))
  unfolding plan_at compiled plans_of
  plan-at i h =
      ap (λ (p : Program). get_or p.plan i no_plan) is
      ∙ padded-at slots no_plan (plans_of w) i no_plan (omega (arith, plans-many w))
      ∙ plans-at w.sources w.dests (candidates w) (readers_of w) 0 (plan_order w) i no_plan h

  -- where the routes of plan i start, how many they are, and whose they are
  first_of : (i : ℕ) → i < length (plan_order w) → (plan_at st i).first ≡ into_first i (plan_order w) (readers_of w)
  unfolding plan_by
  first_of i h = ap (λ (p : Plan). p.first) (plan-at i h) ∙ omega arith

  count_of : (i : ℕ) → i < length (plan_order w) → (plan_at st i).count ≡ length (readers_into (get_or (plan_order w) i 0) (readers_of w))
  unfolding plan_by
  count_of i h = ap (λ (p : Plan). p.count) (plan-at i h)

  dest-of : (i : ℕ) → i < length (plan_order w) → (plan_at st i).dest ≡ get_or (plan_order w) i 0
  unfolding plan_by
  dest-of i h = ap (λ (p : Plan). p.dest) (plan-at i h)

  -- THE PLACE OF A DESTINATION
  pub place_of : (d : ℕ) → In d (in_use w) → plan_place st d ≡ index_of d (plan_order w)
  unfolding plans_of
  place_of d h = ap (plan_of d) plans-taken ∙ plans-place w.sources w.dests (candidates w) (readers_of w) d 0 (plan_order w)

  pub control-place : (d : ℕ) → In d (controls w) → index_of d (plan_order w) < control_total st.program
  control-place d h = omega (arith, control-total, control-first w d h)

  -- and back: a control plan is that of a control destination
  pub control-dest : (i : ℕ) → i < control_total st.program → In (plan_at st i).dest (controls w) × (index_of (plan_at st i).dest (plan_order w) ≡ i)
  control-dest i h =
      let os = order (reads w) (controls w) in
      let k : i < length (controls w) = omega (arith, control-total) in
      let n : i < length (plan_order w) = omega (arith, controls-length w) in
      let m : In (get_or os i 0) (controls w) = (order-in (reads w) (controls w) (get_or os i 0)).0 (in-at os i (omega (arith, order-length (reads w) (controls w)))) in
      (rw (dest-of i n, control-at w i k) m, rw (dest-of i n) (index_at (plan_order w) (plan-order-distinct w) i n))

  -- THE PLAN OF A DESTINATION IN USE
  pub plan-of : (d : ℕ) → In d (in_use w) → PlanOf w st d (index_of d (plan_order w))
  unfolding plan_by counted_feed
  plan-of d h =
      let r = place_at w d h in
      let i = index_of d (plan_order w) in
      let f = into_first i (plan_order w) (readers_of w) in
      let e : plan_at st i ≡ plan_with w d (0 + f) = plan-at i r.1 ∙ ap (λ (x : ℕ). plan_with w x (0 + f)) r.0 in
      record {
        dest = ap (λ (p : Plan). p.dest) e;
        voice = ap (λ (p : Plan). p.voice) e;
        min = ap (λ (p : Plan). p.min) e;
        max = ap (λ (p : Plan). p.max) e;
        base = ap (λ (p : Plan). p.base) e;
        count = ap (λ (p : Plan). p.count) e ∙ readers-many w d;
      }

  -- it is an audio plan where the destination is one of audio
  pub plan-audio : (d : ℕ) → In d (in_use w) → (plan_at st (index_of d (plan_order w))).audio ≡ is_audio w d
  unfolding plan_by is_audio
  plan-audio d h =
      let r = place_at w d h in
      let i = index_of d (plan_order w) in
      let f = into_first i (plan_order w) (readers_of w) in
      ap (λ (p : Plan). p.audio) (plan-at i r.1 ∙ ap (λ (x : ℕ). plan_with w x (0 + f)) r.0)

  -- ---- routes

  routes-taken : take (route_total st.program) st.program.route ≡ all_routes w
  unfolding compiled
  routes-taken =
      ap (λ (n : ℕ). take n st.program.route) (route-total ∙ sym (routes-many w slotted))
      ∙ ap (λ (p : Program). take (length (all_routes w)) p.route) is
      ∙ padded-take slots no_route (all_routes w)

  route-at : (p : ℕ) → p < length (all_routes w) → route_at st p ≡ get_or (all_routes w) p no_route
  unfolding route_at compiled
  route-at p h = ap (λ (q : Program). get_or q.route p no_route) is ∙ padded-at slots no_route (all_routes w) p no_route h

  -- routes stand plan by plan
  pub routes-apart : (a b : ℕ) → a < b → b < plan_total st.program → (plan_at st a).first + (plan_at st a).count ≤ (plan_at st b).first
  routes-apart a b h k =
      let n : b < length (plan_order w) = omega (arith, plan-total) in
      let m : a < length (plan_order w) = omega arith in
      omega (arith, first_of a m, count_of a m, first_of b n, first-apart (plan_order w) (readers_of w) a b h n)

  pub routes-inside : (i : ℕ) → i < plan_total st.program → (plan_at st i).first + (plan_at st i).count ≤ route_total st.program
  routes-inside i h =
      let n : i < length (plan_order w) = omega (arith, plan-total) in
      omega (arith, first_of i n, count_of i n, first-inside (plan_order w) (readers_of w) i n, into-many w slotted, route-total)

  -- route j of a destination in use is one of the routes
  route-inside : (d j : ℕ) → In d (in_use w) → j < length (slots_into w d) → (plan_at st (index_of d (plan_order w))).first + j < length (all_routes w)
  route-inside d j h k =
      omega (
        arith,
        (plan-of d h).count,
        routes-inside (index_of d (plan_order w)) (omega (arith, plan-total, (place_at w d h).1)),
        route-total,
        routes-many w slotted,
      )

  -- ITS ROUTES, in slot order
  pub route-of : (d j : ℕ) → In d (in_use w) → j < length (slots_into w d)
      → route_at st ((plan_at st (index_of d (plan_order w))).first + j)
      ≡ route_in w.config.sample_rate w.sources (plan_order w) (slot_of w (slot_into w d j)) (dest_voice w d) (reader_by (feeder_of w) (slot_into w d j))
  unfolding all_routes readers_of slots_into slot_into
  route-of d j h k =
      let r = place_at w d h in
      let i = index_of d (plan_order w) in
      let m : j < length (candidates_into (get_or (plan_order w) i 0) (candidates w)) = rw r.0 k in
      route-at ((plan_at st i).first + j) (route-inside d j h k)
      ∙ ap (λ (n : ℕ). get_or (all_routes w) (n + j) no_route) (first_of i r.1)
      ∙ routes-at w.config.sample_rate w.sources w.dests w.matrix.slot (feeder_of w) (candidates w) (plan_order w) (plan_order w) i j no_route r.1 m
      ∙ ap (λ (e : ℕ). route_with w e (get_or (candidates_into e (candidates w)) j no_candidate)) r.0

  slot_at : (d j : ℕ) → In d (in_use w) → j < length (slots_into w d)
      → get_or (route_slots (all_routes w)) ((plan_at st (index_of d (plan_order w))).first + j) no_route.slot ≡ (slot_into w d j).slot
  unfolding route_in route_by
  slot_at d j h k =
      let p = (plan_at st (index_of d (plan_order w))).first + j in
      get_or-map (λ (r : Route). r.slot) (all_routes w) p no_route
      ∙ ap (λ (r : Route). r.slot) (sym (route-at p (route-inside d j h k)) ∙ route-of d j h k)

  -- THE PLACE OF A SLOT'S ROUTE
  pub route-place : (d j : ℕ) → In d (in_use w) → j < length (slots_into w d)
      → route_place st (slot_into w d j).slot ≡ (plan_at st (index_of d (plan_order w))).first + j
  unfolding route_place
  route-place d j h k =
      let p = (plan_at st (index_of d (plan_order w))).first + j in
      let ks = route_slots (all_routes w) in
      let m : p < length ks = omega (arith, route-inside d j h k, length-map (all_routes w) (λ (r : Route). r.slot)) in
      let e : get_or ks p 0 ≡ (slot_into w d j).slot = get_or-inside ks p 0 no_route.slot m ∙ slot_at d j h k in
      ap (route_of (slot_into w d j).slot) routes-taken
      ∙ route-index (slot_into w d j).slot (all_routes w)
      ∙ rw e at (index_at ks (route-slots-once w) p m)
