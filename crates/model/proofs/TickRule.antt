-- THE TICK AND THE RULE: of a compiled program without a chain of counted feeds, the numbers that a tick leaves meet the rule, and no others do, as equality compares and as document 01 does.
-- Assumes nothing.
use mathlib.Core.Path.{◌≡◌, refl, sym, ap, subst, ◌∙◌}
use mathlib.Core.Logic.{◌≢◌, inl, inr}
use mathlib.Core.Bool.{Bool, true, false, not, cond}
use mathlib.Core.List.{List}
use Prim.Native.Nat.{ℕ, zero, suc, ◌+◌, ◌≤◌, ◌<◌, min}
use native.Mathlib.Omega.{arith}
use native.Mathlib.Decide.{ℕ_discrete}
use native.Mathlib.Nat.{min-le_right}
use lib.ListN.{length}
use lib.Ieee.{Float}
use Rattle.config.specs.Sizes.{slots, most_voices}
use Rattle.number.specs.Same.{◌≈◌}
use Rattle.number.proofs.Same.{same-sym, same-trans}
use Rattle.feed.specs.Numbers.{In, index_of}
use Rattle.feed.proofs.Place.{upd_same, upd_other}
use Rattle.feed.proofs.Keep.{keep-from}
use Rattle.state.specs.declared.Route.{Route}
use Rattle.state.specs.declared.State.{State}
use Rattle.state.specs.declared.Wiring.{Wiring}
use Rattle.model.specs.Feeds.{in_use, is_audio, dest_voice, feeder_of, reader_by, controls, plan_order}
use Rattle.model.specs.Routes.{route_by, route_in}
use Rattle.model.specs.Plans.{compiled}
use Rattle.model.specs.Counts.{stride_of, plan_total, control_total, plan_at, route_at, at}
use Rattle.model.specs.Layout.{plan_width}
use Rattle.model.specs.Env.{Env, Rows}
use Rattle.model.specs.Mix.{plan_mix}
use Rattle.model.specs.Slews.{source_after, aux_after}
use Rattle.model.specs.Tick.{mix_width, new_to, new_from, lanes_from, from_start, to_start, own_start, rows_of, own_of, turns, tick_of}
use Rattle.model.specs.Process.{values_of}
use Rattle.model.specs.Rule.{Values, slot_of, slot_route, slots_into, slot_into, dest_mix, lanes_of, owns_of, seen, ruled, Meets, Rule, Unbarred}
use Rattle.model.specs.Model.{values_in, written, Ticks, by-rule, by-definition}
use Rattle.model.specs.Claim.{Moment, before, after, Alike, Breaks, Alone, Claimed}
use Rattle.model.proofs.ProgramLayout.{stride-least}
use Rattle.model.proofs.RouteReads.{Reads}
use Rattle.model.proofs.Respects.{Respected, equal-respected, Agree, to-respects, to_same, from-same, source-same, aux-same, OwnAgree, own-to-same, own-from-same, own-source-same, own-aux-same, old-same, start-same}
use Rattle.model.proofs.Compared.{compared-respected, equal-decided, compared-decided, Fails}
use Rattle.model.proofs.Compared as C
use Rattle.model.proofs.Turns.{Laid, written_same, to-early, from-early, own-early, to-done, from-done, source-done, aux-done, turns-written}
use Rattle.model.proofs.Compiled.{PlanOf, plan-of, place_of, control-place, control-dest, route-of, route-place, routes-apart, routes-inside, slot-dest}
use Rattle.model.proofs.Renamed.{Placed, to-placed, from-placed, source-placed, aux-placed, width-placed}
use Rattle.model.proofs.ReadFeeds.{reads-from, reads-slot, read_first, chain-or-none}

-- ---- a comparison of numbers by which the rule can be asked

pub record Comparison (Same : Float → Float → Type 0) : Type 0 where
  pub laws : Respected Same
  pub sym : {x y : Float} → Same x y → Same y x
  pub trans : {x y z : Float} → Same x y → Same y z → Same x z
  pub decided : (x y : Float) → Dec (Same x y)

pub by-equality : Comparison ◌≡◌
by-equality = record { laws = equal-respected; sym = λ p. sym p; trans = λ p q. p ∙ q; decided = equal-decided }

pub by-document : Comparison ◌≈◌
by-document = record { laws = compared-respected; sym = λ p. same-sym p; trans = λ p q. same-trans p q; decided = compared-decided }

-- the lanes that are read with a scope are those of a destination of that scope
read-lanes : (w : Wiring) (t : Env) (e : ℕ) (b : Bool) → b ≡ dest_voice w e → (l : ℕ) → l < cond b t.stride 1 → l < lanes_of w t e
read-lanes w t e b p l h = subst (λ (c : Bool). l < plan_width t.stride c) p h

lanes-stride : (s : ℕ) → 1 ≤ s → (b : Bool) (l : ℕ) → l < plan_width s b → l < s
lanes-stride s h true l k = k
lanes-stride s h false l k = omega arith

module _ (w : Wiring) (slotted : length w.matrix.slot ≡ slots) (st : State) (is : st.program ≡ compiled w) (t : Env) (same : t.stride ≡ stride_of st) (phase : ℕ) (m : List Float)
    (room : values_of st ≤ length m) where
  abbrev place : ℕ → ℕ
  place d = index_of d (plan_order w)

  abbrev last : ℕ
  last = control_total st.program

  -- the values after k turns
  abbrev at_turn : ℕ → List Float
  at_turn k = turns st t phase k m

  -- the numbers before the tick, and after it
  abbrev v : Values
  v = values_in st m

  abbrev u : Values
  u = values_in st (tick_of st t phase m)

  in-use : (d : ℕ) → In d (controls w) → In d (in_use w)
  unfolding controls
  in-use d h = (keep-from (λ x. not (is_audio w x)) d (in_use w) h).0

  laid : Laid st
  laid =
      record {
        apart = λ a b h k. routes-apart w slotted st is a b h (omega (arith, min-le_right st.program.control (plan_total st.program)));
        inside = λ d h. routes-inside w slotted st is d (omega (arith, min-le_right st.program.control (plan_total st.program)));
      }

  wide : 1 ≤ t.stride
  wide = omega (arith, same, stride-least (min st.config.voices most_voices))

  module _ (d : ℕ) (control : In d (controls w)) where
    used : In d (in_use w)
    used = in-use d control

    early : place d < last
    early = control-place w slotted st is d control

    plan : PlanOf w st d (place d)
    plan = plan-of w slotted st is d used

    -- the plan of d is the destination's, with fed inputs by place
    placed : Placed w (plan_order w) (plan_mix st (place d)) (dest_mix w d)
    placed =
        record {
          dest = plan.dest;
          voice = plan.voice;
          min = plan.min;
          max = plan.max;
          base = plan.base;
          count = plan.count;
          routes =
              λ j h. (
                slot_into w d j,
                (
                  route-of w slotted st is d j used h
                      ∙ ap (λ (e : ℕ). route_in w.config.sample_rate w.sources (plan_order w) (slot_of w (slot_into w d j)) (dest_voice w e) (reader_by (feeder_of w) (slot_into w d j))) (sym (slot-dest w d j h)),
                  refl,
                ),
              );
        }

    lanes-plan : lanes_of w t d ≡ mix_width t (plan_mix st (place d))
    lanes-plan = sym (width-placed w (plan_order w) t v.to (owns_of w v d) (plan_mix st (place d)) (dest_mix w d) placed)

    lane_below : (l : ℕ) → l < lanes_of w t d → l < stride_of st
    lane_below l h = omega (arith, same, lanes-stride t.stride wide (dest_voice w d) l h)

    -- where its numbers lie
    to-lies : (n : List Float) (l : ℕ) → (values_in st n).to d l ≡ at n (to_start st (place d) + l)
    to-lies n l = ap (λ (i : ℕ). at n (to_start st i + l)) (place_of w slotted st is d used)

    from-lies : (n : List Float) (l : ℕ) → (values_in st n).from d l ≡ at n (from_start st (place d) + l)
    from-lies n l = ap (λ (i : ℕ). at n (from_start st i + l)) (place_of w slotted st is d used)

    own-lies : (n : List Float) (j q l : ℕ) → j < length (slots_into w d) → owns_of w (values_in st n) d j q l ≡ at n (own_start st ((plan_at st (place d)).first + j) q + l)
    own-lies n j q l h = ap (λ (r : ℕ). at n (own_start st r q + l)) (route-place w slotted st is d j used h)

    -- at its turn it has its old numbers, its own numbers of before, and where its ramps started before
    old-turn : (l : ℕ) → l < stride_of st → rows_of st (at_turn (place d)) (place d) l ≡ v.to d l
    old-turn l h = to-early st t phase m laid same room (place d) (place d) l (omega arith) early h ∙ sym (to-lies m l)

    start-turn : (l : ℕ) → l < stride_of st → lanes_from (at_turn (place d)) (from_start st (place d)) l ≡ v.from d l
    start-turn l h = from-early st t phase m laid same room (place d) (place d) l (omega arith) early h ∙ sym (from-lies m l)

    own_turn : OwnAgree t (own_of st (at_turn (place d)) (place d)) (owns_of w v d) (dest_mix w d)
    own_turn j q l h k b =
        own-early st t phase m laid same room (place d) (place d) j q l (omega arith) early (omega (arith, plan.count)) k (omega (arith, same)) ∙ sym (own-lies m j q l h)

  -- after the tick a destination has what its turn made
  to-after : (d l : ℕ) (control : In d (controls w)) → l < lanes_of w t d
      → u.to d l ≡ new_to t phase (plan_mix st (place d)) (rows_of st (at_turn (place d))) (own_of st (at_turn (place d)) (place d)) (rows_of st (at_turn (place d)) (place d)) l
  unfolding tick_of
  to-after d l c h =
      to-lies d c (tick_of st t phase m) l ∙ to-done st t phase m laid same room last (place d) l (early d c) (omega arith) (omega (arith, lanes-plan d c))

  -- and so has it after each later turn
  to-then : (k d l : ℕ) (control : In d (controls w)) → place d < k → k ≤ last → l < lanes_of w t d → at (at_turn k) (to_start st (place d) + l) ≡ u.to d l
  to-then k d l c before most h =
      to-done st t phase m laid same room k (place d) l before most (omega (arith, lanes-plan d c)) ∙ sym (to-after d l c h)

  -- ---- without a chain

  module _ (free : Unbarred w) where
    -- what its routes read stands before it, or is itself
    read-before : (d j e : ℕ) (b : Bool) → In d (controls w) → j < length (slots_into w d) → Reads e b (slot_route w (slot_into w d j)) → e ≢ d → place e < place d
    read-before d j e b c h r ne = read_first w free e d c ne (reads-slot w d j h e b r)

    -- at its turn each feeder that it reads has its number after the tick, and it itself that of before
    rows-turn : (d : ℕ) (control : In d (controls w)) → Agree ◌≡◌ t (λ e. rows_of st (at_turn (place d)) (place e)) (seen v u.to d) (dest_mix w d)
    rows-turn d c j h e b r l k = elim (ℕ_discrete e d) [
      | yes p ↦
          subst (λ (x : ℕ). rows_of st (at_turn (place d)) (place x) l ≡ seen v u.to d x l) (sym p)
          (old-turn d c l (lane_below d c l (read-lanes w t d b ((reads-from w (slot_into w d j) e b r).1 ∙ ap (dest_voice w) p) l k))
          ∙ sym (ap (λ (f : ℕ → Float). f l) (upd_same u.to d (v.to d))))
      | no ne ↦
          let f = reads-from w (slot_into w d j) e b r in
          to-then (place d) e l f.0 (read-before d j e b c h r ne) (omega (arith, early d c)) (read-lanes w t e b f.1 l k)
          ∙ sym (ap (λ (g : ℕ → Float). g l) (upd_other u.to d (v.to d) e ne))
    ]

    -- THE TICK MEETS THE RULE
    numbers-meet : Meets ◌≡◌ w t phase v u.to
    numbers-meet d l c h =
        let i = place d in
        let x = dest_mix w d in
        let f = rows_of st (at_turn i) in
        let s = own_of st (at_turn i) i in
        let old = rows_of st (at_turn i) i in
        to-after d l c h
        ∙ to-placed w (plan_order w) t f s (plan_mix st i) x (placed d c) phase old l
        ∙ to_same t (λ e. f (place e)) (seen v u.to d) phase x s old l (rows-turn d c)
        ∙ own-to-same t (seen v u.to d) s (owns_of w v d) x (own_turn d c) phase old l
        ∙ old-same t phase x (seen v u.to d) (owns_of w v d) old (v.to d) l (old-turn d c l (lane_below d c l h))

    ramps-meet : (d l : ℕ) → In d (controls w) → l < lanes_of w t d
        → u.from d l ≡ new_from t phase (dest_mix w d) (seen v u.to d) (owns_of w v d) (v.to d) (v.from d) l
    unfolding tick_of
    ramps-meet d l c h =
        let i = place d in
        let x = dest_mix w d in
        let f = rows_of st (at_turn i) in
        let s = own_of st (at_turn i) i in
        let old = rows_of st (at_turn i) i in
        let start = lanes_from (at_turn i) (from_start st i) in
        from-lies d c (tick_of st t phase m) l
        ∙ from-done st t phase m laid same room last i l (early d c) (omega arith) (omega (arith, lanes-plan d c))
        ∙ from-placed w (plan_order w) t f s (plan_mix st i) x (placed d c) phase old start l
        ∙ from-same t (λ e. f (place e)) (seen v u.to d) phase x s old start l (rows-turn d c)
        ∙ own-from-same t (seen v u.to d) s (owns_of w v d) x (own_turn d c) phase old start l
        ∙ start-same t phase x (seen v u.to d) (owns_of w v d) old (v.to d) start (v.from d) l (old-turn d c l (lane_below d c l h)) (start-turn d c l (lane_below d c l h))

    sources-meet : (d j l : ℕ) → In d (controls w) → j < length (slots_into w d) → l < t.stride
        → owns_of w u d j 0 l ≡ source_after t (dest_mix w d) (seen v u.to d) (owns_of w v d) j l
    unfolding tick_of
    sources-meet d j l c b h =
        let i = place d in
        let x = dest_mix w d in
        let f = rows_of st (at_turn i) in
        let s = own_of st (at_turn i) i in
        own-lies d c (tick_of st t phase m) j 0 l b
        ∙ source-done st t phase m laid same room last i j l (early d c) (omega arith) (omega (arith, (plan d c).count)) (omega (arith, same))
        ∙ source-placed w (plan_order w) t f s (plan_mix st i) x (placed d c) j l b
        ∙ source-same t (λ e. f (place e)) (seen v u.to d) x s j l (rows-turn d c) b
        ∙ own-source-same t (seen v u.to d) s (owns_of w v d) x (own_turn d c) j l b h

    auxes-meet : (d j l : ℕ) → In d (controls w) → j < length (slots_into w d) → l < t.stride
        → owns_of w u d j 1 l ≡ aux_after t (dest_mix w d) (seen v u.to d) (owns_of w v d) j l
    unfolding tick_of
    auxes-meet d j l c b h =
        let i = place d in
        let x = dest_mix w d in
        let f = rows_of st (at_turn i) in
        let s = own_of st (at_turn i) i in
        own-lies d c (tick_of st t phase m) j 1 l b
        ∙ aux-done st t phase m laid same room last i j l (early d c) (omega arith) (omega (arith, (plan d c).count)) (omega (arith, same))
        ∙ aux-placed w (plan_order w) t f s (plan_mix st i) x (placed d c) j l b
        ∙ aux-same t (λ e. f (place e)) (seen v u.to d) x s j l (rows-turn d c) b
        ∙ own-aux-same t (seen v u.to d) s (owns_of w v d) x (own_turn d c) j l b h

    pub tick-meets : Rule w t phase v u
    tick-meets = record { numbers = numbers-meet; ramps = ramps-meet; sources = sources-meet; auxes = auxes-meet }

    -- ---- and nothing else does, as any comparison compares

    module _ (Same : Float → Float → Type 0) (by : Comparison Same) where
      abbrev eq : {x y : Float} → x ≡ y → Same x y
      eq {x = x} p = subst (Same x) p (by.laws.refl x)

      -- two proposals that are the same where d reads give the same
      ruled-same : (f g : Rows) (d l : ℕ) → In d (controls w)
          → ((e k : ℕ) → In e (controls w) → place e < place d → k < lanes_of w t e → Same (f e k) (g e k))
          → Same (ruled w t phase v f d l) (ruled w t phase v g d l)
      ruled-same f g d l c alike = to-respects Same by.laws t (seen v f d) (seen v g d) phase (dest_mix w d) (owns_of w v d) (v.to d) l agree
        where
          agree : Agree Same t (seen v f d) (seen v g d) (dest_mix w d)
          agree j h e b r k z = elim (ℕ_discrete e d) [
            | yes p ↦
                subst (λ (x : ℕ). Same (seen v f d x k) (seen v g d x k)) (sym p)
                (eq (ap (λ (a : ℕ → Float). a k) (upd_same f d (v.to d) ∙ sym (upd_same g d (v.to d)))))
            | no ne ↦
                let q = reads-from w (slot_into w d j) e b r in
                by.trans (eq (ap (λ (a : ℕ → Float). a k) (upd_other f d (v.to d) e ne)))
                (by.trans (alike e k q.0 (read-before d j e b c h r ne) (read-lanes w t e b q.1 k z))
                (eq (sym (ap (λ (a : ℕ → Float). a k) (upd_other g d (v.to d) e ne)))))
          ]

      -- what meets the rule is the same as what the tick leaves
      meets-alike : (f : Rows) → Meets Same w t phase v f → (n d l : ℕ) → In d (controls w) → place d < n → l < lanes_of w t d → Same (f d l) (u.to d l)
      meets-alike f meets zero d l c p h = absurd (omega arith)
      meets-alike f meets (suc n) d l c p h =
          by.trans (meets d l c h)
          (by.trans (ruled-same f u.to d l c (λ e k ce pe he. meets-alike f meets n e k ce (omega arith) he)) (eq (sym (numbers-meet d l c h))))

      -- what is the same as what the tick leaves meets the rule
      alike-meets : (f : Rows) → ((d l : ℕ) → In d (controls w) → l < lanes_of w t d → Same (f d l) (u.to d l)) → Meets Same w t phase v f
      alike-meets f alike d l c h =
          by.trans (alike d l c h)
          (by.trans (eq (numbers-meet d l c h)) (ruled-same u.to f d l c (λ e k ce pe he. by.sym (alike e k ce he))))

    -- two that the rule allows are one
    pub rule-one : (x : Values) → Rule w t phase v x → (d l : ℕ) → In d (controls w) → l < lanes_of w t d → x.to d l ≡ u.to d l
    rule-one x rule d l c h = meets-alike ◌≡◌ by-equality x.to rule.numbers (suc (place d)) d l c (omega arith) h

    seen_one : (x : Values) → Rule w t phase v x → (d : ℕ) → In d (controls w) → Agree ◌≡◌ t (seen v x.to d) (seen v u.to d) (dest_mix w d)
    seen_one x rule d c j h e b r k z = elim (ℕ_discrete e d) [
      | yes p ↦
          subst (λ (y : ℕ). seen v x.to d y k ≡ seen v u.to d y k) (sym p)
          (ap (λ (a : ℕ → Float). a k) (upd_same x.to d (v.to d) ∙ sym (upd_same u.to d (v.to d))))
      | no ne ↦
          let q = reads-from w (slot_into w d j) e b r in
          ap (λ (a : ℕ → Float). a k) (upd_other x.to d (v.to d) e ne)
          ∙ rule-one x rule e k q.0 (read-lanes w t e b q.1 k z)
          ∙ sym (ap (λ (a : ℕ → Float). a k) (upd_other u.to d (v.to d) e ne))
    ]

    pub ramps-one : (x : Values) → Rule w t phase v x → (d l : ℕ) → In d (controls w) → l < lanes_of w t d → x.from d l ≡ u.from d l
    ramps-one x rule d l c h =
        rule.ramps d l c h
        ∙ from-same t (seen v x.to d) (seen v u.to d) phase (dest_mix w d) (owns_of w v d) (v.to d) (v.from d) l (seen_one x rule d c)
        ∙ sym (ramps-meet d l c h)

    pub sources-one : (x : Values) → Rule w t phase v x → (d j l : ℕ) → In d (controls w) → j < length (slots_into w d) → l < t.stride → owns_of w x d j 0 l ≡ owns_of w u d j 0 l
    sources-one x rule d j l c b h =
        rule.sources d j l c b h
        ∙ source-same t (seen v x.to d) (seen v u.to d) (dest_mix w d) (owns_of w v d) j l (seen_one x rule d c) b
        ∙ sym (sources-meet d j l c b h)

    pub auxes-one : (x : Values) → Rule w t phase v x → (d j l : ℕ) → In d (controls w) → j < length (slots_into w d) → l < t.stride → owns_of w x d j 1 l ≡ owns_of w u d j 1 l
    auxes-one x rule d j l c b h =
        rule.auxes d j l c b h
        ∙ aux-same t (seen v x.to d) (seen v u.to d) (dest_mix w d) (owns_of w v d) j l (seen_one x rule d c) b
        ∙ sym (auxes-meet d j l c b h)

    -- ---- a tick of the model

    -- of control plan i: its destination, and the slots of its routes
    plan-control : (i : ℕ) → i < last → In (plan_at st i).dest (controls w)
    plan-control i h = (control-dest w slotted st is i h).0

    plan-place : (i : ℕ) → i < last → place (plan_at st i).dest ≡ i
    plan-place i h = (control-dest w slotted st is i h).1

    plan-lanes : (i : ℕ) (h : i < last) (l : ℕ) → l < mix_width t (plan_mix st i) → l < lanes_of w t (plan_at st i).dest
    plan-lanes i h l k =
        let e = lanes-plan (plan_at st i).dest (plan-control i h) in
        let p = plan-place i h in
        subst (λ (n : ℕ). l < n) (sym (e ∙ ap (λ (n : ℕ). mix_width t (plan_mix st n)) p)) k

    plan-count : (i : ℕ) (h : i < last) → (plan_at st i).count ≡ length (slots_into w (plan_at st i).dest)
    plan-count i h =
        ap (λ (n : ℕ). (plan_at st n).count) (sym (plan-place i h)) ∙ (plan (plan_at st i).dest (plan-control i h)).count

    route-slot : (i j : ℕ) (h : i < last) → j < (plan_at st i).count → (route_at st ((plan_at st i).first + j)).slot ≡ (slot_into w (plan_at st i).dest j).slot
    unfolding route_in route_by
    route-slot i j h k =
        ap (λ (n : ℕ). (route_at st ((plan_at st n).first + j)).slot) (sym (plan-place i h))
        ∙ ap (λ (r : Route). r.slot) (route-of w slotted st is (plan_at st i).dest j (in-use (plan_at st i).dest (plan-control i h)) (omega (arith, plan-count i h)))

    -- an own number of the model's at the slot of a route of a plan
    own-of : (x : Values) (i j q l : ℕ) (h : i < last) → j < (plan_at st i).count → x.own (route_at st ((plan_at st i).first + j)).slot q l ≡ owns_of w x (plan_at st i).dest j q l
    own-of x i j q l h k = ap (λ (n : ℕ). x.own n q l) (route-slot i j h k)

    own-two : (x : Values) → Rule w t phase v x → (d j q l : ℕ) → In d (controls w) → j < length (slots_into w d) → q < 2 → l < t.stride → owns_of w x d j q l ≡ owns_of w u d j q l
    own-two x rule d j zero l c b k h = sources-one x rule d j l c b h
    own-two x rule d j (suc zero) l c b k h = auxes-one x rule d j l c b h
    own-two x rule d j (suc (suc q)) l c b k h = absurd (omega arith)

    -- the tick writes its own numbers where they lie
    tick-written : tick_of st t phase m ≡ written st u last m
    tick-written =
        turns-written st t phase m laid same room u
        (λ i l h k. to-lies (plan_at st i).dest (plan-control i h) (tick_of st t phase m) l ∙ ap (λ (n : ℕ). at (tick_of st t phase m) (to_start st n + l)) (plan-place i h))
        (λ i l h k. from-lies (plan_at st i).dest (plan-control i h) (tick_of st t phase m) l ∙ ap (λ (n : ℕ). at (tick_of st t phase m) (from_start st n + l)) (plan-place i h))
        (λ i j q l h b k z.
        own-of u i j q l h b
        ∙ own-lies (plan_at st i).dest (plan-control i h) (tick_of st t phase m) j q l (omega (arith, plan-count i h))
        ∙ ap (λ (n : ℕ). at (tick_of st t phase m) (own_start st ((plan_at st n).first + j) q + l)) (plan-place i h))

    -- whatever the rule allows is written as the tick's numbers are
    rule-written : (x : Values) → Rule w t phase v x → written st x last m ≡ tick_of st t phase m
    rule-written x rule =
        written_same st m x u last
        (λ i l h k. rule-one x rule (plan_at st i).dest l (plan-control i h) (plan-lanes i h l (subst (λ (n : ℕ). l < plan_width n (plan_at st i).voice) (sym same) k)))
        (λ i l h k. ramps-one x rule (plan_at st i).dest l (plan-control i h) (plan-lanes i h l (subst (λ (n : ℕ). l < plan_width n (plan_at st i).voice) (sym same) k)))
        (λ i j q l h b k z.
        own-of x i j q l h b
        ∙ own-two x rule (plan_at st i).dest j q l (plan-control i h) (omega (arith, plan-count i h)) k (omega (arith, same))
        ∙ sym (own-of u i j q l h b))
        ∙ sym tick-written

  -- THE DEFINITIONS' TICK IS ONE OF THE MODEL'S, AND THE ONLY ONE, chain or none
  pub tick-there : Ticks w st t phase m (tick_of st t phase m)
  tick-there = elim (chain-or-none w) [
    | inl chain ↦ by-definition chain refl
    | inr free ↦ by-rule free u (tick-meets free) (tick-written free)
  ]

  pub tick-one : (n : List Float) → Ticks w st t phase m n → n ≡ tick_of st t phase m
  tick-one n (by-rule free x rule e) = e ∙ rule-written free x rule
  tick-one n (by-definition chain e) = e

  -- ---- what is claimed of a tick

  abbrev moment : Moment
  moment = record { wiring = w; state = st; env = t; phase = phase; values = m }

  module _ (free : Unbarred w) where
    alone : (Same : Float → Float → Type 0) → Comparison Same → Alone Same moment
    alone Same by =
        record {
          meets = λ f alike. alike-meets free Same by f alike;
          same = alike;
          breaks = breaks;
        }
      where
        alike : (f : Rows) → Meets Same w t phase v f → Alike Same moment f (after moment).to
        alike f meets d l c h = meets-alike free Same by f meets (suc (place d)) d l c (omega arith) h

        breaks : (f : Rows) (d l : ℕ) → In d (controls w) → l < lanes_of w t d → (Same (f d l) ((after moment).to d l) → ⊥) → Breaks Same moment f
        breaks f d l c h differs =
            elim (C.search (λ e k. Same (f e k) (ruled w t phase v f e k)) (λ e k. by.decided (f e k) (ruled w t phase v f e k)) (controls w) (lanes_of w t)) [
              | inl all ↦ absurd (differs (alike f all d l c h))
              | inr x ↦ record { dest = x.dest; lane = x.lane; control = x.stands; inside = x.inside; differs = x.fails }
            ]

    pub tick-claimed : Claimed moment
    tick-claimed = record { rule = tick-meets free; equal = alone ◌≡◌ by-equality; compared = alone ◌≈◌ by-document }
