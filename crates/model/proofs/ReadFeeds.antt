-- WHAT IS READ IS COUNTED: what a slot's route reads is a control destination in use, read with its own scope; every feed that is read is counted; and so, without a chain
-- of counted feeds, what is read stands first. Assumes nothing.
use mathlib.Core.Path.{◌≡◌, refl, sym, ap, ap₂, ◌∙◌}
use mathlib.Core.Logic.{◌≢◌, ◌⊎◌, inl, inr}
use mathlib.Core.Bool.{Bool, true, false, cond, not, ◌&&◌, ◌||◌}
use mathlib.Core.List.{List, [], ◌∷◌, map}
use Prim.Native.Nat.{ℕ, zero, suc, ◌<◌}
use native.Mathlib.Omega.{arith}
use lib.Dec.{eqb}
use lib.ListN.{length, get_or}
use borrow.Author.Tests.{eqb-true, eq-eqb}
use Rattle.feed.specs.Numbers.{In, index_of}
use Rattle.feed.specs.Chain.{Chain, Acyclic, Counts}
use Rattle.feed.proofs.Tests.{which}
use Rattle.feed.proofs.Count.{hit_same}
use Rattle.feed.proofs.Keep.{keep-in}
use Rattle.feed.proofs.Acyclic.{chain-counted, ordered-or-chain, ordered-means-acyclic}
use Rattle.state.specs.declared.Kind.{Kind}
use Rattle.state.specs.declared.Kind.TheVariants as K
use Rattle.state.specs.declared.Source.{Source}
use Rattle.state.specs.declared.Base.{Base}
use Rattle.state.specs.declared.Base.TheVariants as B
use Rattle.state.specs.declared.Read.TheVariants as D
use Rattle.state.specs.declared.Gain.TheVariants as G
use Rattle.std.specs.Prelude.{Option, None, Some}
use Rattle.state.specs.Fed.{by_dest}
use Rattle.state.specs.declared.FedBy.{FedBy}
use Rattle.state.specs.declared.Candidate.{Candidate}
use Rattle.state.specs.declared.Used.{Used}
use Rattle.state.specs.declared.Wiring.{Wiring}
use Rattle.state.specs.Registry.{source_at, dest_at}
use Rattle.model.specs.Wiring.{candidates}
use Rattle.model.specs.Feeds.{is_voice, in_use, counted, hears_audio, audio_rate, same_thing, counted_feed, is_audio, dest_voice, used_as, used_dests, last_feeder, feeder_of, aux_thing, reader_by, readers_of, is_it, is_among, any_reads, reads, is_onto, any_onto, counted_into, controls, plan_order}
use Rattle.model.specs.Routes.{unfed_read, read_by, input_by, aux_by, route_by}
use Rattle.model.specs.Rule.{fed_from, slot_of, slot_route, candidates_into, slots_into, no_candidate, slot_into}
use Rattle.model.proofs.Ordered.{fed-control, read-is-control, feeder-before}
use Rattle.model.proofs.RouteReads.{AuxReads, Reads}

-- ---- tests

or-end : (x : Bool) → x || true ≡ true
or-end true = refl
or-end false = refl

-- what is so wherever another test passes
or-or : (x x' y y' : Bool) → (x ≡ true → x' ≡ true) → (y ≡ true → y' ≡ true) → x || y ≡ true → x' || y' ≡ true
or-or true x' y y' p q h = rw (p refl)
or-or false true y y' p q h = refl
or-or false false y y' p q h = q h

and-and : (x y y' : Bool) → (y ≡ true → y' ≡ true) → x && y ≡ true → x && y' ≡ true
and-and true y y' q h = q h
and-and false y y' q h = h

-- ---- the feeder that is read

abbrev dest_found : Option FedBy → ℕ
dest_found None = 0
dest_found (Some f) = f.dest

abbrev voice_found : Option FedBy → Bool
voice_found None = false
voice_found (Some f) = f.voice

-- a feeder that is found is the one found before, or one of the list that feeds the thing, with its own scope
last-is : (g : ℕ → Used) (t : Base) (found : Option FedBy) (l : List ℕ) (a : ℕ) (v : Bool) → ((d : ℕ) → (g d).dest ≡ d) → last_feeder t found (map g l) ≡ by_dest a v
    → (found ≡ by_dest a v) ⊎ (In a l × ((same_thing (g a).feed t ≡ true) × (v ≡ (g a).voice)))
last-is g t found [] a v named h = inl h
last-is g t found (d ∷ l) a v named h =
    go (which (same_thing (g d).feed t)) (last-is g t (cond (same_thing (g d).feed t) (by_dest (g d).dest (g d).voice) found) l a v named h)
  where
    go : (same_thing (g d).feed t ≡ true) ⊎ (same_thing (g d).feed t ≡ false)
        → (cond (same_thing (g d).feed t) (by_dest (g d).dest (g d).voice) found ≡ by_dest a v) ⊎ (In a l × ((same_thing (g a).feed t ≡ true) × (v ≡ (g a).voice)))
        → (found ≡ by_dest a v) ⊎ (In a (d ∷ l) × ((same_thing (g a).feed t ≡ true) × (v ≡ (g a).voice)))
    go s (inr k) = inr (omega (arith, k.0), k.1)
    go (inr s) (inl k) = inl (rw s at k)
    go (inl s) (inl k) =
        let m : by_dest (g d).dest (g d).voice ≡ by_dest a v = rw s at k in
        let n : (g d).dest ≡ a = ap dest_found m in
        let o : (g d).voice ≡ v = ap voice_found m in
        let e : a ≡ d = sym n ∙ named d in
        inr (rw e (omega (arith, hit_same d)), (rw e s, sym o ∙ ap (λ (x : ℕ). (g x).voice) (sym e)))

-- who is found is somebody, with a scope
is-it : (a : ℕ) (e : Option FedBy) → is_it a e ≡ true → (v : Bool) × (e ≡ by_dest a v)
is-it a None h = absurd (let z : ◌≡◌ {A = ℕ} 0 1 = cc in omega arith)
is-it a (Some f) h = (f.voice, ap (λ (x : ℕ). by_dest x f.voice) (sym (eqb-true a f.dest h)))

it-is : (a : ℕ) (v : Bool) (e : Option FedBy) → e ≡ by_dest a v → is_it a e ≡ true
it-is a v e h = rw h (eq-eqb a a refl)

-- ---- what a fed input says of its feeder: that it is there

gain-from : (x : Option FedBy) (e : ℕ) (v : Bool) → fed_from x ≡ G.Fed e v → x ≡ by_dest e v
gain-from None e v h = cc
gain-from (Some f) e v h =
    let n : f.dest ≡ e = cc in
    let o : f.voice ≡ v = cc in
    ap₂ by_dest n o

unfed-never : (k : Kind) (i : ℕ) (u : Bool) (e : ℕ) (v : Bool) → unfed_read k i u ≡ D.Fed e v → ⊥
unfed-never K.Signal i u e v h = let z : ◌≡◌ {A = ℕ} 0 1 = cc in omega arith
unfed-never K.Audio i u e v h = let z : ◌≡◌ {A = ℕ} 0 1 = cc in omega arith
unfed-never K.Held i u e v h = let z : ◌≡◌ {A = ℕ} 0 1 = cc in omega arith
unfed-never K.Velocity i u e v h = let z : ◌≡◌ {A = ℕ} 0 1 = cc in omega arith
unfed-never K.Key i u e v h = let z : ◌≡◌ {A = ℕ} 0 1 = cc in omega arith
unfed-never K.ReleaseVelocity i u e v h = let z : ◌≡◌ {A = ℕ} 0 1 = cc in omega arith
unfed-never K.Random i u e v h = let z : ◌≡◌ {A = ℕ} 0 1 = cc in omega arith
unfed-never (K.Alternate inverse) i u e v h = let z : ◌≡◌ {A = ℕ} 0 1 = cc in omega arith
unfed-never K.RandomPerRoute i u e v h = let z : ◌≡◌ {A = ℕ} 0 1 = cc in omega arith
unfed-never K.VoiceLoad i u e v h = let z : ◌≡◌ {A = ℕ} 0 1 = cc in omega arith
unfed-never K.Constant i u e v h = let z : ◌≡◌ {A = ℕ} 0 1 = cc in omega arith

read-from : (s : Source) (i : ℕ) (x : Option FedBy) (e : ℕ) (v : Bool) → read_by s i (fed_from x) ≡ D.Fed e v → x ≡ by_dest e v
read-from s i None e v h = absurd (unfed-never s.kind i (is_voice s.scope) e v h)
read-from s i (Some f) e v h =
    let n : f.dest ≡ e = cc in
    let o : f.voice ≡ v = cc in
    ap₂ by_dest n o

-- ---- slots into a destination

-- who is read by one of the slots is read by the destination
into-reads : (feeder : Base → Option FedBy) (a d : ℕ) (cs : List Candidate) (j : ℕ) → j < length (candidates_into d cs)
    → is_among a (reader_by feeder (get_or (candidates_into d cs) j no_candidate)) ≡ true → any_reads a d (map (reader_by feeder) cs) ≡ true
into-reads feeder a d [] j h m = absurd (omega arith)
into-reads feeder a d (c ∷ cs) j h m = go (into-reads feeder a d cs) (which (eqb c.dest d)) j h m
  where
    later : any_reads a d (map (reader_by feeder) cs) ≡ true → any_reads a d (map (reader_by feeder) (c ∷ cs)) ≡ true
    later t = rw t (or-end (eqb c.dest d && is_among a (reader_by feeder c)))

    go : ((k : ℕ) → k < length (candidates_into d cs) → is_among a (reader_by feeder (get_or (candidates_into d cs) k no_candidate)) ≡ true
        → any_reads a d (map (reader_by feeder) cs) ≡ true)
        → (eqb c.dest d ≡ true) ⊎ (eqb c.dest d ≡ false) → (j : ℕ) → j < length (candidates_into d (c ∷ cs))
        → is_among a (reader_by feeder (get_or (candidates_into d (c ∷ cs)) j no_candidate)) ≡ true → any_reads a d (map (reader_by feeder) (c ∷ cs)) ≡ true
    go ih (inr t) j h m = later (ih j (rw t at h) (rw t at m))
    go ih (inl t) zero h m = let k : is_among a (reader_by feeder c) ≡ true = rw t at m in rw (t, k)
    go ih (inl t) (suc j) h m = later (ih j (let k : suc j < suc (length (candidates_into d cs)) = rw t at h in omega arith) (rw t at m))

-- ---- who is read feeds what it is read for

module _ (feeder : Base → Option FedBy) (thing : Base) (a b : ℕ) (onto : (t : Base) → is_it a (feeder t) ≡ true → same_thing thing t ≡ true) where
  among-onto : (c : Candidate) → is_among a (reader_by feeder c) ≡ true → is_onto thing c ≡ true
  among-onto c =
      let t₀ = B.Held c.source in
      let t₁ = aux_thing c.aux in
      let t₂ = B.Amount c.slot in
      let t₃ = B.Output c.slot in
      or-or (is_it a (feeder t₀)) (same_thing thing t₀) (is_it a (feeder t₁) || (is_it a (feeder t₂) || is_it a (feeder t₃)))
      (same_thing thing t₁ || (same_thing thing t₂ || same_thing thing t₃))
      (onto t₀)
      (or-or (is_it a (feeder t₁)) (same_thing thing t₁) (is_it a (feeder t₂) || is_it a (feeder t₃)) (same_thing thing t₂ || same_thing thing t₃) (onto t₁)
      (or-or (is_it a (feeder t₂)) (same_thing thing t₂) (is_it a (feeder t₃)) (same_thing thing t₃) (onto t₂) (onto t₃)))

  any-onto : (cs : List Candidate) → any_reads a b (map (reader_by feeder) cs) ≡ true → any_onto thing b cs ≡ true
  any-onto [] h = h
  any-onto (c ∷ cs) h =
      or-or (eqb c.dest b && is_among a (reader_by feeder c)) (eqb c.dest b && is_onto thing c) (any_reads a b (map (reader_by feeder) cs)) (any_onto thing b cs)
      (and-and (eqb c.dest b) (is_among a (reader_by feeder c)) (is_onto thing c) (among-onto c)) (any-onto cs) h

module _ (w : Wiring) where
  -- the feeder of a thing is in use, its counted feed is onto the thing, and it is read with its own scope
  feeder-is : (t : Base) (a : ℕ) (v : Bool) → feeder_of w t ≡ by_dest a v → In a (in_use w) × ((same_thing (counted_feed w a) t ≡ true) × (v ≡ dest_voice w a))
  unfolding feeder_of used_dests in_use counted_feed
  feeder-is t a v h =
      elim (last-is (λ d. used_as w.sources (candidates w) d (dest_at w.dests d)) t None (in_use w) a v (λ d. refl) h) [
        | inl z ↦ absurd (let z : ◌≡◌ {A = ℕ} 0 1 = cc in omega arith)
        | inr k ↦ k
      ]

  -- and it is a control destination
  feeder-control : (t : Base) (a : ℕ) (v : Bool) → feeder_of w t ≡ by_dest a v → In a (controls w) × (v ≡ dest_voice w a)
  unfolding controls is_audio counted_feed
  feeder-control t a v h =
      let k = feeder-is t a v h in (
        keep-in (λ d. not (is_audio w d)) a (in_use w) k.0
            (ap not (fed-control (counted w.sources (dest_at w.dests a).feed) t (audio_rate (hears_audio w.sources (candidates w) a) (dest_at w.dests a).rate) k.1.0)),
        k.1.1,
      )

  -- ---- what a slot's route reads

  -- one of the four things of a candidate has the feeder
  record Fed (c : Candidate) (e : ℕ) (v : Bool) : Type 0 where
    thing : Base
    feeder : feeder_of w thing ≡ by_dest e v
    among : is_among e (reader_by (feeder_of w) c) ≡ true

  aux-from : (a : Option ℕ) (c : Candidate) (e : ℕ) (v : Bool)
      → AuxReads e v (aux_by w.config.sample_rate w.sources a (fed_from (feeder_of w (aux_thing a))) (slot_of w c).aux_curve) → feeder_of w (aux_thing a) ≡ by_dest e v
  unfolding input_by
  aux-from None c e v h = absurd h
  aux-from (Some i) c e v h = read-from (source_at w.sources i) i (feeder_of w (B.Held i)) e v h

  fed_by : (c : Candidate) (e : ℕ) (v : Bool) → Reads e v (slot_route w c) → Fed c e v
  unfolding slot_route route_by input_by
  fed_by c e v h = go h
    where
      go : Reads e v (slot_route w c) → Fed c e v
      go (inl p) =
          let k = read-from (source_at w.sources c.source) c.source (feeder_of w (B.Held c.source)) e v p in
          record { thing = B.Held c.source; feeder = k; among = rw (it-is e v (feeder_of w (B.Held c.source)) k) }
      go (inr (inl p)) =
          let k = aux-from c.aux c e v p in
          record { thing = aux_thing c.aux; feeder = k; among = rw (it-is e v (feeder_of w (aux_thing c.aux)) k) (simp or-end) }
      go (inr (inr (inl p))) =
          let k = gain-from (feeder_of w (B.Amount c.slot)) e v p in
          record { thing = B.Amount c.slot; feeder = k; among = rw (it-is e v (feeder_of w (B.Amount c.slot)) k) (simp or-end) }
      go (inr (inr (inr p))) =
          let k = gain-from (feeder_of w (B.Output c.slot)) e v p in
          record { thing = B.Output c.slot; feeder = k; among = rw (it-is e v (feeder_of w (B.Output c.slot)) k) (simp or-end) }

  -- A CONTROL DESTINATION IN USE, READ WITH ITS OWN SCOPE
  pub reads-from : (c : Candidate) (e : ℕ) (v : Bool) → Reads e v (slot_route w c) → In e (controls w) × (v ≡ dest_voice w e)
  reads-from c e v h = let k = fed_by c e v h in feeder-control k.thing e v k.feeder

  -- AND `reads` KNOWS IT
  pub reads-slot : (d j : ℕ) → j < length (slots_into w d) → (e : ℕ) (v : Bool) → Reads e v (slot_route w (slot_into w d j)) → reads w e d ≡ true
  unfolding reads readers_of slots_into slot_into
  reads-slot d j m e v h = into-reads (feeder_of w) e d (candidates w) j m (fed_by (slot_into w d j) e v h).among

  -- ---- what is read is counted

  -- EVERY FEED THAT IS READ IS COUNTED
  pub reads-counted : Counts (counted_into w) (reads w) (controls w)
  unfolding reads readers_of counted_into
  reads-counted a b ma mb h =
      any-onto (feeder_of w) (counted_feed w a) a b (λ t k. let x = is-it a (feeder_of w t) k in (feeder-is t a x.0 x.1).1.0) (candidates w) h

  -- WITHOUT A CHAIN OF COUNTED FEEDS WHAT IS READ STANDS FIRST
  pub read_first : Acyclic (counted_into w) (controls w) → (a b : ℕ) → In b (controls w) → a ≢ b → reads w a b ≡ true → index_of a (plan_order w) < index_of b (plan_order w)
  read_first none a b mb ne f =
      feeder-before w (λ c. none (chain-counted (reads w) (counted_into w) (controls w) reads-counted c)) a b (read-is-control w a b f) mb ne f

  -- A CHAIN OR NONE: which
  pub chain-or-none : Chain (counted_into w) (controls w) ⊎ Acyclic (counted_into w) (controls w)
  chain-or-none = elim (ordered-or-chain (counted_into w) (controls w)) [
    | inl t ↦ inr (ordered-means-acyclic (counted_into w) (controls w) t)
    | inr c ↦ inl c
  ]
