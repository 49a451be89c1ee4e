-- THE ORDER OF THE PLANS: each destination in use stands in it once and nothing else does; control destinations are taken one by one as document 01 asks;
-- where no chain of read feeds returns, what a route reads stands before the route's destination, and the test of the order tells exactly that.
-- Assumes nothing.
use mathlib.Core.Path.{◌≡◌, refl, ap, ◌∙◌}
use mathlib.Core.Logic.{◌≢◌, ◌⊎◌, inl, inr, ◌↔◌}
use mathlib.Core.Bool.{Bool, true, false, cond, not, ◌&&◌, ◌||◌}
use mathlib.Core.List.{List, [], ◌∷◌, ◌++◌, map}
use Prim.Native.Nat.{ℕ, ◌+◌, ◌≤◌, ◌<◌}
use native.Mathlib.Omega.{arith}
use native.Mathlib.Decide.{ℕ_discrete}
use lib.Dec.{eqb}
use lib.ListN.{length, length-append}
use borrow.Author.Tests.{eqb-true, eq-eqb, ne_eqb}
use Rattle.feed.specs.Numbers.{count, In, Distinct, Ascending, index_of, keep}
use Rattle.feed.specs.Order.{order, ordered}
use Rattle.feed.specs.Taken.{Placing}
use Rattle.feed.specs.Chain.{Acyclic}
use Rattle.feed.proofs.Tests.{which, or-true-cases, and_true_r}
use Rattle.feed.proofs.Count.{hit_same, hit_other, in-or-not, ascending-distinct}
use Rattle.feed.proofs.Index.{index-other, at-index}
use Rattle.feed.proofs.Keep.{count-keep, keep-in, keep-ascending}
use Rattle.feed.proofs.Placed.{order-count, order-length, order-placing, placing-order}
use Rattle.feed.proofs.Acyclic.{ordered-exactly, feeder-first}
use Rattle.state.specs.declared.Base.{Base}
use Rattle.state.specs.declared.Base.TheVariants as B
use Rattle.state.specs.declared.Candidate.{Candidate}
use Rattle.std.specs.Prelude.{Option, None}
use Rattle.state.specs.Fed.{by_dest}
use Rattle.state.specs.declared.FedBy.{FedBy}
use Rattle.state.specs.declared.Used.{Used}
use Rattle.state.specs.declared.Wiring.{Wiring}
use Rattle.state.specs.Registry.{dest_at}
use Rattle.model.specs.Wiring.{candidates}
use Rattle.model.specs.Feeds.{in_use, counted, hears_audio, audio_rate, same_thing, unless_fed, is_audio, used_as, used_dests, last_feeder, feeder_of, aux_thing, reader_by, readers_of, is_it, is_among, any_reads, reads, controls, audios, plan_order}
use Rattle.model.proofs.InUse.{in-use-ascending, in-use-distinct}

-- ---- one list behind another

pub count-append : (a : ℕ) (xs ys : List ℕ) → count a (xs ++ ys) ≡ count a xs + count a ys
count-append a [] ys = omega arith
count-append a (x ∷ xs) ys = omega (arith, count-append a xs ys)

index-front : (a : ℕ) (xs ys : List ℕ) → In a xs → index_of a (xs ++ ys) ≡ index_of a xs
index-front a [] ys h = absurd (omega arith)
index-front a (x ∷ xs) ys h = go (ℕ_discrete a x) (index-front a xs ys)
  where
    go : Dec (a ≡ x) → (In a xs → index_of a (xs ++ ys) ≡ index_of a xs) → index_of a (x ∷ (xs ++ ys)) ≡ index_of a (x ∷ xs)
    go (yes e) ih = rw (eq-eqb a x e)
    go (no ne) ih = rw (ne_eqb a x ne, ih (omega (arith, hit_other a x ne)))

-- what does not stand in the first list
index_back : (a : ℕ) (xs ys : List ℕ) → count a xs ≡ 0 → length xs ≤ index_of a (xs ++ ys)
index_back a [] ys h = omega arith
index_back a (x ∷ xs) ys h = go (ℕ_discrete a x) (index_back a xs ys (omega arith))
  where
    go : Dec (a ≡ x) → length xs ≤ index_of a (xs ++ ys) → length (x ∷ xs) ≤ index_of a (x ∷ (xs ++ ys))
    go (yes e) ih = absurd (omega (arith, hit_same x, rw e at h))
    go (no ne) ih = omega (arith, index-other a x (xs ++ ys) ne)

-- those that pass a test, and those that do not
keep-lengths : (p : ℕ → Bool) (l : List ℕ) → length (keep (λ d. not (p d)) l) + length (keep p l) ≡ length l
keep-lengths p [] = refl
keep-lengths p (x ∷ l) = go (which (p x)) (keep-lengths p l)
  where
    go : (p x ≡ true) ⊎ (p x ≡ false) → length (keep (λ d. not (p d)) l) + length (keep p l) ≡ length l
        → length (keep (λ d. not (p d)) (x ∷ l)) + length (keep p (x ∷ l)) ≡ length (x ∷ l)
    go (inl t) ih = rw t (omega arith)
    go (inr t) ih = rw t (omega arith)

-- ---- who is read

-- one of the list that feeds the thing, or the one found before
last-from : (g : ℕ → Used) (t : Base) (found : Option FedBy) (l : List ℕ) (a : ℕ) → ((d : ℕ) → (g d).dest ≡ d) → is_it a (last_feeder t found (map g l)) ≡ true
    → (is_it a found ≡ true) ⊎ (In a l × (same_thing (g a).feed t ≡ true))
last-from g t found [] a named h = inl h
last-from g t found (d ∷ l) a named h = go (which (same_thing (g d).feed t)) (last-from g t (cond (same_thing (g d).feed t) (by_dest (g d).dest (g d).voice) found) l a named h)
  where
    go : (same_thing (g d).feed t ≡ true) ⊎ (same_thing (g d).feed t ≡ false)
        → (is_it a (cond (same_thing (g d).feed t) (by_dest (g d).dest (g d).voice) found) ≡ true) ⊎ (In a l × (same_thing (g a).feed t ≡ true))
        → (is_it a found ≡ true) ⊎ (In a (d ∷ l) × (same_thing (g a).feed t ≡ true))
    go s (inr k) = inr (omega (arith, k.0), k.1)
    go (inr s) (inl k) = inl (rw s at k)
    go (inl s) (inl k) =
        let e : a ≡ d = eqb-true a (g d).dest (rw s at k) ∙ named d in
        inr (rw e (omega (arith, hit_same d)), rw e s)

-- a counted feed makes a destination control
pub fed-control : (b t : Base) (audio : Bool) → same_thing b t ≡ true → unless_fed b audio ≡ false
fed-control B.Set B.Set audio h = cc
fed-control B.Set (B.Held j) audio h = cc
fed-control B.Set (B.Amount j) audio h = cc
fed-control B.Set (B.Output j) audio h = cc
fed-control (B.Held i) t audio h = refl
fed-control (B.Amount i) t audio h = refl
fed-control (B.Output i) t audio h = refl

-- who is read by a route feeds one of its things
pub record Feeds (feeder : Base → Option FedBy) (a : ℕ) : Type 0 where
  pub onto : Base
  pub read : is_it a (feeder onto) ≡ true

among-from : (feeder : Base → Option FedBy) (a : ℕ) (c : Candidate) → is_among a (reader_by feeder c) ≡ true → Feeds feeder a
among-from feeder a c h =
    go (or-true-cases (is_it a (feeder (B.Held c.source))) (is_it a (feeder (aux_thing c.aux)) || (is_it a (feeder (B.Amount c.slot)) || is_it a (feeder (B.Output c.slot)))) h)
  where
    last : (is_it a (feeder (B.Amount c.slot)) ≡ true) ⊎ (is_it a (feeder (B.Output c.slot)) ≡ true) → Feeds feeder a
    last (inl t) = record { onto = B.Amount c.slot; read = t }
    last (inr t) = record { onto = B.Output c.slot; read = t }

    later : (is_it a (feeder (aux_thing c.aux)) ≡ true) ⊎ (is_it a (feeder (B.Amount c.slot)) || is_it a (feeder (B.Output c.slot)) ≡ true) → Feeds feeder a
    later (inl t) = record { onto = aux_thing c.aux; read = t }
    later (inr t) = last (or-true-cases (is_it a (feeder (B.Amount c.slot))) (is_it a (feeder (B.Output c.slot))) t)

    go : (is_it a (feeder (B.Held c.source)) ≡ true)
        ⊎ (is_it a (feeder (aux_thing c.aux)) || (is_it a (feeder (B.Amount c.slot)) || is_it a (feeder (B.Output c.slot))) ≡ true) → Feeds feeder a
    go (inl t) = record { onto = B.Held c.source; read = t }
    go (inr t) = later (or-true-cases (is_it a (feeder (aux_thing c.aux))) (is_it a (feeder (B.Amount c.slot)) || is_it a (feeder (B.Output c.slot))) t)

any-from : (feeder : Base → Option FedBy) (a b : ℕ) (cs : List Candidate) → any_reads a b (map (reader_by feeder) cs) ≡ true → Feeds feeder a
any-from feeder a b [] h = absurd (let z : ◌≡◌ {A = ℕ} 0 1 = cc in omega arith)
any-from feeder a b (c ∷ cs) h =
    go (or-true-cases (eqb c.dest b && is_among a (reader_by feeder c)) (any_reads a b (map (reader_by feeder) cs)) h) (any-from feeder a b cs)
  where
    go : (eqb c.dest b && is_among a (reader_by feeder c) ≡ true) ⊎ (any_reads a b (map (reader_by feeder) cs) ≡ true)
        → (any_reads a b (map (reader_by feeder) cs) ≡ true → Feeds feeder a) → Feeds feeder a
    go (inl t) ih = among-from feeder a c (and_true_r (eqb c.dest b) (is_among a (reader_by feeder c)) t)
    go (inr t) ih = ih t

module _ (w : Wiring) where
  -- ---- control and audio

  pub controls-ascending : Ascending (controls w)
  unfolding controls
  controls-ascending = keep-ascending (λ d. not (is_audio w d)) (in_use w) (in-use-ascending w)

  pub controls-distinct : Distinct (controls w)
  controls-distinct = ascending-distinct (controls w) controls-ascending

  pub audios-ascending : Ascending (audios w)
  unfolding audios
  audios-ascending = keep-ascending (is_audio w) (in_use w) (in-use-ascending w)

  -- a destination in use is one or the other
  pub rates-count : (d : ℕ) → count d (controls w) + count d (audios w) ≡ count d (in_use w)
  unfolding controls audios
  rates-count d = go (which (is_audio w d)) (count-keep (λ x. not (is_audio w x)) d (in_use w)) (count-keep (is_audio w) d (in_use w))
    where
      go : (is_audio w d ≡ true) ⊎ (is_audio w d ≡ false) → count d (controls w) ≡ cond (not (is_audio w d)) (count d (in_use w)) 0
          → count d (audios w) ≡ cond (is_audio w d) (count d (in_use w)) 0 → count d (controls w) + count d (audios w) ≡ count d (in_use w)
      go (inl t) c u = omega (arith, rw t at c, rw t at u)
      go (inr t) c u = omega (arith, rw t at c, rw t at u)

  -- ---- what stands in the order

  -- EACH DESTINATION IN USE AS OFTEN AS IT IS IN USE, and nothing else
  pub plan-order-count : (d : ℕ) → count d (plan_order w) ≡ count d (in_use w)
  unfolding plan_order
  plan-order-count d =
      omega (arith, count-append d (order (reads w) (controls w)) (audios w), order-count (reads w) (controls w) d, rates-count d)

  pub plan-order-in : (d : ℕ) → In d (plan_order w) ↔ In d (in_use w)
  plan-order-in d = (λ h. omega (arith, plan-order-count d), λ h. omega (arith, plan-order-count d))

  -- EACH ONCE
  pub plan-order-distinct : Distinct (plan_order w)
  plan-order-distinct d = omega (arith, plan-order-count d, in-use-distinct w d)

  pub plan-order-once : (d : ℕ) → In d (in_use w) → count d (plan_order w) ≡ 1
  plan-order-once d h = omega (arith, plan-order-count d, in-use-distinct w d)

  pub plan-order-length : length (plan_order w) ≡ length (in_use w)
  unfolding plan_order controls audios
  plan-order-length =
      simp length-append (omega (arith, order-length (reads w) (controls w), keep-lengths (is_audio w) (in_use w)))

  -- ---- how control destinations are taken

  -- THE LOWEST FREE ONE, OR THE LOWEST LEFT WHERE NONE IS FREE, step by step
  pub controls-placing : Placing (reads w) (controls w) (order (reads w) (controls w))
  controls-placing = order-placing (reads w) (controls w) controls-ascending

  -- and no other order is so taken
  pub controls-only : (os : List ℕ) → Placing (reads w) (controls w) os → os ++ audios w ≡ plan_order w
  unfolding plan_order
  controls-only os p = ap (λ (l : List ℕ). l ++ audios w) (placing-order (reads w) controls-ascending p)

  -- ---- what is read stands before what reads it

  -- THE TEST OF THE ORDER
  pub plan-order-tested : (ordered (reads w) (order (reads w) (controls w)) ≡ true) ↔ Acyclic (reads w) (controls w)
  plan-order-tested = ordered-exactly (reads w) (controls w)

  -- what is read is a control destination
  pub read-is-control : (a b : ℕ) → reads w a b ≡ true → In a (controls w)
  unfolding controls is_audio reads readers_of feeder_of used_dests in_use
  read-is-control a b h =
      let r = any-from (feeder_of w) a b (candidates w) h in
      go r.onto (last-from (λ d. used_as w.sources (candidates w) d (dest_at w.dests d)) r.onto None (in_use w) a (λ d. refl) r.read)
    where
      go : (t : Base) → (is_it a None ≡ true) ⊎ (In a (in_use w) × (same_thing (counted w.sources (dest_at w.dests a).feed) t ≡ true)) → In a (controls w)
      go t (inl z) = absurd (let z : ◌≡◌ {A = ℕ} 0 1 = cc in omega arith)
      go t (inr k) =
          keep-in (λ d. not (is_audio w d)) a (in_use w) k.0
          (ap not (fed-control (counted w.sources (dest_at w.dests a).feed) t (audio_rate (hears_audio w.sources (candidates w) a) (dest_at w.dests a).rate) k.1))

  -- among control destinations, where no chain of read feeds returns
  pub feeder-before : Acyclic (reads w) (controls w) → (a b : ℕ) → In a (controls w) → In b (controls w) → a ≢ b → reads w a b ≡ true
      → index_of a (plan_order w) < index_of b (plan_order w)
  unfolding plan_order
  feeder-before none a b ma mb ne f =
      let os = order (reads w) (controls w) in
      omega (
        arith,
        feeder-first (reads w) (controls w) none a b ma mb ne f,
        index-front a os (audios w) (omega (arith, order-count (reads w) (controls w) a)),
        index-front b os (audios w) (omega (arith, order-count (reads w) (controls w) b)),
      )

  -- a control destination stands before an audio one
  pub control-before-audio : (a b : ℕ) → In a (controls w) → In b (audios w) → index_of a (plan_order w) < index_of b (plan_order w)
  unfolding plan_order
  control-before-audio a b ma mb =
      let os = order (reads w) (controls w) in
      let ia : In a os = omega (arith, order-count (reads w) (controls w) a) in
      omega (
        arith,
        (at-index a os ia).1,
        index-front a os (audios w) ia,
        index_back b os (audios w) (omega (arith, order-count (reads w) (controls w) b, rates-count b, in-use-distinct w b)),
      )

  -- WHAT A ROUTE READS STANDS BEFORE ITS DESTINATION, whatever the two's rates
  pub read-before : Acyclic (reads w) (controls w) → (a b : ℕ) → In b (in_use w) → a ≢ b → reads w a b ≡ true → index_of a (plan_order w) < index_of b (plan_order w)
  read-before none a b mb ne f = elim (in-or-not b (controls w)) [
    | inl k ↦ feeder-before none a b (read-is-control a b f) k ne f
    | inr z ↦ control-before-audio a b (read-is-control a b f) (omega (arith, rates-count b))
  ]
