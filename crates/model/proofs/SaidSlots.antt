-- The slots that `said` sends to a destination are those that the compiler takes for it, in order. Assumes nothing.
use mathlib.Core.Path.{◌≡◌, refl, sym, ap, subst, ◌∙◌}
use mathlib.Core.Logic.{◌⊎◌, inl, inr}
use mathlib.Core.Bool.{Bool, true, false, not, cond, ◌&&◌, ◌||◌}
use mathlib.Core.List.{List, [], ◌∷◌}
use Prim.Native.Nat.{ℕ, zero, suc, ◌+◌, ◌<◌}
use native.Mathlib.Decide.{ℕ_discrete}
use native.Mathlib.Omega.{arith}
use borrow.Author.Tests.{eqb-true}
use lib.Dec.{eqb, ltb}
use lib.ListN.{length, get_or}
use Rattle.config.specs.Sizes.{slots}
use Rattle.list.proofs.Elements.{get_or-inside}
use Rattle.feed.proofs.Tests.{which}
use Rattle.slots.specs.Slots.{empty_slot}
use Rattle.std.specs.Prelude.{Option, None, Some}
use Rattle.state.specs.declared.Target.{Target}
use Rattle.state.specs.declared.Slot.{Slot}
use Rattle.state.specs.declared.Reason.TheVariants.{UnknownSource, UnknownAux, UnknownDestination}
use Rattle.state.specs.declared.Candidate.{Candidate}
use Rattle.state.specs.declared.Verdict.TheVariants.{LeftOut, Taken}
use Rattle.state.specs.declared.Wiring.{Wiring}
use Rattle.state.specs.Registry.{known_source, dest_count, dest_place}
use Rattle.model.specs.Wiring.{aux_known, aux_of, looked, verdict_by, verdict, verdicts_from, verdicts}
use Rattle.model.specs.Wiring.{with_candidate, taken_of, candidates}
use Rattle.model.specs.Feeds.{named}
use Rattle.model.specs.Routes.{no_slot}
use Rattle.model.specs.Rule.{candidates_into, slots_into, no_candidate, slot_into}
use Rattle.model.specs.Said.{any_below, slot_n, picks_known, picks_no_unknown, aims_at, sends, is_used}
use Rattle.model.proofs.SaidTerms.{pick_of, Stands}

-- ---- tests

and_none : (b : Bool) → b && false ≡ false
and_none true = refl
and_none false = refl

or_some : (b : Bool) → b || true ≡ true
or_some true = refl
or_some false = refl

or-none : (b : Bool) → b || false ≡ b
or-none true = refl
or-none false = refl

-- above 0
abbrev some : ℕ → Bool
some zero = false
some (suc n) = true

-- ---- how many of the first i pass

abbrev pub passing : (ℕ → Bool) → ℕ → ℕ
passing p zero = 0
passing p (suc i) = cond (p i) (suc (passing p i)) (passing p i)

-- the first, and those behind it
passing-later : (p : ℕ → Bool) (i : ℕ) → passing p (suc i) ≡ passing p 1 + passing (λ k. p (suc k)) i
passing-later p zero = omega arith
passing-later p (suc i) = go (which (p (suc i))) (passing-later p i)
  where
    go : (p (suc i) ≡ true) ⊎ (p (suc i) ≡ false) → passing p (suc i) ≡ passing p 1 + passing (λ k. p (suc k)) i
        → passing p (suc (suc i)) ≡ passing p 1 + passing (λ k. p (suc k)) (suc i)
    go (inl h) e = rw h (omega (arith, e))
    go (inr h) e = rw h e

-- one does where they are above 0
any-passing : (p : ℕ → Bool) (i : ℕ) → any_below p i ≡ some (passing p i)
any-passing p zero = refl
any-passing p (suc i) = go (which (p i)) (any-passing p i)
  where
    go : (p i ≡ true) ⊎ (p i ≡ false) → any_below p i ≡ some (passing p i)
        → any_below p (suc i) ≡ some (passing p (suc i))
    go (inl h) e = rw h (or_some (any_below p i))
    go (inr h) e = rw h (or-none (any_below p i) ∙ e)

-- one that passes has fewer before it than there are
passing-less : (p : ℕ → Bool) (n k : ℕ) → n < k → p n ≡ true → passing p n < passing p k
passing-less p n zero h t = absurd (omega arith)
passing-less p n (suc k) h t = elim (ℕ_discrete n k) [
  | yes e ↦ let b : p k ≡ true = subst (λ (i : ℕ). p i ≡ true) e t in rw (b, e) (omega arith)
  | no ne ↦ go (which (p k)) (passing-less p n k (omega (arith, ne)) t)
]
  where
    go : (p k ≡ true) ⊎ (p k ≡ false) → passing p n < passing p k → passing p n < passing p (suc k)
    go (inl b) e = rw b (omega arith)
    go (inr b) e = rw b e

-- and the j-th is one of them
pub record Passes (p : ℕ → Bool) (j k : ℕ) : Type 0 where
  pub number : ℕ
  pub below : number < k
  pub passes : p number ≡ true
  pub place : passing p number ≡ j

passing-back : (p : ℕ → Bool) (j k : ℕ) → j < passing p k → Passes p j k
passing-back p j zero h = absurd (omega arith)
passing-back p j (suc k) h = go (which (p k)) (λ z. passing-back p j k z)
  where
    later : Passes p j k → Passes p j (suc k)
    later q =
        record { number = q.number; below = omega (arith, q.below); passes = q.passes; place = q.place }

    go : (p k ≡ true) ⊎ (p k ≡ false) → (j < passing p k → Passes p j k) → Passes p j (suc k)
    go (inl b) before = elim (ℕ_discrete (passing p k) j) [
      | yes e ↦ record { number = k; below = omega arith; passes = b; place = e }
      | no ne ↦ let z : j < suc (passing p k) = rw b at h in later (before (omega (arith, z, ne)))
    ]
    go (inr b) before = let z : j < passing p k = rw b at h in later (before z)

-- ---- a slot's candidate

abbrev source_of : Option ℕ → ℕ
source_of None = 0
source_of (Some i) = i

-- of slot n, into destination d
abbrev candidate_of : ℕ → ℕ → Slot → Candidate
candidate_of d n s = record { slot = n; source = source_of s.source; aux = aux_of s.aux; dest = d }

aux-again : (a : Option ℕ) → a ≡ pick_of (aux_of a)
aux-again None = refl
aux-again (Some i) = refl

named-into : (d : ℕ) (cs : List Candidate) → named cs d ≡ some (length (candidates_into d cs))
named-into d [] = refl
named-into d (c ∷ cs) = go (which (eqb c.dest d)) (named-into d cs)
  where
    go : (eqb c.dest d ≡ true) ⊎ (eqb c.dest d ≡ false) → named cs d ≡ some (length (candidates_into d cs))
        → named (c ∷ cs) d ≡ some (length (candidates_into d (c ∷ cs)))
    go (inl h) e = rw h
    go (inr h) e = rw h e

module _ (w : Wiring) (d : ℕ) where
  abbrev sends_by : Bool → Option ℕ → Option ℕ → Option Target → Bool
  sends_by bypass aux source aim =
      picks_known w source && (aims_at w aim d && (not bypass && picks_no_unknown w aux))

  abbrev sends_as : Slot → Bool
  sends_as s = sends_by s.bypass s.aux s.source s.destination

  -- ---- what the compiler takes of one slot

  aux-known : (a : Option ℕ) → aux_known w.sources a ≡ picks_no_unknown w a
  aux-known None = refl
  aux-known (Some i) = refl

  looked-into : (n i : ℕ) (aux : Option ℕ) (p : ℕ) (cs : List Candidate)
      → candidates_into d (with_candidate (looked w.sources w.dests n i aux p) cs)
      ≡ cond (known_source w.sources i && ((eqb p d && ltb d (dest_count w.dests)) && picks_no_unknown w aux))
      (record { slot = n; source = i; aux = aux_of aux; dest = d } ∷ candidates_into d cs)
      (candidates_into d cs)
  looked-into n i aux p cs =
      rw (← aux-known aux)
      (go (known_source w.sources i) (aux_known w.sources aux) (ltb p (dest_count w.dests)) refl
      (which (eqb p d)))
    where
      taken : ℕ → Candidate
      taken q = record { slot = n; source = i; aux = aux_of aux; dest = q }

      go : (known other below : Bool) → ltb p (dest_count w.dests) ≡ below → (eqb p d ≡ true) ⊎ (eqb p d ≡ false)
          → candidates_into d (with_candidate (cond (not known) (LeftOut UnknownSource)
          (cond (not other) (LeftOut UnknownAux) (cond below (Taken (taken p)) (LeftOut UnknownDestination)))) cs)
          ≡ cond (known && ((eqb p d && ltb d (dest_count w.dests)) && other)) (taken d ∷ candidates_into d cs)
          (candidates_into d cs)
      go false other below e s = refl
      go true false below e s = rw (and_none (eqb p d && ltb d (dest_count w.dests)))
      go true true true e (inr s) = rw s
      go true true false e (inr s) = rw s
      go true true true e (inl s) =
          let q : p ≡ d = eqb-true p d s in let b : ltb d (dest_count w.dests) ≡ true = rw q at e in rw (s, b, q)
      go true true false e (inl s) =
          let q : p ≡ d = eqb-true p d s in let b : ltb d (dest_count w.dests) ≡ false = rw q at e in rw (s, b)

  by-into : (n : ℕ) (bypass : Bool) (aux source : Option ℕ) (aim : Option Target) (cs : List Candidate)
      → candidates_into d (with_candidate (verdict_by w.sources w.dests n bypass aux source aim) cs)
      ≡ cond (sends_by bypass aux source aim)
      (record { slot = n; source = source_of source; aux = aux_of aux; dest = d } ∷ candidates_into d cs)
      (candidates_into d cs)
  by-into n b aux None aim cs = refl
  by-into n b aux (Some i) None cs = rw (and_none (known_source w.sources i))
  by-into n true aux (Some i) (Some t) cs =
      rw (and_none (aims_at w (Some t) d), and_none (known_source w.sources i))
  by-into n false aux (Some i) (Some t) cs = looked-into n i aux (dest_place w.dests t) cs

  -- A SLOT IS TAKEN FOR THE DESTINATION WHERE IT SENDS TO IT
  verdict-into : (n : ℕ) (s : Slot) (cs : List Candidate)
      → candidates_into d (with_candidate (verdict w.sources w.dests n s) cs)
      ≡ cond (sends_as s) (candidate_of d n s ∷ candidates_into d cs) (candidates_into d cs)
  unfolding verdict
  verdict-into n s cs = by-into n s.bypass s.aux s.source s.destination cs

  sends-source : (s : Slot) → sends_as s ≡ true → s.source ≡ Some (source_of s.source)
  sends-source s h = go s.source h
    where
      go : (p : Option ℕ) → sends_by s.bypass s.aux p s.destination ≡ true → p ≡ Some (source_of p)
      go None e = cc
      go (Some i) e = refl

  -- ---- of the slots from number k on

  abbrev into_from : ℕ → List Slot → List Candidate
  into_from k l = candidates_into d (taken_of (verdicts_from w.sources w.dests k l))

  abbrev passes : List Slot → ℕ → Bool
  passes l i = sends_as (get_or l i empty_slot)

  into_one : (k : ℕ) (s : Slot) (l : List Slot)
      → into_from k (s ∷ l) ≡ cond (sends_as s) (candidate_of d k s ∷ into_from (suc k) l) (into_from (suc k) l)
  unfolding verdicts_from
  into_one k s l = verdict-into k s (taken_of (verdicts_from w.sources w.dests (suc k) l))

  into-length : (k : ℕ) (l : List Slot) → length (into_from k l) ≡ passing (passes l) (length l)
  unfolding verdicts_from
  into-length k [] = refl
  into-length k (s ∷ l) =
      ap length (into_one k s l) ∙ go (which (sends_as s)) (into-length (suc k) l)
      ∙ sym (passing-later (passes (s ∷ l)) (length l))
    where
      go : (sends_as s ≡ true) ⊎ (sends_as s ≡ false) → length (into_from (suc k) l) ≡ passing (passes l) (length l)
          → length (cond (sends_as s) (candidate_of d k s ∷ into_from (suc k) l) (into_from (suc k) l))
          ≡ cond (sends_as s) 1 0 + passing (passes l) (length l)
      go (inl h) e = rw h (omega (arith, e))
      go (inr h) e = rw h (omega (arith, e))

  into-at : (k : ℕ) (l : List Slot) (i : ℕ) (z : Candidate) → i < length l → passes l i ≡ true
      → get_or (into_from k l) (passing (passes l) i) z ≡ candidate_of d (k + i) (get_or l i empty_slot)
  into-at k [] i z h t = absurd (omega arith)
  into-at k (s ∷ l) zero z h t =
      let e : k ≡ k + 0 = omega arith in
      ap (λ (cs : List Candidate). get_or cs 0 z) (into_one k s l) ∙ rw t (ap (λ (m : ℕ). candidate_of d m s) e)
  into-at k (s ∷ l) (suc i) z h t =
      let e : suc k + i ≡ k + suc i = omega arith in
      ap (λ (m : ℕ). get_or (into_from k (s ∷ l)) m z) (passing-later (passes (s ∷ l)) i)
      ∙ ap (λ (cs : List Candidate). get_or cs (cond (sends_as s) 1 0 + passing (passes l) i) z) (into_one k s l)
      ∙ go (which (sends_as s))
      ∙ into-at (suc k) l i z (omega arith) t
      ∙ ap (λ (m : ℕ). candidate_of d m (get_or l i empty_slot)) e
    where
      go : (sends_as s ≡ true) ⊎ (sends_as s ≡ false)
          → get_or (cond (sends_as s) (candidate_of d k s ∷ into_from (suc k) l) (into_from (suc k) l))
          (cond (sends_as s) 1 0 + passing (passes l) i) z
          ≡ get_or (into_from (suc k) l) (passing (passes l) i) z
      go (inl b) =
          let e : 1 + passing (passes l) i ≡ suc (passing (passes l) i) = omega arith in rw (b, e)
      go (inr b) =
          let e : 0 + passing (passes l) i ≡ passing (passes l) i = omega arith in rw (b, e)

  -- ---- of the matrix

  -- how many of the first n slots send to it
  abbrev pub sent : ℕ → ℕ
  sent n = passing (λ k. sends w k d) n

  module _ (slotted : length w.matrix.slot ≡ slots) where
    pub sent-all : sent slots ≡ length (slots_into w d)
    unfolding sends slots_into candidates verdicts
    sent-all = ap (passing (passes w.matrix.slot)) (sym slotted) ∙ sym (into-length 0 w.matrix.slot)

    -- each of them sends
    pub sent-back : (i : ℕ) → i < length (slots_into w d) → Passes (λ n. sends w n d) i slots
    sent-back i h = passing-back (λ n. sends w n d) i slots (subst (λ (z : ℕ). i < z) (sym sent-all) h)

    -- A DESTINATION IN USE
    pub used-same : is_used w d ≡ named (candidates w) d
    unfolding is_used slots_into
    used-same =
        any-passing (λ n. sends w n d) slots ∙ ap some sent-all ∙ sym (named-into d (candidates w))

    module _ (n : ℕ) (h : n < slots) (t : sends w n d ≡ true) where
      -- A SLOT THAT SENDS TO IT STANDS BEHIND THOSE BEFORE IT
      sent-at : slot_into w d (sent n) ≡ candidate_of d n (slot_n w n)
      unfolding sends slot_into slots_into candidates verdicts
      sent-at =
          let e : 0 + n ≡ n = omega arith in
          into-at 0 w.matrix.slot n no_candidate (omega (arith, slotted)) t
          ∙ ap (λ (m : ℕ). candidate_of d m (slot_n w n)) e

      pub sent-in : sent n < length (slots_into w d)
      sent-in = subst (λ (z : ℕ). sent n < z) sent-all (passing-less (λ k. sends w k d) n slots h t)

      pub sent-slot : (slot_into w d (sent n)).slot ≡ n
      sent-slot = ap (λ (c : Candidate). c.slot) sent-at

      pub sent-dest : (slot_into w d (sent n)).dest ≡ d
      sent-dest = ap (λ (c : Candidate). c.dest) sent-at

      -- and is as its candidate says
      pub sent-stands : Stands w (slot_into w d (sent n))
      unfolding sends
      sent-stands =
          subst (λ (c : Candidate). Stands w c) (sym sent-at)
          (record {
            slot = get_or-inside w.matrix.slot n empty_slot no_slot (omega (arith, slotted));
            source = sends-source (slot_n w n) t;
            aux = aux-again (slot_n w n).aux;
          })
