-- How many verdicts, candidates and slots left out there are, and what is known of a candidate: its destination is registered, its source and its aux
-- are, and its slot is one of those judged. Assumes nothing.
use mathlib.Core.Path.{◌≡◌, refl, ap, ◌∙◌}
use mathlib.Core.Bool.{Bool, true, false, cond, not}
use mathlib.Core.List.{List, [], ◌∷◌, ◌++◌}
use Prim.Native.Nat.{ℕ, zero, suc, ◌+◌, ◌≤◌, ◌<◌}
use native.Mathlib.Decide.{ℕ_discrete}
use native.Mathlib.Numerals.{unary_clauses}
use native.Mathlib.Omega.{arith}
use borrow.Author.Tests.{ltb-true, ne_eqb}
use lib.Dec.{ltb}
use lib.ListN.{length, get_or}
use Rattle.config.specs.Sizes.{slots}
use Rattle.state.specs.declared.Sources.{Sources}
use Rattle.state.specs.declared.Destinations.{Destinations}
use Rattle.std.specs.Prelude.{Option, None, Some}
use Rattle.state.specs.declared.Target.{Target}
use Rattle.state.specs.declared.Slot.{Slot}
use Rattle.state.specs.declared.Reason.TheVariants.{UnknownSource, UnknownAux, UnknownDestination}
use Rattle.state.specs.declared.Skipped.{Skipped}
use Rattle.state.specs.declared.Wiring.{Wiring}
use Rattle.state.specs.declared.Candidate.{Candidate}
use Rattle.state.specs.declared.Verdict.{Verdict}
use Rattle.state.specs.declared.Verdict.TheVariants.{Over, LeftOut, Taken}
use Rattle.state.specs.Registry.{known_source, dest_count, dest_place}
use Rattle.model.specs.Wiring.{aux_known, aux_of, looked, verdict_by, verdict, verdicts_from, verdicts, with_candidate, taken_of, with_skipped, left_out_from, candidates, skipped_of}
use Rattle.model.specs.Feeds.{named}

-- ---- how many

pub verdicts-length : (ss : Sources) (ds : Destinations) (n : ℕ) (l : List Slot) → length (verdicts_from ss ds n l) ≡ length l
unfolding verdicts_from
verdicts-length ss ds n [] = refl
verdicts-length ss ds n (s ∷ l) = ap suc (verdicts-length ss ds (suc n) l)

pub taken-length : (vs : List Verdict) → length (taken_of vs) ≤ length vs
taken-length [] = omega arith
taken-length (Over ∷ vs) = omega (arith, taken-length vs)
taken-length (LeftOut r ∷ vs) = omega (arith, taken-length vs)
taken-length (Taken c ∷ vs) = omega (arith, taken-length vs)

pub left_out-length : (n : ℕ) (vs : List Verdict) → length (left_out_from n vs) ≤ length vs
left_out-length n [] = omega arith
left_out-length n (Over ∷ vs) = omega (arith, left_out-length (suc n) vs)
left_out-length n (LeftOut r ∷ vs) = omega (arith, left_out-length (suc n) vs)
left_out-length n (Taken c ∷ vs) = omega (arith, left_out-length (suc n) vs)

-- a slot is a candidate or left out, and not both
pub taken-or-left_out : (n : ℕ) (vs : List Verdict) → length (taken_of vs) + length (left_out_from n vs) ≤ length vs
taken-or-left_out n [] = omega arith
taken-or-left_out n (Over ∷ vs) = omega (arith, taken-or-left_out (suc n) vs)
taken-or-left_out n (LeftOut r ∷ vs) = omega (arith, taken-or-left_out (suc n) vs)
taken-or-left_out n (Taken c ∷ vs) = omega (arith, taken-or-left_out (suc n) vs)

-- ---- of two lists, one behind the other

pub verdicts-append : (ss : Sources) (ds : Destinations) (n : ℕ) (l m : List Slot) → verdicts_from ss ds n (l ++ m) ≡ verdicts_from ss ds n l ++ verdicts_from ss ds (n + length l) m
unfolding verdicts_from
verdicts-append ss ds n [] m = simp unary_clauses
verdicts-append ss ds n (s ∷ l) m =
    let e : suc n + length l ≡ n + suc (length l) = omega arith in
    ap (λ (vs : List Verdict). verdict ss ds n s ∷ vs)
    (verdicts-append ss ds (suc n) l m ∙ ap (λ (k : ℕ). verdicts_from ss ds (suc n) l ++ verdicts_from ss ds k m) e)

pub taken-append : (vs ws : List Verdict) → taken_of (vs ++ ws) ≡ taken_of vs ++ taken_of ws
taken-append [] ws = refl
taken-append (Over ∷ vs) ws = taken-append vs ws
taken-append (LeftOut r ∷ vs) ws = taken-append vs ws
taken-append (Taken c ∷ vs) ws = ap (λ (l : List Candidate). c ∷ l) (taken-append vs ws)

pub left_out-append : (n : ℕ) (vs ws : List Verdict) → left_out_from n (vs ++ ws) ≡ left_out_from n vs ++ left_out_from (n + length vs) ws
left_out-append n [] ws = simp unary_clauses
left_out-append n (v ∷ vs) ws = go v (left_out-append (suc n) vs ws ∙ ap (λ (k : ℕ). left_out_from (suc n) vs ++ left_out_from k ws) e)
  where
    e : suc n + length vs ≡ n + suc (length vs)
    e = omega arith

    later : List Skipped
    later = left_out_from (n + suc (length vs)) ws

    go : (v : Verdict) → left_out_from (suc n) (vs ++ ws) ≡ left_out_from (suc n) vs ++ later
        → with_skipped n v (left_out_from (suc n) (vs ++ ws)) ≡ with_skipped n v (left_out_from (suc n) vs) ++ later
    go Over p = p
    go (LeftOut r) p = ap (λ (l : List Skipped). record { slot = n; reason = r } ∷ l) p
    go (Taken c) p = p

-- ---- what is known of a candidate

abbrev pub AuxIn : Sources → Option ℕ → Type 0
AuxIn ss None = Unit {0}
AuxIn ss (Some i) = known_source ss i ≡ true

-- of a slot from n on and before m
pub record Known (ss : Sources) (ds : Destinations) (n m : ℕ) (c : Candidate) : Type 0 where
  pub dest : c.dest < dest_count ds
  pub source : known_source ss c.source ≡ true
  pub aux : AuxIn ss c.aux
  pub from : n ≤ c.slot
  pub below : c.slot < m

module _ (ss : Sources) (ds : Destinations) where
  abbrev KnownIn : ℕ → ℕ → Verdict → Type 0
  KnownIn n m Over = Unit {0}
  KnownIn n m (LeftOut r) = Unit {0}
  KnownIn n m (Taken c) = Known ss ds n m c

  aux-in : (aux : Option ℕ) → aux_known ss aux ≡ true → AuxIn ss (aux_of aux)
  aux-in None h = tt
  aux-in (Some i) h = h

  looked-known : (n m i : ℕ) (aux : Option ℕ) (d : ℕ) → n < m → KnownIn n m (looked ss ds n i aux d)
  looked-known n m i aux d h = go (known_source ss i) (aux_known ss aux) (ltb d (dest_count ds)) refl refl refl
    where
      go : (s a t : Bool) → known_source ss i ≡ s → aux_known ss aux ≡ a → ltb d (dest_count ds) ≡ t
          → KnownIn n m (cond (not s) (LeftOut UnknownSource) (cond (not a) (LeftOut UnknownAux) (cond t (Taken (record { slot = n; source = i; aux = aux_of aux; dest = d })) (LeftOut UnknownDestination))))
      go false a t p q r = tt
      go true false t p q r = tt
      go true true false p q r = tt
      go true true true p q r = record { dest = ltb-true d (dest_count ds) r; source = p; aux = aux-in aux q; from = omega arith; below = h }

  by-known : (n m : ℕ) (bypass : Bool) (aux s : Option ℕ) (a : Option Target) → n < m → KnownIn n m (verdict_by ss ds n bypass aux s a)
  by-known n m b aux None a h = tt
  by-known n m b aux (Some i) None h = tt
  by-known n m true aux (Some i) (Some t) h = tt
  by-known n m false aux (Some i) (Some t) h = looked-known n m i aux (dest_place ds t) h

  verdict-known : (n m : ℕ) (s : Slot) → n < m → KnownIn n m (verdict ss ds n s)
  unfolding verdict
  verdict-known n m s h = by-known n m s.bypass s.aux s.source s.destination h

  -- each of a list of candidates
  abbrev EachKnown : ℕ → ℕ → List Candidate → Type 0
  EachKnown n m [] = Unit {0}
  EachKnown n m (c ∷ cs) = Known ss ds n m c × EachKnown n m cs

  -- among more slots too
  known_more : (n k m : ℕ) (c : Candidate) → n ≤ k → Known ss ds k m c → Known ss ds n m c
  known_more n k m c h e = record { dest = e.dest; source = e.source; aux = e.aux; from = omega arith; below = e.below }

  each_more : (n k m : ℕ) (cs : List Candidate) → n ≤ k → EachKnown k m cs → EachKnown n m cs
  each_more n k m [] h e = tt
  each_more n k m (c ∷ cs) h e = (known_more n k m c h e.0, each_more n k m cs h e.1)

  with-known : (n m : ℕ) (v : Verdict) (cs : List Candidate) → KnownIn n m v → EachKnown n m cs → EachKnown n m (with_candidate v cs)
  with-known n m Over cs h e = e
  with-known n m (LeftOut r) cs h e = e
  with-known n m (Taken c) cs h e = (h, e)

  each-known : (n m : ℕ) (l : List Slot) → n + length l ≡ m → EachKnown n m (taken_of (verdicts_from ss ds n l))
  unfolding verdicts_from
  each-known n m [] h = tt
  each-known n m (s ∷ l) h =
      let cs = taken_of (verdicts_from ss ds (suc n) l) in
      with-known n m (verdict ss ds n s) cs (verdict-known n m s (omega arith)) (each_more n (suc n) m cs (omega arith) (each-known (suc n) m l (omega arith)))

  known_in : (n m : ℕ) (cs : List Candidate) → EachKnown n m cs → (i : ℕ) (d : Candidate) → i < length cs → Known ss ds n m (get_or cs i d)
  known_in n m [] e i d h = absurd (omega arith)
  known_in n m (c ∷ cs) e zero d h = e.0
  known_in n m (c ∷ cs) e (suc i) d h = known_in n m cs e.1 i d (omega arith)

  named_in : (n m : ℕ) (cs : List Candidate) → EachKnown n m cs → (d : ℕ) → named cs d ≡ true → d < dest_count ds
  named_in n m [] e d h = let z : ◌≡◌ {A = ℕ} 0 1 = cc in absurd (omega arith)
  named_in n m (c ∷ cs) e d h = go (ℕ_discrete c.dest d) (named_in n m cs e.1 d)
    where
      go : Dec (c.dest ≡ d) → (named cs d ≡ true → d < dest_count ds) → d < dest_count ds
      go (yes p) later = omega (arith, e.0.dest)
      go (no q) later = later (rw (ne_eqb c.dest d q) at h)

  module _ (n : ℕ) (l : List Slot) where
    -- EACH CANDIDATE IS KNOWN
    pub taken-known : (i : ℕ) (d : Candidate) → i < length (taken_of (verdicts_from ss ds n l))
        → Known ss ds n (n + length l) (get_or (taken_of (verdicts_from ss ds n l)) i d)
    taken-known = known_in n (n + length l) (taken_of (verdicts_from ss ds n l)) (each-known n (n + length l) l refl)

    -- a destination that a candidate names is registered
    pub named-known : (d : ℕ) → named (taken_of (verdicts_from ss ds n l)) d ≡ true → d < dest_count ds
    named-known = named_in n (n + length l) (taken_of (verdicts_from ss ds n l)) (each-known n (n + length l) l refl)

-- ---- of the matrix's slots

module _ (w : Wiring) (e : length w.matrix.slot ≡ slots) where
  pub verdicts-slots : length (verdicts w) ≡ slots
  unfolding verdicts
  verdicts-slots = verdicts-length w.sources w.dests 0 w.matrix.slot ∙ e

  pub candidates-most : length (candidates w) ≤ slots
  unfolding candidates
  candidates-most = omega (arith, taken-length (verdicts w), verdicts-slots)

  pub skipped-most : length (skipped_of w) ≤ slots
  unfolding skipped_of
  skipped-most = omega (arith, left_out-length 0 (verdicts w), verdicts-slots)

  pub candidate-known : (i : ℕ) (d : Candidate) → i < length (candidates w) → Known w.sources w.dests 0 slots (get_or (candidates w) i d)
  unfolding candidates verdicts
  candidate-known = known_in w.sources w.dests 0 slots (candidates w) (each-known w.sources w.dests 0 slots w.matrix.slot (omega (arith, e)))

  pub candidate-named : (d : ℕ) → named (candidates w) d ≡ true → d < dest_count w.dests
  unfolding candidates verdicts
  candidate-named = named-known w.sources w.dests 0 w.matrix.slot
