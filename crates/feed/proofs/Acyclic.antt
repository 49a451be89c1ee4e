-- The test of the order passes exactly where no chain of feeds returns, and there each feeder stands first. Assumes nothing.
use mathlib.Core.Path.{◌≡◌, refl, ap, ◌∙◌}
use mathlib.Core.Logic.{◌≢◌, ◌⊎◌, inl, inr, ◌↔◌}
use mathlib.Core.Bool.{Bool, true, false, not, ◌&&◌}
use mathlib.Core.List.{List, [], ◌∷◌}
use Prim.Native.Nat.{ℕ, zero, suc, ◌+◌, ◌≤◌, ◌<◌}
use native.Mathlib.Omega.{arith}
use lib.ListN.{length, get_or}
use Rattle.feed.specs.Numbers.{hit, count, In, Distinct, index_of, remove, first_or}
use Rattle.feed.specs.Order.{fed_by, free, next, greedy, order, ordered}
use Rattle.feed.specs.Chain.{Along, Chain, Acyclic, Counts}
use Rattle.feed.proofs.Tests.{which}
use Rattle.feed.proofs.Count.{hit_same, count-remove, length-remove}
use Rattle.feed.proofs.Fed.{fed-none, fed-some}
use Rattle.feed.proofs.Next.{next-in, free_in, free-from}
use Rattle.feed.proofs.Placed.{greedy-count, order-count, order-length, order-distinct}
use Rattle.feed.proofs.Ordered.{ordered-before, ordered_at}
use Rattle.feed.proofs.Ring.{all-fed}

apart : (a e c : ℕ) → hit e a + c ≡ 0 → a ≢ e
apart a e c z p = omega (arith, hit_same e, rw p at z)

differ : (a b : ℕ) (p : List ℕ) → Distinct (a ∷ b ∷ p) → a ≢ b
differ a b p once e = omega (arith, once b, hit_same b, ap (hit b) e)

module _ (feeds : ℕ → ℕ → Bool) where
  -- the next one is free, or a chain returns among those left
  next-or-chain : (things us : List ℕ) → ((a : ℕ) → In a us → In a things) → 1 ≤ length us
      → (fed_by feeds us (next feeds us) ≡ false) ⊎ Chain feeds things
  next-or-chain things us inside h = go (free feeds us) refl
    where
      go : (l : List ℕ) → free feeds us ≡ l → (fed_by feeds us (next feeds us) ≡ false) ⊎ Chain feeds things
      go (w ∷ l) e =
          let m : In w (free feeds us) = rw e (omega (arith, hit_same w)) in
          inl (ap (λ (b : ℕ). fed_by feeds us b) (ap (first_or (first_or 0 us)) e) ∙ (free-from feeds us w m).1)
      go [] e = inr (all-fed feeds things us inside (λ w m. fed w m (which (fed_by feeds us w))) h)
        where
          fed : (w : ℕ) → In w us → (fed_by feeds us w ≡ true) ⊎ (fed_by feeds us w ≡ false) → fed_by feeds us w ≡ true
          fed w m (inl p) = p
          fed w m (inr p) = absurd (omega (arith, rw e at (free_in feeds us w m p)))

  greedy-or-chain : (things : List ℕ) (k : ℕ) (us : List ℕ) → length us ≡ k → ((a : ℕ) → In a us → In a things)
      → (ordered feeds (greedy feeds k us) ≡ true) ⊎ Chain feeds things
  greedy-or-chain things zero us h inside = inl refl
  greedy-or-chain things (suc k) us h inside =
      go (next-or-chain things us inside (omega arith)) (greedy-or-chain things k (remove d us) shorter (λ a m. inside a (omega (arith, count-remove a d us here))))
    where
      d : ℕ
      d = next feeds us

      later : List ℕ
      later = greedy feeds k (remove d us)

      here : In d us
      here = next-in feeds us (omega arith)

      shorter : length (remove d us) ≡ k
      shorter = omega (arith, length-remove d us here)

      -- who feeds d is not left, so not placed later
      none : fed_by feeds us d ≡ false → (fed_by feeds later d ≡ true) ⊎ (fed_by feeds later d ≡ false) → fed_by feeds later d ≡ false
      none f (inr p) = p
      none f (inl p) =
          let r = fed-some feeds later d p in
          absurd (omega (arith, r.stands, fed-none feeds us r.from d f r.other r.feed, greedy-count feeds k (remove d us) shorter r.from, count-remove r.from d us here))

      go : (fed_by feeds us d ≡ false) ⊎ Chain feeds things → (ordered feeds later ≡ true) ⊎ Chain feeds things
          → (not (fed_by feeds later d) && ordered feeds later ≡ true) ⊎ Chain feeds things
      go (inr c) r = inr c
      go (inl f) (inr c) = inr c
      go (inl f) (inl t) = inl (rw (none f (which (fed_by feeds later d)), t))

  -- along a chain the places rise
  rises : (l : List ℕ) → ordered feeds l ≡ true → (a : ℕ) (p : List ℕ) (e : ℕ) → ((x : ℕ) → In x (a ∷ p) → In x l) → In e l → Distinct (a ∷ p)
      → count e (a ∷ p) ≡ 0 → Along feeds a p e → index_of a l < index_of e l
  rises l t a [] e within me once none f = ordered-before feeds l t a e (within a (omega (arith, hit_same a))) me (apart a e 0 none) f
  rises l t a (b ∷ p) e within me once none f =
      omega (
        arith,
        ordered-before feeds l t a b (within a (omega (arith, hit_same a))) (within b (omega (arith, hit_same b))) (differ a b p once) f.0,
        rises l t b p e (λ x m. within x (omega arith)) me (λ x. omega (arith, once x)) (omega arith) f.1,
      )

  ordered-acyclic : (l : List ℕ) → ordered feeds l ≡ true → Acyclic feeds l
  ordered-acyclic l t c =
      let a = c.first in
      let b = c.second in
      let ma : In a l = c.within a (omega (arith, hit_same a)) in
      let mb : In b l = c.within b (omega (arith, hit_same b)) in
      omega (
        arith,
        ordered-before feeds l t a b ma mb (differ a b c.others c.distinct) c.returns.0,
        rises l t b c.others a (λ x m. c.within x (omega arith)) ma (λ x. omega (arith, c.distinct x)) (omega (arith, c.distinct a, hit_same a)) c.returns.1,
      )

-- a chain of feeds among things is one of counted feeds among them
along-counted : (feeds counted : ℕ → ℕ → Bool) (things : List ℕ) → Counts counted feeds things → (a : ℕ) (p : List ℕ) (e : ℕ)
    → ((x : ℕ) → In x (a ∷ p) → In x things) → In e things → Along feeds a p e → Along counted a p e
along-counted feeds counted things incl a [] e within me f = incl a e (within a (omega (arith, hit_same a))) me f
along-counted feeds counted things incl a (b ∷ p) e within me f = (
  incl a b (within a (omega (arith, hit_same a))) (within b (omega (arith, hit_same b))) f.0,
  along-counted feeds counted things incl b p e (λ x m. within x (omega arith)) me f.1,
)

pub chain-counted : (feeds counted : ℕ → ℕ → Bool) (things : List ℕ) → Counts counted feeds things → Chain feeds things → Chain counted things
chain-counted feeds counted things incl c = record {
  first = c.first;
  second = c.second;
  others = c.others;
  distinct = c.distinct;
  within = c.within;
  returns = along-counted feeds counted things incl c.first (c.second ∷ c.others) c.first c.within (c.within c.first (omega (arith, hit_same c.first))) c.returns;
}

module _ (feeds : ℕ → ℕ → Bool) (left : List ℕ) where
  -- THE TEST PASSES, OR A CHAIN RETURNS: which
  pub ordered-or-chain : (ordered feeds (order feeds left) ≡ true) ⊎ Chain feeds left
  unfolding order
  ordered-or-chain = greedy-or-chain feeds left (length left) left refl (λ a m. m)

  -- THE TEST PASSES EXACTLY WHERE NO CHAIN RETURNS
  pub acyclic-ordered : Acyclic feeds left → ordered feeds (order feeds left) ≡ true
  acyclic-ordered none = elim ordered-or-chain [ inl t ↦ t | inr c ↦ absurd (none c) ]

  pub ordered-means-acyclic : ordered feeds (order feeds left) ≡ true → Acyclic feeds left
  ordered-means-acyclic t c = ordered-acyclic feeds (order feeds left) t (record {
    first = c.first;
    second = c.second;
    others = c.others;
    distinct = c.distinct;
    within = λ a m. omega (arith, c.within a m, order-count feeds left a);
    returns = c.returns;
  })

  pub ordered-exactly : (ordered feeds (order feeds left) ≡ true) ↔ Acyclic feeds left
  ordered-exactly = (ordered-means-acyclic, acyclic-ordered)

  -- EACH FEEDER STANDS FIRST where no chain of counted feeds returns
  module _ (counted : ℕ → ℕ → Bool) (incl : Counts counted feeds left) (none : Acyclic counted left) where
    pub counted-ordered : ordered feeds (order feeds left) ≡ true
    counted-ordered = acyclic-ordered (λ c. none (chain-counted feeds counted left incl c))

    pub counted-first : (a b : ℕ) → In a left → In b left → a ≢ b → feeds a b ≡ true → index_of a (order feeds left) < index_of b (order feeds left)
    counted-first a b ma mb = ordered-before feeds (order feeds left) counted-ordered a b (omega (arith, order-count feeds left a)) (omega (arith, order-count feeds left b))

    -- what feeds the one at place i stands at an earlier place
    pub counted-at : Distinct left → (i : ℕ) → i < length left → (a : ℕ) → In a left → a ≢ get_or (order feeds left) i 0 → feeds a (get_or (order feeds left) i 0) ≡ true
        → (j : ℕ) × (j < i) × (get_or (order feeds left) j 0 ≡ a)
    counted-at once i h a ma =
        ordered_at feeds (order feeds left) (order-distinct feeds left once) counted-ordered i (omega (arith, order-length feeds left)) a (omega (arith, order-count feeds left a))

-- and so where none of the feeds that are read returns
pub feeder-first : (feeds : ℕ → ℕ → Bool) (left : List ℕ) → Acyclic feeds left → (a b : ℕ) → In a left → In b left → a ≢ b → feeds a b ≡ true
    → index_of a (order feeds left) < index_of b (order feeds left)
feeder-first feeds left none = counted-first feeds left feeds (λ a b ma mb f. f) none
