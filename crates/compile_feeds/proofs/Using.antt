-- The destinations in use, put down one at a time. Assumes nothing.
use mathlib.Core.Path.{◌≡◌, refl, ap, ◌∙◌}
use mathlib.Core.Logic.{◌⊎◌, inl, inr}
use mathlib.Core.Bool.{Bool, true, false}
use mathlib.Core.List.{List, [], ◌∷◌, ◌++◌, map, append-nil, map-append}
use Prim.Native.Nat.{ℕ, zero, suc, ◌+◌, ◌≤◌, ◌<◌}
use native.Mathlib.Omega.{arith}
use native.Mathlib.Numerals.{add-one}
use lib.ListN.{length, length-append, length-map}
use Rattle.config.specs.Sizes.{slots}
use Rattle.feed.specs.Numbers.{Distinct, keep, up_from}
use Rattle.feed.proofs.Tests.{which}
use Rattle.feed.proofs.Count.{ascending-distinct, up_from-ascending}
use Rattle.state.specs.declared.Candidate.{Candidate}
use Rattle.state.specs.declared.Used.{Used}
use Rattle.state.specs.declared.Sources.{Sources}
use Rattle.state.specs.declared.Destinations.{Destinations}
use Rattle.state.specs.Registry.{dest_count, dest_at}
use Rattle.state_filled.specs.Filled.{added}
use Rattle.state_filled.proofs.Laws.{added-more}
use Rattle.model.specs.Feeds.{named, used_as, used_in}
use Rattle.model.proofs.InUse.{named-most}

-- ---- one more of k, k + 1, ..

up_one : (k n : ℕ) → up_from k (suc n) ≡ up_from k n ++ (k + n) ∷ []
up_one k zero = ap (λ (m : ℕ). m ∷ []) (omega arith)
up_one k (suc n) =
    ap (λ (l : List ℕ). k ∷ l) (up_one (suc k) n ∙ ap (λ (m : ℕ). up_from (suc k) n ++ m ∷ []) (omega arith))

keep_append : (p : ℕ → Bool) (l m : List ℕ) → keep p (l ++ m) ≡ keep p l ++ keep p m
keep_append p [] m = refl
keep_append p (x ∷ l) m = go (which (p x)) (keep_append p l m)
  where
    go : (p x ≡ true) ⊎ (p x ≡ false) → keep p (l ++ m) ≡ keep p l ++ keep p m → keep p (x ∷ (l ++ m)) ≡ keep p (x ∷ l) ++ keep p m
    go (inl t) ih = rw (t, ih)
    go (inr t) ih = rw (t, ih)

-- those below d that pass
abbrev pub up_to : (ℕ → Bool) → ℕ → List ℕ
up_to p d = keep p (up_from 0 d)

module _ (p : ℕ → Bool) (d : ℕ) where
  split : up_to p (d + 1) ≡ up_to p d ++ keep p (d ∷ [])
  split =
      ap (λ (n : ℕ). up_to p n) (add-one d)
      ∙ ap (λ (l : List ℕ). keep p l) (up_one 0 d ∙ ap (λ (m : ℕ). up_from 0 d ++ m ∷ []) (omega arith))
      ∙ keep_append p (up_from 0 d) (d ∷ [])

  up-passed : p d ≡ true → up_to p (d + 1) ≡ up_to p d ++ d ∷ []
  up-passed t = split ∙ rw t

  up-failed : p d ≡ false → up_to p (d + 1) ≡ up_to p d
  up-failed t = split ∙ rw t (append-nil (up_to p d))

-- ---- those in use

abbrev pub used_by : Sources → Destinations → List Candidate → ℕ → Used
used_by ss ds cs d = used_as ss cs d (dest_at ds d)

module _ (ss : Sources) (ds : Destinations) (cs : List Candidate) (d : ℕ) where
  abbrev below : List Used
  below = map (used_by ss ds cs) (up_to (named cs) d)

  room : length cs ≤ slots → named cs d ≡ true → length below < slots
  room most t =
      let once : Distinct (up_from 0 (d + 1)) = ascending-distinct (up_from 0 (d + 1)) (up_from-ascending 0 (d + 1)) in
      let longer : length (up_to (named cs) (d + 1)) ≡ length (up_to (named cs) d) + 1 =
      ap length (up-passed (named cs) d t) ∙ length-append (up_to (named cs) d) (d ∷ []) in
      rw (length-map (up_to (named cs) d) (used_by ss ds cs)) (omega (arith, named-most cs (up_from 0 (d + 1)) once))

  pub using-more : length cs ≤ slots → named cs d ≡ true → added below (used_by ss ds cs d) ≡ map (used_by ss ds cs) (up_to (named cs) (d + 1))
  using-more most t =
      added-more below (used_by ss ds cs d) (room most t) ∙ rw (up-passed (named cs) d t, map-append)

  pub using-same : named cs d ≡ false → below ≡ map (used_by ss ds cs) (up_to (named cs) (d + 1))
  using-same t = rw (up-failed (named cs) d t)
