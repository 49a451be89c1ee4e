-- What is found: the first entry that has the target and no other; and, once an entry is accepted, that entry, with all before it as they were.
-- Assumes nothing.
use mathlib.Core.Path.{◌≡◌, refl, sym, ap, ◌∙◌}
use mathlib.Core.Logic.{⊎_elim}
use mathlib.Core.Bool.{Bool, true, false, cond}
use mathlib.Core.List.{List, [], ◌∷◌, ◌++◌}
use Prim.Native.Nat.{ℕ, zero, suc, ◌+◌, ◌<◌}
use native.Mathlib.Nat.{le_of_suc-le-suc, not-suc-le-zero}
use native.Mathlib.Omega.{arith}
use borrow.Author.Tests.{eq-eqb, eqb-true}
use lib.Dec.{eqb}
use Rattle.std.specs.Prelude.{Option, Some, None, is_some}
use lib.ListN.{length, get_or, get_or-append, length-append}
use lib.Seq.{get_or-append_seam}
use Rattle.config.specs.Sizes.{most_destinations}
use Rattle.state.specs.declared.Target.{Target}
use Rattle.state.specs.declared.Target.TheVariants.{Param, LfoBus}
use Rattle.state.specs.declared.Dest.{Dest}
use Rattle.state.specs.declared.Destinations.{Destinations}
use Rattle.state.specs.Registry.{dest_count, same_target}
use Rattle.dest.specs.Entries.{registered, get_dest, find_from, find_target, find_dest}
use Rattle.dest.specs.Adding.{add_code, appended}
use Rattle.list.proofs.Bools.{which, and-true-l, and_true_r}
use Rattle.dest.proofs.Search.{registered-length, entry-at}
use Rattle.dest.proofs.Adding.{accepted, appended-registered}

-- ---- the test of targets is their equality

pub same_self : (t : Target) → same_target t t ≡ true
same_self (Param a) = eq-eqb a a refl
same_self (LfoBus l b) = rw (eq-eqb l l refl, eq-eqb b b refl)

pub same-equal : (s t : Target) → same_target s t ≡ true → s ≡ t
same-equal (Param a) (Param b) h = ap Param (eqb-true a b h)
same-equal (Param a) (LfoBus m c) h = let z : ◌≡◌ {A = ℕ} 0 1 = cc in absurd (omega arith)
same-equal (LfoBus l b) (Param a) h = let z : ◌≡◌ {A = ℕ} 0 1 = cc in absurd (omega arith)
same-equal (LfoBus l b) (LfoBus m c) h =
    rw (eqb-true l m (and-true-l _ (eqb b c) h), eqb-true b c (and_true_r (eqb l m) _ h))

-- ---- the first, and no other

-- entry i of the list has the target, and none before it
pub record FirstAt (t : Target) (l : List Dest) (d : Dest) (i : ℕ) : Type 0 where
  pub below : i < length l
  pub here : same_target (get_or l i d).target t ≡ true
  pub before : (k : ℕ) → k < i → same_target (get_or l k d).target t ≡ false

-- none of the first entries has the target, and no entry before them
without-cons : (t : Target) (l : List Dest) (d : Dest) (n : ℕ) (x : Dest) → same_target x.target t ≡ false → ((k : ℕ) → k < n → same_target (get_or l k d).target t ≡ false) → (k : ℕ) → k < suc n → same_target (get_or (x ∷ l) k d).target t ≡ false
without-cons t l d n x y f zero h = y
without-cons t l d n x y f (suc k) h = f k (le_of_suc-le-suc h)

found_from : (t : Target) (l : List Dest) (d : Dest) (n m : ℕ) → find_from n t l ≡ Some m → (i : ℕ) × (m ≡ n + i) × FirstAt t l d i
unfolding find_from
found_from t [] d n m e = let z : ◌≡◌ {A = ℕ} 0 1 = cc in absurd (omega arith)
found_from t (x ∷ l) d n m e =
    ⊎_elim
    (λ y.
    let q : Some n ≡ Some m = rw y at e in
    let p : m ≡ n = cc in
    (0, omega arith, record { below = omega arith; here = y; before = λ k h. absurd (not-suc-le-zero h) }))
    (λ y.
    let q : find_from (suc n) t l ≡ Some m = rw y at e in
    let r = found_from t l d (suc n) m q in
    (suc r.0, omega (arith, r.1), record { below = omega (arith, r.2.below); here = r.2.here; before = without-cons t l d r.0 x y r.2.before }))
    (which (same_target x.target t))

pub found_first : (t : Target) (l : List Dest) (d : Dest) (n : ℕ) → find_target t l ≡ Some n → FirstAt t l d n
unfolding find_target
found_first t l d n e =
    let r = found_from t l d 0 n e in
    let q : r.0 ≡ n = omega (arith, r.1) in
    rw q at r.2

none_from : (t : Target) (l : List Dest) (d : Dest) (n : ℕ) → is_some (find_from n t l) ≡ false → (k : ℕ) → k < length l → same_target (get_or l k d).target t ≡ false
unfolding find_from
none_from t [] d n e k h = absurd (not-suc-le-zero h)
none_from t (x ∷ l) d n e k h =
    ⊎_elim
    (λ y. let q : true ≡ false = rw y at e in let z : ◌≡◌ {A = ℕ} 0 1 = cc in absurd (omega arith))
    (λ y.
    let q : is_some (find_from (suc n) t l) ≡ false = rw y at e in
    without-cons t l d (length l) x y (none_from t l d (suc n) q) k h)
    (which (same_target x.target t))

pub found_none : (t : Target) (l : List Dest) (d : Dest) → find_target t l ≡ None → (k : ℕ) → k < length l → same_target (get_or l k d).target t ≡ false
unfolding find_target
found_none t l d e = none_from t l d 0 (ap is_some e)

-- ---- a list and more entries after it

past : (b : Bool) (n : ℕ) (r s q : Option ℕ) → (is_some r ≡ false → s ≡ q) → is_some (cond b (Some n) r) ≡ false → cond b (Some n) s ≡ q
past true n r s q f h = let z : ◌≡◌ {A = ℕ} 0 1 = cc in absurd (omega arith)
past false n r s q f h = f h

pub find-append-none : (t : Target) (l m : List Dest) (n : ℕ) → is_some (find_from n t l) ≡ false → find_from n t (l ++ m) ≡ find_from (n + length l) t m
unfolding find_from
find-append-none t [] m n h = let e : n ≡ n + 0 = omega arith in ap (λ (j : ℕ). find_from j t m) e
find-append-none t (x ∷ l) m n h =
    let e : suc n + length l ≡ n + suc (length l) = omega arith in
    past (same_target x.target t) n (find_from (suc n) t l) (find_from (suc n) t (l ++ m)) (find_from (n + suc (length l)) t m)
    (λ k. find-append-none t l m (suc n) k ∙ ap (λ (j : ℕ). find_from j t m) e)
    h

kept : (b : Bool) (n : ℕ) (r s : Option ℕ) → (is_some r ≡ true → s ≡ r) → is_some (cond b (Some n) r) ≡ true → cond b (Some n) s ≡ cond b (Some n) r
kept true n r s f h = refl
kept false n r s f h = f h

pub find-append-found : (t : Target) (l m : List Dest) (n : ℕ) → is_some (find_from n t l) ≡ true → find_from n t (l ++ m) ≡ find_from n t l
unfolding find_from
find-append-found t [] m n h = let z : ◌≡◌ {A = ℕ} 0 1 = cc in absurd (omega arith)
find-append-found t (x ∷ l) m n h =
    kept (same_target x.target t) n (find_from (suc n) t l) (find_from (suc n) t (l ++ m)) (find-append-found t l m (suc n)) h

-- ---- once an entry is accepted

module _ (ds : Destinations) (d : Dest) (long : length ds.entry ≡ most_destinations) (ok : add_code ds d ≡ 0) where
  -- it is found at the old count
  pub added-found : find_dest (appended ds d) d.target ≡ Some (dest_count ds)
  unfolding find_dest find_target find_from
  added-found =
      let a = accepted ds d ok in
      rw (appended-registered ds d long a.room, find-append-none d.target (registered ds) (d ∷ []) 0 a.unused, same_self d.target)
      (let e : 0 + length (registered ds) ≡ dest_count ds = omega (arith, registered-length ds long) in ap Some e)

  -- what was found before still is
  pub added-kept : (t : Target) → is_some (find_dest ds t) ≡ true → find_dest (appended ds d) t ≡ find_dest ds t
  unfolding find_dest find_target
  added-kept t h =
      rw (appended-registered ds d long (accepted ds d ok).room) (find-append-found t (registered ds) (d ∷ []) 0 h)

  -- entries below are as before
  pub added-below : (i : ℕ) → i < dest_count ds → get_dest (appended ds d) i ≡ get_dest ds i
  unfolding get_dest
  added-below i h =
      let k : i < length (registered ds) = omega (arith, registered-length ds long) in
      rw (appended-registered ds d long (accepted ds d ok).room)
      (entry-at (registered ds ++ (d ∷ [])) i d (omega (arith, length-append (registered ds) (d ∷ [])))
      ∙ ap Some (get_or-append (registered ds) (d ∷ []) d i k)
      ∙ sym (entry-at (registered ds) i d k))

  pub added-at : get_dest (appended ds d) (dest_count ds) ≡ Some d
  unfolding get_dest
  added-at =
      rw (appended-registered ds d long (accepted ds d ok).room, sym (registered-length ds long))
      (entry-at (registered ds ++ (d ∷ [])) (length (registered ds)) d (omega (arith, length-append (registered ds) (d ∷ [])))
      ∙ ap Some (get_or-append_seam (registered ds) d [] d))
