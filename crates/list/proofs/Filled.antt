-- What stands where in a list that is filled by a function of the index, and the invariant of a loop that fills. Assumes nothing.
use mathlib.Core.Path.{◌≡◌, refl, sym, ◌∙◌, ap}
use mathlib.Core.Logic.{⊎_elim}
use mathlib.Core.List.{List}
use Prim.Native.Nat.{ℕ, zero, suc, ◌+◌, ◌≤◌, ◌<◌}
use native.Mathlib.Nat.{le_refl, le_of_lt, ne_of_gt, eq-or-lt_of_le, le_of_suc-le-suc}
use native.Mathlib.Numerals.{add-one}
use native.Mathlib.Omega.{arith}
use lib.ListN.{length, get_or, set, replicate, length-set, length-replicate, get_or-replicate}
use lib.Seq.{get_or-set_same, get_or-set_other}
use Rattle.list.specs.Fill.{fill}
use Rattle.list.proofs.Elements.{ext, get_or-inside}

module _ {A : Type 0} where
  pub fill-zero : (l : List A) (f : ℕ → A) → fill l f 0 ≡ l
  unfolding fill
  fill-zero l f = refl

  pub fill-next : (l : List A) (f : ℕ → A) (i : ℕ) → fill l f (i + 1) ≡ set (fill l f i) i (f i)
  unfolding fill
  fill-next l f i = rw add-one

  pub length-fill : (l : List A) (f : ℕ → A) (i : ℕ) → length (fill l f i) ≡ length l
  unfolding fill
  length-fill l f zero = refl
  length-fill l f (suc i) = length-set (fill l f i) i (f i) ∙ length-fill l f i

  -- at or above i: as it was
  pub fill-above : (l : List A) (f : ℕ → A) (i k : ℕ) (d : A) → i ≤ k → get_or (fill l f i) k d ≡ get_or l k d
  unfolding fill
  fill-above l f zero k d h = refl
  fill-above l f (suc i) k d h = get_or-set_other (fill l f i) i k (f i) d (ne_of_gt h) ∙ fill-above l f i k d (le_of_lt h)

  -- below i: the function's
  pub fill-below : (l : List A) (f : ℕ → A) (i k : ℕ) (d : A) → k < i → i ≤ length l → get_or (fill l f i) k d ≡ f k
  unfolding fill
  fill-below l f zero k d h b = absurd (omega arith)
  fill-below l f (suc i) k d h b =
      ⊎_elim
      (λ (e : k ≡ i). rw e (get_or-set_same (fill l f i) i (f i) d (rw length-fill (omega arith))))
      (λ (p : k < i). get_or-set_other (fill l f i) i k (f i) d (λ e. omega arith) ∙ fill-below l f i k d p (omega arith))
      (eq-or-lt_of_le (le_of_suc-le-suc h))

  -- a list filled whole with the elements of another of its length is that other
  pub fill_is : (l ys : List A) (f : ℕ → A) → length ys ≡ length l → ((k : ℕ) (d : A) → k < length l → f k ≡ get_or ys k d) → fill l f (length l) ≡ ys
  fill_is l ys f e h =
      ext (fill l f (length l)) ys (length-fill l f (length l) ∙ sym e) (λ k d b.
      let i : k < length l = omega (arith, length-fill l f (length l)) in
      fill-below l f (length l) k d i (le_refl (length l)) ∙ h k d i)

  -- with one value
  pub fill-replicate : (l : List A) (x : A) → fill l (λ k. x) (length l) ≡ replicate (length l) x
  fill-replicate l x =
      fill_is l (replicate (length l) x) (λ k. x) (length-replicate (length l) x) (λ k d h. sym (get_or-replicate (length l) k x d h))

  -- with what another list holds
  pub fill-copy : (l ys : List A) (d : A) → length ys ≡ length l → fill l (λ k. get_or ys k d) (length l) ≡ ys
  fill-copy l ys d e = fill_is l ys (λ k. get_or ys k d) e (λ k d' h. get_or-inside ys k d d' (omega arith))

  -- a loop's invariant: `out` is `l` with the elements below i given by f
  pub record Filled (l : List A) (f : ℕ → A) (i : ℕ) (out : List A) : Type 0 where
    pub as_long : length out ≡ length l
    pub is : out ≡ fill l f i

  pub filled_none : (l : List A) (f : ℕ → A) → Filled l f 0 l
  filled_none l f = record { as_long = refl; is = sym (fill-zero l f) }

  -- what stands at i before its turn
  pub filled-read : {l out : List A} {f : ℕ → A} {i : ℕ} (d : A) → Filled l f i out → get_or out i d ≡ get_or l i d
  filled-read {l} {out} {f} {i} d e = rw e.is (fill-above l f i i d (omega arith))

  -- the turn
  pub filled_more : {l out : List A} {f : ℕ → A} {i : ℕ} {v : A} → Filled l f i out → v ≡ f i → Filled l f (i + 1) (set out i v)
  filled_more {l} {out} {f} {i} {v} e h =
      record { as_long = length-set out i v ∙ e.as_long; is = rw (fill-next l f i, e.is, h) }

  pub filled-all : {l out : List A} {f : ℕ → A} {i n : ℕ} → Filled l f i out → i ≡ n → out ≡ fill l f n
  filled-all {l} {out} {f} {i} {n} e h = e.is ∙ ap (fill l f) h
