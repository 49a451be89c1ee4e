-- A turn of each loop, and bounds. Assumes nothing.
use mathlib.Core.Path.{◌≡◌, refl, ap, ◌∙◌}
use mathlib.Core.Bool.{Bool, true, false, cond}
use mathlib.Core.List.{List, [], ◌∷◌}
use Prim.Native.Nat.{ℕ, zero, suc, ◌+◌, ◌*◌, ◌≤◌}
use native.Mathlib.Nat.{le_trans, mul-le-mul_left, mul-le-mul_right, le_of_suc-le-suc, not-suc-le-zero}
use native.Mathlib.Numerals.{add-one}
use native.Mathlib.Omega.{arith}
use borrow.Author.Tests.{le-ltb}
use lib.Dec.{eqb, leb, ltb}
use lib.ListN.{length, set}
use lib.Ieee.{Float}
use Rattle.draw.specs.Xorshift.{step, draw_of}
use Rattle.state.specs.declared.SourceMark.{SourceMark}
use Rattle.engine_notes.specs.declared.Lane.{Lane}
use Rattle.engine_notes.specs.Noting.{kind_at, place_in, held_in, draws_in, randoms_in, alternate_by, alternates_in}

pub product-bound : (a b m n : ℕ) → a ≤ m → b ≤ n → a * b ≤ m * n
product-bound a b m n h k = le_trans (mul-le-mul_right b h) (mul-le-mul_left m k)

-- a store past the end changes nothing
pub set_past : {A : Type 0} (l : List A) (i : ℕ) (x : A) → length l ≤ i → set l i x ≡ l
set_past [] i x h = refl
set_past (y ∷ l) zero x h = absurd (not-suc-le-zero h)
set_past (y ∷ l) (suc i) x h = ap (λ (r : List _). y ∷ r) (set_past l i x (le_of_suc-le-suc h))

-- no list is shorter than 0
pub none-short : (n : ℕ) → ltb n 0 ≡ false
none-short zero = refl
none-short (suc n) = le-ltb (suc n) 0 (omega arith)

module _ (marks : List SourceMark) (lane : Lane) (i k p : ℕ) (kind-is : k ≡ kind_at marks i) (place_is : p ≡ place_in lane i) where
  pub held_next : (kind : ℕ) (x : Float) (first m m' : List Float) → m ≡ held_in marks lane kind x i first → m' ≡ cond (eqb k kind) (set m p x) m
      → m' ≡ held_in marks lane kind x (i + 1) first
  unfolding held_in
  held_next kind x first m m' e h = h ∙ rw (add-one, e, kind-is, place_is)

  pub draws-next : (draw d d' : ℕ) → d ≡ draws_in marks draw i → d' ≡ cond (eqb k 4) (step d) d → d' ≡ draws_in marks draw (i + 1)
  unfolding draws_in
  draws-next draw d d' e h = h ∙ rw (add-one, e, kind-is)

  drawn : (on : Bool) (m : List Float) (d : ℕ) → cond on (set m p (draw_of (cond on (step d) d))) m ≡ cond on (set m p (draw_of (step d))) m
  drawn true m d = refl
  drawn false m d = refl

  pub randoms-next : (draw d d' : ℕ) (first m m' : List Float) → d ≡ draws_in marks draw i → d' ≡ cond (eqb k 4) (step d) d
      → m ≡ randoms_in marks lane draw i first → m' ≡ cond (eqb k 4) (set m p (draw_of d')) m → m' ≡ randoms_in marks lane draw (i + 1) first
  unfolding randoms_in
  randoms-next draw d d' first m m' e f g h =
      h ∙ ap (λ (n : ℕ). cond (eqb k 4) (set m p (draw_of n)) m) f ∙ drawn (eqb k 4) m d ∙ rw (add-one, e, g, kind-is, place_is)

  pub alternates-next : (on : Bool) (first m m' : List Float) → m ≡ alternates_in marks lane on i first
      → m' ≡ cond (leb 5 k) (set m p (alternate_by k on)) m → m' ≡ alternates_in marks lane on (i + 1) first
  unfolding alternates_in
  alternates-next on first m m' e h = h ∙ rw (add-one, e, kind-is, place_is)
