-- THE OPERATIONS RESPECT DOCUMENT 01'S COMPARISON of numbers, with tables and slews; it is decided, as equality is; and where each pair of a thing and a lane of it
-- is decided, all pass or one that does not is found. Assumes nothing.
use mathlib.Core.Path.{◌≡◌, refl, ap}
use mathlib.Core.Logic.{◌≢◌, ◌⊎◌, inl, inr}
use mathlib.Core.Bool.{Bool, Bool-discrete}
use mathlib.Core.List.{List, [], ◌∷◌}
use Prim.Native.Nat.{ℕ, zero, suc, ◌+◌, ◌<◌, min}
use native.Mathlib.Omega.{arith}
use native.Mathlib.Decide.{ℕ_discrete}
use lib.IntN.{ℤ, pos, ℤ_discrete}
use lib.ListN.{get_or}
use lib.Ieee.{Float, nan, inf, fin}
use Rattle.feed.specs.Numbers.{In}
use Rattle.feed.proofs.Count.{hit_same, in-cases}
use Rattle.number.specs.Number.{zero32, abs_of, nearest32}
use Rattle.number.specs.Same.{◌≈◌, equal, zeros}
use Rattle.number.proofs.Same.{same-of-eq}
use Rattle.number.proofs.Respects.{plus-same, less-same, times-same, min-same, max-same, hold-same, clamp-same, whole-part-same}
use Rattle.curve_table.specs.Table.{last_cell, position, cell_of, part_of, lookup_of}
use Rattle.slew.specs.Slew.{moved, slew_step}
use Rattle.model.proofs.Respects.{Respected}

-- ---- the comparison is respected

position-same : {x x' : Float} → x ≈ x' → position x ≈ position x'
unfolding position
position-same p = times-same (clamp-same equal equal p) equal

cell_same : {x x' : Float} → x ≈ x' → cell_of x ≡ cell_of x'
unfolding cell_of
cell_same p = ap (λ (n : ℕ). min n last_cell) (whole-part-same (position-same p))

part_same : {x x' : Float} → x ≈ x' → part_of x ≈ part_of x'
unfolding part_of
part_same p = less-same (position-same p) (same-of-eq (ap nearest32 (cell_same p)))

lookup-same : (t : List Float) {x x' : Float} → x ≈ x' → lookup_of t x ≈ lookup_of t x'
unfolding lookup_of
lookup-same t p =
    let low = same-of-eq (ap (λ (n : ℕ). get_or t n nan) (cell_same p)) in
    let high = same-of-eq (ap (λ (n : ℕ). get_or t (n + 1) nan) (cell_same p)) in
    plus-same low (times-same (less-same high low) (part_same p))

moved_same : (up down prev : Float) {u u' : Float} → u ≈ u' → moved up down prev u ≈ moved up down prev u'
unfolding moved
moved_same up down prev p = plus-same equal (min-same (max-same (less-same p equal) equal) equal)

slew-same : (up down snap prev : Float) {u u' : Float} → u ≈ u' → slew_step up down snap prev u ≈ slew_step up down snap prev u'
unfolding slew_step
slew-same up down snap prev p = let m = moved_same up down prev p in plus-same m (times-same (less-same p m) equal)

-- document 01's comparison
pub compared-respected : Respected ◌≈◌
compared-respected =
    record {
      refl = λ x. equal;
      plus = plus-same;
      less = less-same;
      times = times-same;
      hold = λ lo hi p. hold-same equal equal p;
      lookup = lookup-same;
      slew = slew-same;
    }

-- ---- equality and the comparison are decided

inf-decided : (s t : Bool) → Dec (s ≡ t) → Dec (inf s ≡ inf t)
inf-decided s t (yes p) = yes (ap inf p)
inf-decided s t (no f) = no (λ p. f (cc))

fin_decided : (s t : Bool) (m n : ℕ) (e d : ℤ) → Dec (s ≡ t) → Dec (m ≡ n) → Dec (e ≡ d) → Dec (fin s m e ≡ fin t n d)
fin_decided s t m n e d (yes p) (yes q) (yes r) = yes (cc)
fin_decided s t m n e d (yes p) (yes q) (no f) = no (λ h. f (cc))
fin_decided s t m n e d (yes p) (no f) r = no (λ h. f (cc))
fin_decided s t m n e d (no f) q r = no (λ h. f (cc))

pub equal-decided : (x y : Float) → Dec (x ≡ y)
equal-decided nan nan = yes refl
equal-decided nan (inf t) = no (λ p. let z : ◌≡◌ {A = ℕ} 0 1 = cc in omega arith)
equal-decided nan (fin t n d) = no (λ p. let z : ◌≡◌ {A = ℕ} 0 1 = cc in omega arith)
equal-decided (inf s) nan = no (λ p. let z : ◌≡◌ {A = ℕ} 0 1 = cc in omega arith)
equal-decided (inf s) (inf t) = inf-decided s t (Bool-discrete s t)
equal-decided (inf s) (fin t n d) = no (λ p. let z : ◌≡◌ {A = ℕ} 0 1 = cc in omega arith)
equal-decided (fin s m e) nan = no (λ p. let z : ◌≡◌ {A = ℕ} 0 1 = cc in omega arith)
equal-decided (fin s m e) (inf t) = no (λ p. let z : ◌≡◌ {A = ℕ} 0 1 = cc in omega arith)
equal-decided (fin s m e) (fin t n d) = fin_decided s t m n e d (Bool-discrete s t) (ℕ_discrete m n) (ℤ_discrete e d)

-- a number of no size is one of the zeros
zero_is : (x : Float) → abs_of x ≡ zero32 → (s : Bool) × (x ≡ fin s 0 (pos 0))
unfolding abs_of
zero_is nan h = absurd (let z : ◌≡◌ {A = ℕ} 0 1 = cc in omega arith)
zero_is (inf s) h = absurd (let z : ◌≡◌ {A = ℕ} 0 1 = cc in omega arith)
zero_is (fin s m e) h = (s, cc)

zeros-same : (x y : Float) → abs_of x ≡ zero32 → abs_of y ≡ zero32 → x ≈ y
zeros-same x y p q = rw ((zero_is x p).1, (zero_is y q).1) zeros

-- two numbers that compare the same are equal, or both zeros
same_cases : {x y : Float} → x ≈ y → (x ≡ y) ⊎ ((abs_of x ≡ zero32) × (abs_of y ≡ zero32))
unfolding abs_of
same_cases equal = inl refl
same_cases zeros = inr (refl, refl)

pub compared-decided : (x y : Float) → Dec (x ≈ y)
compared-decided x y = go (equal-decided x y) (equal-decided (abs_of x) zero32) (equal-decided (abs_of y) zero32)
  where
    apart : x ≢ y → ((abs_of x ≡ zero32) × (abs_of y ≡ zero32) → ⊥) → (x ≡ y) ⊎ ((abs_of x ≡ zero32) × (abs_of y ≡ zero32)) → ⊥
    apart f g (inl p) = f p
    apart f g (inr p) = g p

    go : Dec (x ≡ y) → Dec (abs_of x ≡ zero32) → Dec (abs_of y ≡ zero32) → Dec (x ≈ y)
    go (yes p) a b = yes (same-of-eq p)
    go (no f) (yes p) (yes q) = yes (zeros-same x y p q)
    go (no f) (yes p) (no k) = no (λ h. apart f (λ w. k w.1) (same_cases h))
    go (no f) (no k) b = no (λ h. apart f (λ w. k w.0) (same_cases h))

-- ---- the bounded search

-- a thing of the list, and a lane of it, that does not pass
pub record Fails (P : ℕ → ℕ → Type 0) (ds : List ℕ) (width : ℕ → ℕ) : Type 0 where
  pub dest : ℕ
  pub lane : ℕ
  pub stands : In dest ds
  pub inside : lane < width dest
  pub fails : P dest lane → ⊥

-- below n: all pass, or one that does not
below : (Q : ℕ → Type 0) → ((l : ℕ) → Dec (Q l)) → (n : ℕ) → ((l : ℕ) → l < n → Q l) ⊎ ((l : ℕ) × (l < n) × (Q l → ⊥))
below Q dec zero = inl (λ l h. absurd (omega arith))
below Q dec (suc n) = go (dec n) (below Q dec n)
  where
    go : Dec (Q n) → ((l : ℕ) → l < n → Q l) ⊎ ((l : ℕ) × (l < n) × (Q l → ⊥)) → ((l : ℕ) → l < suc n → Q l) ⊎ ((l : ℕ) × (l < suc n) × (Q l → ⊥))
    go (no f) w = inr (n, omega arith, f)
    go (yes q) (inr w) = inr (w.0, omega (arith, w.1), w.2)
    go (yes q) (inl all) = inl (λ l h. each l h (ℕ_discrete l n))
      where
        each : (l : ℕ) → l < suc n → Dec (l ≡ n) → Q l
        each l h (yes p) = rw p q
        each l h (no f) = all l (omega (arith, f))

-- over the things of a list and the lanes of each: all pass, or one that does not
pub search : (P : ℕ → ℕ → Type 0) (dec : (d l : ℕ) → Dec (P d l)) (ds : List ℕ) (width : ℕ → ℕ)
    → ((d l : ℕ) → In d ds → l < width d → P d l) ⊎ Fails P ds width
search P dec [] width = inl (λ d l h i. absurd (omega arith))
search P dec (x ∷ xs) width = go (below (P x) (dec x) (width x)) (search P dec xs width)
  where
    go : ((l : ℕ) → l < width x → P x l) ⊎ ((l : ℕ) × (l < width x) × (P x l → ⊥)) → ((d l : ℕ) → In d xs → l < width d → P d l) ⊎ Fails P xs width
        → ((d l : ℕ) → In d (x ∷ xs) → l < width d → P d l) ⊎ Fails P (x ∷ xs) width
    go (inr w) rest = inr (record { dest = x; lane = w.0; stands = omega (arith, hit_same x); inside = w.1; fails = w.2 })
    go (inl all) (inr w) = inr (record { dest = w.dest; lane = w.lane; stands = omega (arith, w.stands); inside = w.inside; fails = w.fails })
    go (inl all) (inl rest) = inl (λ d l h i. each d l i (in-cases d x xs h))
      where
        each : (d l : ℕ) → l < width d → (d ≡ x) ⊎ In d xs → P d l
        each d l i (inl p) = rw p (all l (rw p at i))
        each d l i (inr h) = rest d l h i
