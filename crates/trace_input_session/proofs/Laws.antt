-- Laws on a word's digits, and on rows of bytes in std's words. Assumes nothing.
use mathlib.Core.Path.{◌≡◌, refl, ap, sym, ◌∙◌}
use mathlib.Core.Bool.{Bool, true, false, cond, not, ◌&&◌}
use mathlib.Core.List.{List, [], ◌∷◌}
use Prim.Native.Nat.{ℕ, suc, ◌+◌, ◌*◌, ◌^◌, ◌<◌, ◌≤◌}
use native.Mathlib.Omega.{arith}
use native.Mathlib.Numerals.{add-one}
use borrow.Author.Tests.{lt-ltb, le-ltb, ltb-false, ne_eqb}
use lib.Dec.{ltb, eqb}
use lib.ListN.{length, get_or, take, drop, drop_of_length-le}
use lib.Seq.{drop-cons}
use Rattle.std.proofs.Common.{Some, None}
use Rattle.std.specs.Cmp.Lexicographic.{pointwise}
use Rattle.std.specs.List.{list_all, position_or_len}
use Rattle.std.specs.Option.{unwrap_or}
use Rattle.trace_input_session.specs.Words.{is_hex, all_hex, same_bytes, decimal_of, digits_after, whole_of, whole_to}
use Rattle.trace_input_session.specs.Lines.{before_of, after_of, Found}

pub hex-all : (w : List ℕ) → list_all is_hex w ≡ all_hex w
unfolding all_hex
hex-all [] = refl
hex-all (b ∷ w) = ap (λ (r : Bool). is_hex b && r) (hex-all w)

pub same-pointwise : (a b : List ℕ) → pointwise eqb a b ≡ same_bytes a b
unfolding same_bytes
same-pointwise [] [] = refl
same-pointwise [] (y ∷ b) = refl
same-pointwise (x ∷ a) [] = refl
same-pointwise (x ∷ a) (y ∷ b) = ap (λ (r : Bool). eqb x y && r) (same-pointwise a b)

pub same-lengths : (a b : List ℕ) → (length a ≡ length b → ⊥) → same_bytes a b ≡ false
unfolding same_bytes
same-lengths [] [] h = absurd (h refl)
same-lengths [] (y ∷ b) h = refl
same-lengths (x ∷ a) [] h = refl
same-lengths (x ∷ a) (y ∷ b) h = ends (eqb x y) (same_bytes a b) (same-lengths a b (λ e. h (ap suc e)))
  where
    ends : (p q : Bool) → q ≡ false → (p && q) ≡ false
    ends true q e = e
    ends false q e = refl

-- ---- the first place of a byte
abbrev pub first_of : ℕ → List ℕ → ℕ
first_of b s = position_or_len (λ c. eqb c b) s

first-within : (b : ℕ) (s : List ℕ) → first_of b s ≤ length s
first-within b [] = omega arith
first-within b (c ∷ s) = go (eqb c b) (first-within b s)
  where
    go : (d : Bool) → first_of b s ≤ length s → cond (not d) (1 + first_of b s) 0 ≤ suc (length s)
    go true h = omega arith
    go false h = omega arith

first-before : (b : ℕ) (s : List ℕ) → take (first_of b s) s ≡ before_of b s
unfolding before_of
first-before b [] = refl
first-before b (c ∷ s) = go (eqb c b) (first-before b s)
  where
    go : (d : Bool) → take (first_of b s) s ≡ before_of b s → take (cond (not d) (1 + first_of b s) 0) (c ∷ s) ≡ cond d [] (c ∷ before_of b s)
    go true h = refl
    go false h = let e : 1 + first_of b s ≡ suc (first_of b s) = omega arith in rw e (ap (λ (l : List ℕ). c ∷ l) h)

first-after : (b : ℕ) (s : List ℕ) → drop (first_of b s + 1) s ≡ after_of b s
unfolding after_of
first-after b [] = refl
first-after b (c ∷ s) = go (eqb c b) (first-after b s)
  where
    go : (d : Bool) → drop (first_of b s + 1) s ≡ after_of b s → drop (cond (not d) (1 + first_of b s) 0 + 1) (c ∷ s) ≡ cond d s (after_of b s)
    go true h = refl
    go false h = let e : 1 + first_of b s + 1 ≡ suc (first_of b s + 1) = omega arith in rw e h

first-or_all : (b : ℕ) (s : List ℕ) → unwrap_or (cond (ltb (first_of b s) (length s)) (Some (first_of b s)) None) (length s) ≡ first_of b s
first-or_all b s = go (ltb (first_of b s) (length s)) refl (first-within b s)
  where
    go : (t : Bool) → ltb (first_of b s) (length s) ≡ t → first_of b s ≤ length s → unwrap_or (cond t (Some (first_of b s)) None) (length s) ≡ first_of b s
    go true e k = refl
    go false e k = let h = ltb-false (first_of b s) (length s) e in omega (arith, h, k)

pub found-first : (b : ℕ) (s : List ℕ) (r : ℕ) → r ≡ unwrap_or (cond (ltb (first_of b s) (length s)) (Some (first_of b s)) None) (length s) → Found s b r
found-first b s r h =
    let e : r ≡ first_of b s = h ∙ first-or_all b s in
    record { within = rw e (first-within b s); first = rw e (first-before b s); then = rw e (first-after b s) }

-- ---- the digits from i on, by the one at i and those after it
digits_from : (w : List ℕ) (v i : ℕ) → i < length w → digits_after v (drop i w) ≡ cond (ltb (decimal_of (get_or w i 0)) 10) (cond (ltb (v * 10 + decimal_of (get_or w i 0)) (2 ^ 64)) (digits_after (v * 10 + decimal_of (get_or w i 0)) (drop (i + 1) w)) None) None
unfolding digits_after
digits_from w v i h = rw (add-one, drop-cons w i 0)

pub digits-past : (w : List ℕ) (v i : ℕ) → length w ≤ i → digits_after v (drop i w) ≡ Some v
unfolding digits_after
digits-past w v i h = rw (drop_of_length-le w h)

-- no digit at i
pub digits-other : (w : List ℕ) (v i : ℕ) → i < length w → (decimal_of (get_or w i 0) < 10 → ⊥) → digits_after v (drop i w) ≡ None
digits-other w v i h n =
    let e : ltb (decimal_of (get_or w i 0)) 10 ≡ false = le-ltb _ 10 (omega (arith, n)) in
    digits_from w v i h ∙ rw e

-- with the digit at i it does not fit
pub digits-over : (w : List ℕ) (v i d : ℕ) → i < length w → d ≡ decimal_of (get_or w i 0) → d < 10 → 2 ^ 64 ≤ v * 10 + d → digits_after v (drop i w) ≡ None
digits-over w v i d h e s o =
    let a : ltb (decimal_of (get_or w i 0)) 10 ≡ true = lt-ltb _ 10 (omega (arith, e, s)) in
    let b : ltb (v * 10 + decimal_of (get_or w i 0)) (2 ^ 64) ≡ false = le-ltb _ (2 ^ 64) (omega (arith, e, o)) in
    digits_from w v i h ∙ rw (a, b)

pub digits-more : (w : List ℕ) (v i d n : ℕ) → i < length w → d ≡ decimal_of (get_or w i 0) → d < 10 → n ≡ v * 10 + d → n < 2 ^ 64 → digits_after n (drop (i + 1) w) ≡ digits_after v (drop i w)
digits-more w v i d n h e s N o =
    let N' : n ≡ v * 10 + decimal_of (get_or w i 0) = omega (arith, N, e) in
    let a : ltb (decimal_of (get_or w i 0)) 10 ≡ true = lt-ltb _ 10 (omega (arith, e, s)) in
    let b : ltb (v * 10 + decimal_of (get_or w i 0)) (2 ^ 64) ≡ true = lt-ltb _ (2 ^ 64) (omega (arith, N', o)) in
    ap (λ (m : ℕ). digits_after m (drop (i + 1) w)) N' ∙ sym (digits_from w v i h ∙ rw (a, b))

pub no-word : (w : List ℕ) → length w ≡ 0 → None ≡ whole_of w
unfolding whole_of
no-word w h = rw h

pub word-digits : (w : List ℕ) → (length w ≡ 0 → ⊥) → digits_after 0 w ≡ whole_of w
unfolding whole_of
word-digits w h = rw (ne_eqb (length w) 0 h)

-- ---- a bound
pub at_most-yes : (most n : ℕ) (w : List ℕ) → whole_of w ≡ Some n → n ≤ most → Some n ≡ whole_to most w
unfolding whole_to
at_most-yes most n w e h = rw e (sym (rw (le-ltb most n h)))

pub at_most-no : (most n : ℕ) (w : List ℕ) → whole_of w ≡ Some n → most < n → None ≡ whole_to most w
unfolding whole_to
at_most-no most n w e h = rw e (sym (rw (lt-ltb most n h)))

pub at_most-none : (most : ℕ) (w : List ℕ) → whole_of w ≡ None → None ≡ whole_to most w
unfolding whole_to
at_most-none most w e = rw e
