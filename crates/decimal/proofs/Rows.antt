-- Rows of bytes: the digits that a row begins with, one by one, and a number of digits held to a bound. Assumes nothing.
use mathlib.Core.Path.{◌≡◌, refl, sym, ap, ◌∙◌}
use mathlib.Core.Bool.{Bool, true, false, cond, not, ◌&&◌, ◌||◌}
use mathlib.Core.List.{List, [], ◌∷◌}
use Prim.Native.Nat.{ℕ, zero, suc, ◌+◌, ◌-◌, ◌*◌, ◌^◌, ◌≤◌, ◌<◌, min}
use native.Mathlib.Nat.{le_of_eq}
use native.Mathlib.Numerals.{add-one}
use native.Mathlib.Omega.{arith}
use lib.Dec.{leb, ltb, eqb}
use lib.ListN.{length, get_or, take, drop, length-drop}
use lib.Seq.{drop-cons, drop-length, take_all}
use borrow.Author.Tests.{leb-true, ltb-false, lt-ltb, ne_eqb, not-true, not-false}
use Rattle.std.proofs.Common.{Some, None}
use Rattle.std.specs.List.{position_or_len}
use Rattle.std.specs.Option.{unwrap_or}
use Rattle.list.proofs.Bools.{and-true-l}
use Rattle.decimal.specs.Decimal.{lead, is_digit, run, past, number, is_sign, unsigned, rest, has_point, after_point, mark, power, digits, exponent, is_power, is_decimal}

-- how many digits a row begins with, in std's words
run-is : (w : List ℕ) → position_or_len (λ b. not (is_digit b)) w ≡ run w
unfolding run
run-is [] = refl
run-is (b ∷ w) = go (is_digit b) (run-is w)
  where
    go : (d : Bool) → position_or_len (λ b. not (is_digit b)) w ≡ run w → cond (not (not d)) (1 + position_or_len (λ b. not (is_digit b)) w) 0 ≡ cond d (suc (run w)) 0
    go true e = omega (arith, e)
    go false e = refl

pub run-within : (w : List ℕ) → run w ≤ length w
unfolding run
run-within [] = omega arith
run-within (b ∷ w) = go (is_digit b) (run-within w)
  where
    go : (d : Bool) → run w ≤ length w → cond d (suc (run w)) 0 ≤ suc (length w)
    go true h = omega arith
    go false h = omega arith

pub run-or_all : (w : List ℕ) → unwrap_or (cond (ltb (position_or_len (λ b. not (is_digit b)) w) (length w)) (Some (position_or_len (λ b. not (is_digit b)) w)) None) (length w) ≡ run w
run-or_all w = rw (run-is w) (go (ltb (run w) (length w)) refl (run-within w))
  where
    go : (t : Bool) → ltb (run w) (length w) ≡ t → run w ≤ length w → unwrap_or (cond t (Some (run w)) None) (length w) ≡ run w
    go true e k = refl
    go false e k = let h = ltb-false (run w) (length w) e in omega (arith, h, k)

number-from : (w : List ℕ) (v i : ℕ) → i < length w → number v (drop i w) ≡ cond (is_digit (get_or w i 0)) (number (v * 10 + (get_or w i 0 - 48)) (drop (i + 1) w)) v
unfolding number
number-from w v i h = rw (add-one, drop-cons w i 0)

pub number_past : (w : List ℕ) (v i : ℕ) → i ≡ length w → number v (drop i w) ≡ v
unfolding number
number_past w v i h = rw (h, drop-length)

pub number-digit : (w : List ℕ) (v i : ℕ) → i < length w → is_digit (get_or w i 0) ≡ true → number v (drop i w) ≡ number (v * 10 + (get_or w i 0 - 48)) (drop (i + 1) w)
number-digit w v i h d = number-from w v i h ∙ ap (λ (b : Bool). cond b (number (v * 10 + (get_or w i 0 - 48)) (drop (i + 1) w)) v) d

pub number-other : (w : List ℕ) (v i : ℕ) → i < length w → is_digit (get_or w i 0) ≡ false → number v (drop i w) ≡ v
number-other w v i h d = number-from w v i h ∙ ap (λ (b : Bool). cond b (number (v * 10 + (get_or w i 0 - 48)) (drop (i + 1) w)) v) d

-- a digit is 48 at least
pub digit_low : (b : ℕ) → is_digit b ≡ true → 48 ≤ b
unfolding is_digit
digit_low b h = leb-true 48 b (and-true-l (leb 48 b) (ltb b 58) h)

-- a number held to a bound before its last digits as well as after them
step : (v d most : ℕ) → min (min v most * 10 + d) most ≡ min (v * 10 + d) most
step v d most = omega arith

twice : (v most : ℕ) → min (min v most) most ≡ min v most
twice v most = omega arith

pub capped : (w : List ℕ) (v most : ℕ) → min (number (min v most) w) most ≡ min (number v w) most
unfolding number
capped [] v most = twice v most
capped (b ∷ w) v most = go (is_digit b) (λ k. capped w k most)
  where
    go : (x : Bool) → ((k : ℕ) → min (number (min k most) w) most ≡ min (number k w) most)
        → min (cond x (number (min v most * 10 + (b - 48)) w) (min v most)) most ≡ min (cond x (number (v * 10 + (b - 48)) w) v) most
    go true ih =
        sym (ih (min v most * 10 + (b - 48))) ∙ ap (λ (z : ℕ). min (number z w) most) (step v (b - 48) most) ∙ ih (v * 10 + (b - 48))
    go false ih = twice v most

-- ---- parts of a row
pub after-drop : (w : List ℕ) (n : ℕ) → take (length w - n) (drop n w) ≡ drop n w
after-drop w n = take_all (length w - n) (drop n w) (le_of_eq (length-drop n w))

pub none_after : (w : List ℕ) → length w ≤ 0 → w ≡ drop 1 w
none_after [] h = refl
none_after (b ∷ w) h = absurd (omega arith)

pub unsigned-plus : (w : List ℕ) → lead w ≡ 43 → unsigned w ≡ drop 1 w
unfolding unsigned is_sign
unsigned-plus w h = rw h

pub unsigned-minus : (w : List ℕ) → lead w ≡ 45 → unsigned w ≡ drop 1 w
unfolding unsigned is_sign
unsigned-minus w h = rw h

pub unsigned-none : (w : List ℕ) → (lead w ≡ 43 → ⊥) → (lead w ≡ 45 → ⊥) → unsigned w ≡ w
unfolding unsigned is_sign
unsigned-none w h k = rw (ne_eqb (lead w) 43 h, ne_eqb (lead w) 45 k)

pub after_point-yes : (w : List ℕ) → has_point w ≡ true → after_point w ≡ drop 1 (rest w)
unfolding after_point
after_point-yes w h = rw h

pub after_point-no : (w : List ℕ) → has_point w ≡ false → after_point w ≡ []
unfolding after_point
after_point-no w h = rw h

pub mark-yes : (w : List ℕ) → has_point w ≡ true → mark w ≡ past (after_point w)
unfolding mark
mark-yes w h = rw h

pub mark-no : (w : List ℕ) → has_point w ≡ false → mark w ≡ rest w
unfolding mark
mark-no w h = rw h

-- ---- the numbers of a word, held to their bounds
pub digits-is : (w u a : List ℕ) (x r : ℕ) → u ≡ unsigned w → a ≡ after_point w → x ≡ min (number 0 u) (10 ^ 18) → r ≡ min (number x a) (10 ^ 18) → r ≡ min (digits w) (10 ^ 18)
unfolding digits
digits-is w u a x r U A X R =
    R ∙ ap (λ (z : ℕ). min (number z a) (10 ^ 18)) X ∙ capped a (number 0 u) (10 ^ 18)
    ∙ ap (λ (l : List ℕ). min (number (number 0 l) a) (10 ^ 18)) U ∙ ap (λ (l : List ℕ). min (number (number 0 (unsigned w)) l) (10 ^ 18)) A

pub exponent-is : (w p u : List ℕ) (r : ℕ) → p ≡ power w → u ≡ unsigned p → r ≡ min (number 0 u) 1000 → r ≡ min (exponent w) 1000
unfolding exponent
exponent-is w p u r P U R = R ∙ ap (λ (l : List ℕ). min (number 0 l) 1000) (U ∙ ap unsigned P)

pub power-not : (w m : List ℕ) (b : ℕ) (l : Bool) → m ≡ mark w → b ≡ lead m → l ≡ (eqb b 101 || eqb b 69) → not l ≡ true → false ≡ is_power w
unfolding is_power
power-not w m b l M B L h =
    let e : (eqb (lead (mark w)) 101 || eqb (lead (mark w)) 69) ≡ false = sym (ap (λ (z : ℕ). eqb z 101 || eqb z 69) (B ∙ ap lead M)) ∙ sym L ∙ not-true l h in
    rw e

pub power-is : (w m p u : List ℕ) (b : ℕ) (l r : Bool) → m ≡ mark w → b ≡ lead m → l ≡ (eqb b 101 || eqb b 69) → not l ≡ false
    → p ≡ power w → u ≡ unsigned p → r ≡ (ltb 0 (length u) && eqb (run u) (length u)) → r ≡ is_power w
unfolding is_power
power-is w m p u b l r M B L h P U R =
    let e : (eqb (lead (mark w)) 101 || eqb (lead (mark w)) 69) ≡ true = sym (ap (λ (z : ℕ). eqb z 101 || eqb z 69) (B ∙ ap lead M)) ∙ sym L ∙ not-false l h in
    rw e (R ∙ ap (λ (z : List ℕ). ltb 0 (length z) && eqb (run z) (length z)) (U ∙ ap unsigned P))

pub decimal-none : (w : List ℕ) (d : Bool) → d ≡ ltb 0 (run (unsigned w) + run (after_point w)) → not d ≡ true → false ≡ is_decimal w
unfolding is_decimal
decimal-none w d D h = rw (sym D ∙ not-true d h)

pub decimal-power : (w : List ℕ) (d x : Bool) → d ≡ ltb 0 (run (unsigned w) + run (after_point w)) → not d ≡ false → x ≡ is_power w → x ≡ true → true ≡ is_decimal w
unfolding is_decimal
decimal-power w d x D h X k = rw (sym D ∙ not-false d h, sym X ∙ k)

pub decimal-bare : (w : List ℕ) (d x p : Bool) → d ≡ ltb 0 (run (unsigned w) + run (after_point w)) → not d ≡ false → x ≡ is_power w → x ≡ false → p ≡ has_point w → not p ≡ true → false ≡ is_decimal w
unfolding is_decimal
decimal-bare w d x p D h X k Q j = rw (sym D ∙ not-false d h, sym X ∙ k, sym Q ∙ not-true p j)

pub decimal-point : (w m : List ℕ) (d x p : Bool) → d ≡ ltb 0 (run (unsigned w) + run (after_point w)) → not d ≡ false → x ≡ is_power w → x ≡ false → p ≡ has_point w → not p ≡ false → m ≡ mark w
    → eqb (length m) 0 ≡ is_decimal w
unfolding is_decimal
decimal-point w m d x p D h X k Q j M = rw (sym D ∙ not-false d h, sym X ∙ k, sym Q ∙ not-false p j, M)
