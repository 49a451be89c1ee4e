-- The number in a key, read digit by digit. Assumes nothing.
use mathlib.Core.Path.{◌≡◌, refl, sym, ◌∙◌}
use mathlib.Core.Bool.{Bool, true, false, cond, ◌&&◌}
use mathlib.Core.List.{List, [], ◌∷◌}
use Prim.Native.Nat.{ℕ, ◌+◌, ◌-◌, ◌*◌, ◌/◌, ◌≤◌, ◌<◌}
use native.Mathlib.Nat.{sub-zero}
use native.Mathlib.Decide.{dec_lt}
use native.Mathlib.Numerals.{add-one}
use native.Mathlib.Omega.{arith}
use lib.Dec.{eqb, ltb, leb}
use lib.ListN.{length, get_or, take, drop, length-take, length-drop, drop_of_length-le}
use lib.Seq.{drop-cons, take-length}
use borrow.Author.Tests.{leb-true, lt-ltb, le-ltb, le-leb, lt-leb, ne_eqb}
use Rattle.list.proofs.Bools.{and-true-l}
use Rattle.source_key.specs.Bytes.{same_bytes}
use Rattle.source_key.specs.Numbered.{is_digit, longer, read_on, number_then, is_numbered}
use Rattle.source_key.proofs.Bytes.{same-lengths}

pub digit-from : (b : ℕ) → is_digit b ≡ true → 48 ≤ b
digit-from b h = leb-true 48 b (and-true-l (leb 48 b) (leb b 57) h)

-- a part up to the end
pub rest_from : (l : List ℕ) (i : ℕ) → take (length l - i) (drop i l) ≡ drop i l
rest_from l i = rw (← length-drop i l) (take-length (drop i l))

-- whether one digit more is too much
pub above-by-tenth : (n d v : ℕ) → d ≤ n → ltb ((n - d) / 10) v ≡ ltb n (v * 10 + d)
above-by-tenth n d v h =
    elim (dec_lt n (v * 10 + d)) [
      | yes b ↦ lt-ltb ((n - d) / 10) v (omega arith) ∙ sym (lt-ltb n (v * 10 + d) b)
      | no b ↦ le-ltb ((n - d) / 10) v (omega arith) ∙ sym (le-ltb n (v * 10 + d) (omega arith))
    ]

-- above n, more digits do not help
pub read_above : (n : ℕ) (after : List ℕ) (v : ℕ) (bs : List ℕ) → n < v → read_on n after v bs ≡ false
unfolding read_on
read_above n after v [] h = rw (lt-leb v n h)
read_above n after v (b ∷ bs) h =
    rw (read_above n after (longer v b) bs (omega arith), lt-leb v n h) (neither (is_digit b))
  where
    neither : (t : Bool) → cond t false false ≡ false
    neither true = refl
    neither false = refl

module _ (n : ℕ) (after : List ℕ) (v : ℕ) (rest : List ℕ) (i : ℕ) where
  pub read-digit : i < length rest → is_digit (get_or rest i 0) ≡ true → read_on n after v (drop i rest) ≡ read_on n after (longer v (get_or rest i 0)) (drop (i + 1) rest)
  unfolding read_on
  read-digit h d = rw (add-one, drop-cons rest i 0 h, d)

  pub read-other : i < length rest → v ≤ n → is_digit (get_or rest i 0) ≡ false → read_on n after v (drop i rest) ≡ same_bytes (drop i rest) after
  unfolding read_on
  read-other h l d = rw (drop-cons rest i 0 h, d, le-leb v n l)

  pub read-end : length rest ≤ i → v ≤ n → read_on n after v (drop i rest) ≡ same_bytes [] after
  unfolding read_on
  read-end h l = rw (drop_of_length-le rest h, le-leb v n l)

pub empty-after : (after : List ℕ) → eqb (length after) 0 ≡ same_bytes [] after
unfolding same_bytes
empty-after [] = refl
empty-after (b ∷ bs) = ne_eqb (length (b ∷ bs)) 0 (λ h. omega arith)

-- the number's first digit
pub number-first : (n : ℕ) (after rest : List ℕ) → 0 < length rest → number_then n after rest ≡ ((leb 49 (get_or rest 0 0) && leb (get_or rest 0 0) 57) && read_on n after 0 rest)
unfolding number_then
number-first n after [] h = absurd (omega arith)
number-first n after (b ∷ bs) h = refl

pub number-none : (n : ℕ) (after rest : List ℕ) → length rest ≡ 0 → number_then n after rest ≡ false
unfolding number_then
number-none n after [] h = refl
number-none n after (b ∷ bs) h = absurd (omega arith)

-- a key that is shorter than the word
pub numbered-short : (word after key : List ℕ) (n : ℕ) → length key < length word → is_numbered word after n key ≡ false
unfolding is_numbered
numbered-short word after key n h =
    let differ : same_bytes word (take (length word) key) ≡ false = same-lengths word (take (length word) key) (λ q. omega (arith, length-take (length word) key)) in
    rw differ

-- a key with another word, and one with the word
module _ (word after key : List ℕ) (n : ℕ) where
  pub numbered-other : same_bytes word (take (length word) key) ≡ false → is_numbered word after n key ≡ false
  unfolding is_numbered
  numbered-other h = rw h

  pub numbered-same : same_bytes word (take (length word) key) ≡ true → is_numbered word after n key ≡ number_then n after (drop (length word) key)
  unfolding is_numbered
  numbered-same h = rw h
