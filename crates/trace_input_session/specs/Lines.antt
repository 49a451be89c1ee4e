-- The words of a line, and the parts of a word. Definitions only.
use Rattle.std.specs.Prelude.{◌≡◌, refl, Bool, true, false, cond, List, [], ◌∷◌, ℕ, suc, ◌+◌, ◌-◌, ◌<◌, ◌≤◌, ltb, eqb, length, take, drop, get_or}
use Rattle.trace_input_session.specs.Words.{same_bytes}

-- a blank parts words: space, tab, line feed, vertical tab, form feed, carriage return
unfoldable pub is_blank : ℕ → Bool
is_blank b = cond (eqb b 32) true (cond (ltb b 9) false (ltb b 14))

-- the bytes up to the first blank
unfoldable pub word_from : List ℕ → List ℕ
word_from [] = []
word_from (b ∷ l) = cond (is_blank b) [] (b ∷ word_from l)

-- the words that begin in a text; where it begins inside a word, that one is left out
unfoldable pub words_from : Bool → List ℕ → List (List ℕ)
words_from inside [] = []
words_from inside (b ∷ l) =
    cond (is_blank b) (words_from false l)
    (cond inside (words_from true l) ((b ∷ word_from l) ∷ words_from true l))

-- the words of a line
abbrev pub words_of : List ℕ → List (List ℕ)
words_of l = words_from false l

-- " a\tbc " has the words "a" and "bc"
example-words : words_of (32 ∷ 97 ∷ 9 ∷ 98 ∷ 99 ∷ 32 ∷ []) ≡ (97 ∷ []) ∷ (98 ∷ 99 ∷ []) ∷ []
unfolding words_from word_from is_blank
example-words = refl

-- the place of a word in a list; how many there are where it is none of them
unfoldable pub index_of : List (List ℕ) → List ℕ → ℕ
index_of [] w = 0
index_of (v ∷ vs) w = cond (same_bytes v w) 0 (suc (index_of vs w))

-- what stands before the first b; all where there is none
unfoldable pub before_of : ℕ → List ℕ → List ℕ
before_of b [] = []
before_of b (c ∷ w) = cond (eqb c b) [] (c ∷ before_of b w)

-- what stands after the first b; nothing where there is none
unfoldable pub after_of : ℕ → List ℕ → List ℕ
after_of b [] = []
after_of b (c ∷ w) = cond (eqb c b) w (after_of b w)

-- the bytes from `at` to before `end`; none where the end is past the text's
unfoldable pub part_of : List ℕ → ℕ → ℕ → List ℕ
part_of s at end = cond (ltb (length s) end) [] (take (end - at) (drop at s))

-- r is the first place of l from `from` on that is no blank
pub record Skipped (l : List ℕ) (from r : ℕ) : Type 0 where
  pub within : r ≤ length l
  pub onward : from ≤ length l → from ≤ r
  pub begun : r < length l → is_blank (get_or l r 0) ≡ false
  pub rest : words_of (drop r l) ≡ words_of (drop from l)

-- r is the first place of l from `from` on that is a blank
pub record Stopped (l : List ℕ) (from r : ℕ) : Type 0 where
  pub within : r ≤ length l
  pub onward : from ≤ length l → from ≤ r
  pub ended : r < length l → is_blank (get_or l r 0) ≡ true
  pub word : take (r - from) (drop from l) ≡ word_from (drop from l)
  pub rest : words_of (drop r l) ≡ words_from true (drop from l)

-- the word after the one at `at` begins at r
pub record Passed (l : List ℕ) (at r : ℕ) : Type 0 where
  pub within : r ≤ length l
  pub onward : at < length l → at < r
  pub begun : r < length l → is_blank (get_or l r 0) ≡ false
  pub rest : words_of (drop r l) ≡ words_from true (drop at l)

-- word n begins at r
pub record Placed (l : List ℕ) (n r : ℕ) : Type 0 where
  pub within : r ≤ length l
  pub begun : r < length l → is_blank (get_or l r 0) ≡ false
  pub rest : words_of (drop r l) ≡ drop n (words_of l)

-- r is the first place of b
pub record Found (s : List ℕ) (b r : ℕ) : Type 0 where
  pub within : r ≤ length s
  pub first : take r s ≡ before_of b s
  pub then : drop (r + 1) s ≡ after_of b s
