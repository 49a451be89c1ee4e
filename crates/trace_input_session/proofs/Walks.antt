-- Laws on the words of a line, read from one place to the next. Assumes nothing.
use mathlib.Core.Path.{◌≡◌, refl, ap, sym, ◌∙◌}
use mathlib.Core.Bool.{Bool, true, false}
use mathlib.Core.List.{List, [], ◌∷◌, ◌++◌, append_assoc, append-nil}
use Prim.Native.Nat.{ℕ, suc, ◌+◌, ◌-◌, ◌<◌, ◌≤◌}
use native.Mathlib.Numerals.{add-one}
use native.Mathlib.Omega.{arith}
use lib.Dec.{ltb}
use borrow.Author.Tests.{ltb-true, ltb-false, le-ltb, eq-eqb, ne_eqb}
use lib.ListN.{length, take, drop, get_or, length-drop, drop_of_length-le}
use lib.Seq.{drop-cons, drop-drop, take-suc, take_all, get_or-drop}
use Rattle.trace_input_session.specs.Words.{same_bytes}
use Rattle.trace_input_session.specs.Lines.{is_blank, word_from, words_from, words_of, index_of, before_of, after_of, part_of, Skipped, Stopped, Passed, Placed, Found}

-- at a blank
pub blank-at : (l : List ℕ) (i : ℕ) (inside : Bool) → i < length l → is_blank (get_or l i 0) ≡ true → words_from inside (drop i l) ≡ words_of (drop (i + 1) l)
unfolding words_from
blank-at l i inside h e = rw (add-one, drop-cons l i 0, e)

-- at any other byte, inside a word
pub inside-at : (l : List ℕ) (i : ℕ) → i < length l → is_blank (get_or l i 0) ≡ false → words_from true (drop i l) ≡ words_from true (drop (i + 1) l)
unfolding words_from
inside-at l i h e = rw (add-one, drop-cons l i 0, e)

-- at the first byte of a word
pub word-begins : (l : List ℕ) (i : ℕ) → i < length l → is_blank (get_or l i 0) ≡ false → words_of (drop i l) ≡ word_from (drop i l) ∷ words_from true (drop i l)
unfolding words_from word_from
word-begins l i h e = rw (drop-cons l i 0, e)

-- past the end
pub words-past : (l : List ℕ) (i : ℕ) (inside : Bool) → length l ≤ i → words_from inside (drop i l) ≡ []
unfolding words_from
words-past l i inside h = rw (drop_of_length-le l h)

pub word-past : (l : List ℕ) (i : ℕ) → length l ≤ i → word_from (drop i l) ≡ []
unfolding word_from
word-past l i h = rw (drop_of_length-le l h)

-- the words after the one that begins at a place
pub words-after : (l : List ℕ) (i : ℕ) → (i < length l → is_blank (get_or l i 0) ≡ false) → i ≤ length l → words_from true (drop i l) ≡ drop 1 (words_of (drop i l))
words-after l i e h = by-test (ltb i (length l)) refl
  where
    by-test : (t : Bool) → ltb i (length l) ≡ t → words_from true (drop i l) ≡ drop 1 (words_of (drop i l))
    by-test true p = rw (word-begins l i (ltb-true i (length l) p) (e (ltb-true i (length l) p)))
    by-test false p = rw (words-past l i true (ltb-false i (length l) p), words-past l i false (ltb-false i (length l) p))

-- a word at any other byte than a blank, and at a blank
goes_on : (l : List ℕ) (i : ℕ) → i < length l → is_blank (get_or l i 0) ≡ false → word_from (drop i l) ≡ get_or l i 0 ∷ word_from (drop (i + 1) l)
unfolding word_from
goes_on l i h e = rw (add-one, drop-cons l i 0, e)

stops : (l : List ℕ) (i : ℕ) → i < length l → is_blank (get_or l i 0) ≡ true → word_from (drop i l) ≡ []
unfolding word_from
stops l i h e = rw (drop-cons l i 0, e)

-- a word that has been read from `from` to before i goes on at i, or ends there
pub word_more : (l : List ℕ) (from i : ℕ) (w : List ℕ) → from ≤ i → i < length l → is_blank (get_or l i 0) ≡ false → take (i - from) (drop from l) ++ word_from (drop i l) ≡ w → take (i + 1 - from) (drop from l) ++ word_from (drop (i + 1) l) ≡ w
word_more l from i w le h e inv =
    let d : i + 1 - from ≡ suc (i - from) = omega arith in
    let k : i - from < length (drop from l) = simp length-drop (omega arith) in
    let n : from + (i - from) ≡ i = omega arith in
    let g : get_or (drop from l) (i - from) 0 ≡ get_or l i 0 = get_or-drop from l (i - from) 0 ∙ ap (λ (m : ℕ). get_or l m 0) n in
    let t : take (suc (i - from)) (drop from l) ≡ take (i - from) (drop from l) ++ (get_or l i 0 ∷ []) = take-suc (drop from l) (i - from) 0 k ∙ ap (λ (x : ℕ). take (i - from) (drop from l) ++ (x ∷ [])) g in
    rw (d, t, append_assoc) (ap (λ (x : List ℕ). take (i - from) (drop from l) ++ x) (sym (goes_on l i h e)) ∙ inv)

pub word-stops : (l : List ℕ) (from i : ℕ) (w : List ℕ) → i < length l → is_blank (get_or l i 0) ≡ true → take (i - from) (drop from l) ++ word_from (drop i l) ≡ w → take (i - from) (drop from l) ≡ w
word-stops l from i w h e inv =
    sym (append-nil (take (i - from) (drop from l))) ∙ ap (λ (x : List ℕ). take (i - from) (drop from l) ++ x) (sym (stops l i h e)) ∙ inv

pub word-ends : (l : List ℕ) (from i : ℕ) (w : List ℕ) → from ≤ i → length l ≤ i → take (i - from) (drop from l) ++ word_from (drop i l) ≡ w → take (length l - from) (drop from l) ≡ w
word-ends l from i w le h inv =
    let a : length (drop from l) ≤ length l - from = simp length-drop (omega arith) in
    let b : length (drop from l) ≤ i - from = simp length-drop (omega arith) in
    take_all (length l - from) (drop from l) a
    ∙ sym (take_all (i - from) (drop from l) b)
    ∙ sym (append-nil (take (i - from) (drop from l)))
    ∙ ap (λ (x : List ℕ). take (i - from) (drop from l) ++ x) (sym (word-past l i h))
    ∙ inv

pub word-starts : (l : List ℕ) (from : ℕ) → take (from - from) (drop from l) ++ word_from (drop from l) ≡ word_from (drop from l)
word-starts l from = let z : from - from ≡ 0 = omega arith in rw z

-- word n by the words from its place on
pub word_of : (l : List ℕ) (ws : List (List ℕ)) (i n : ℕ) → (i < length l → is_blank (get_or l i 0) ≡ false) → i ≤ length l → words_of (drop i l) ≡ drop n ws → word_from (drop i l) ≡ get_or ws n []
word_of l ws i n e h d = by-test (ltb i (length l)) refl
  where
    first : (vs : List (List ℕ)) (k : ℕ) → get_or vs k [] ≡ get_or (drop k vs) 0 []
    first vs k = sym (get_or-drop k vs 0 [] ∙ ap (λ (m : ℕ). get_or vs m []) (omega arith))

    by-test : (t : Bool) → ltb i (length l) ≡ t → word_from (drop i l) ≡ get_or ws n []
    by-test true p =
        let b = word-begins l i (ltb-true i (length l) p) (e (ltb-true i (length l) p)) in
        sym (first ws n ∙ ap (λ (vs : List (List ℕ)). get_or vs 0 []) (sym d ∙ b))
    by-test false p =
        let b = words-past l i false (ltb-false i (length l) p) in
        word-past l i (ltb-false i (length l) p) ∙ sym (first ws n ∙ ap (λ (vs : List (List ℕ)). get_or vs 0 []) (sym d ∙ b))

-- where a word stands in a list, by the list's first
at_once : (w v : List ℕ) (vs : List (List ℕ)) → same_bytes v w ≡ true → index_of (v ∷ vs) w ≡ 0
unfolding index_of
at_once w v vs s = rw s

later : (w v : List ℕ) (vs : List (List ℕ)) → same_bytes v w ≡ false → index_of (v ∷ vs) w ≡ suc (index_of vs w)
unfolding index_of
later w v vs s = rw s

-- where a word stands in a list of which those before the place i are passed
pub index-here : (l : List ℕ) (w : List ℕ) (i : ℕ) → i < length l → is_blank (get_or l i 0) ≡ false → same_bytes (word_from (drop i l)) w ≡ true → index_of (words_of (drop i l)) w ≡ 0
index-here l w i h e s = rw (word-begins l i h e) (at_once w (word_from (drop i l)) (words_from true (drop i l)) s)

pub index-later : (l : List ℕ) (w : List ℕ) (i : ℕ) → i < length l → is_blank (get_or l i 0) ≡ false → same_bytes (word_from (drop i l)) w ≡ false → index_of (words_of (drop i l)) w ≡ suc (index_of (words_from true (drop i l)) w)
index-later l w i h e s = rw (word-begins l i h e) (later w (word_from (drop i l)) (words_from true (drop i l)) s)

pub index-past : (l : List ℕ) (w : List ℕ) (i : ℕ) → length l ≤ i → index_of (words_of (drop i l)) w ≡ 0
unfolding index_of
index-past l w i h = rw (words-past l i false h)

-- how many words there are from a place on
pub count-more : (l : List ℕ) (i : ℕ) → i < length l → is_blank (get_or l i 0) ≡ false → length (words_of (drop i l)) ≡ suc (length (words_from true (drop i l)))
count-more l i h e = rw (word-begins l i h e)

pub count_past : (l : List ℕ) (i : ℕ) → length l ≤ i → length (words_of (drop i l)) ≡ 0
count_past l i h = rw (words-past l i false h)

-- the first b, of which those before the place i are passed
pub before_more : (l : List ℕ) (b i : ℕ) → i < length l → (get_or l i 0 ≡ b → ⊥) → take i l ++ before_of b (drop i l) ≡ take (i + 1) l ++ before_of b (drop (i + 1) l)
unfolding before_of
before_more l b i h e = rw (add-one, take-suc l i 0, append_assoc, drop-cons l i 0, ne_eqb _ _ e)

pub before_here : (l : List ℕ) (b i : ℕ) → i < length l → get_or l i 0 ≡ b → before_of b (drop i l) ≡ []
unfolding before_of
before_here l b i h e = rw (drop-cons l i 0, eq-eqb _ _ e)

pub before-past : (l : List ℕ) (b i : ℕ) → length l ≤ i → before_of b (drop i l) ≡ []
unfolding before_of
before-past l b i h = rw (drop_of_length-le l h)

pub after_more : (l : List ℕ) (b i : ℕ) → i < length l → (get_or l i 0 ≡ b → ⊥) → after_of b (drop i l) ≡ after_of b (drop (i + 1) l)
unfolding after_of
after_more l b i h e = rw (add-one, drop-cons l i 0, ne_eqb _ _ e)

pub after-here : (l : List ℕ) (b i : ℕ) → i < length l → get_or l i 0 ≡ b → after_of b (drop i l) ≡ drop (i + 1) l
unfolding after_of
after-here l b i h e = rw (add-one, drop-cons l i 0, eq-eqb _ _ e)

pub after-past : (l : List ℕ) (b i : ℕ) → length l ≤ i → after_of b (drop i l) ≡ []
unfolding after_of
after-past l b i h = rw (drop_of_length-le l h)

-- ---- what a walk from place to place comes to

pub passed : (l : List ℕ) (at m r : ℕ) → Stopped l at m → Skipped l m r → Passed l at r
passed l at m r s k =
    record { within = k.within; onward = λ h. by-test (ltb at r) refl h; begun = k.begun; rest = k.rest ∙ s.rest }
  where
    by-test : (t : Bool) → ltb at r ≡ t → at < length l → at < r
    by-test true p h = ltb-true at r p
    by-test false p h =
        let le : r ≤ at = ltb-false at r p in
        let a : at ≤ m = s.onward (omega arith) in
        let b : m ≤ r = k.onward s.within in
        let e : m ≡ r = omega arith in
        let x : is_blank (get_or l m 0) ≡ true = s.ended (omega arith) in
        let y : is_blank (get_or l r 0) ≡ false = k.begun (omega arith) in
        let z : ◌≡◌ {A = ℕ} 0 1 = cc in
        absurd (omega arith)

pub word-part : (l : List ℕ) (at m : ℕ) → Stopped l at m → part_of l at m ≡ word_from (drop at l)
unfolding part_of
word-part l at m s = rw (le-ltb (length l) m s.within) s.word

pub before-part : (l : List ℕ) (b r : ℕ) → Found l b r → part_of l 0 r ≡ before_of b l
unfolding part_of
before-part l b r f = let z : r - 0 ≡ r = omega arith in rw (le-ltb (length l) r f.within, z) f.first

pub after_none : (l : List ℕ) (b r : ℕ) → Found l b r → length l ≤ r → [] ≡ after_of b l
after_none l b r f h = let p : length l ≤ r + 1 = omega arith in sym (drop_of_length-le l p) ∙ f.then

pub after-part : (l : List ℕ) (b r : ℕ) → Found l b r → part_of l (r + 1) (length l) ≡ after_of b l
unfolding part_of
after-part l b r f =
    let h : length l ≤ length l = omega arith in
    let k : length (drop (r + 1) l) ≤ length l - (r + 1) = simp length-drop (omega arith) in
    rw (le-ltb (length l) (length l) h) (take_all (length l - (r + 1)) (drop (r + 1) l) k ∙ f.then)

pub count-starts : (l : List ℕ) (p : ℕ) → Skipped l 0 p → 0 + length (words_of (drop p l)) ≡ length (words_of l)
count-starts l p k = let e : length (words_of (drop p l)) ≡ length (words_of l) = ap length k.rest in omega arith

pub count-step : (l : List ℕ) (p r n total : ℕ) → p < length l → (p < length l → is_blank (get_or l p 0) ≡ false) → Passed l p r → n + length (words_of (drop p l)) ≡ total → n + 1 + length (words_of (drop r l)) ≡ total
count-step l p r n total h e s inv =
    let a = count-more l p h (e h) in
    let b : length (words_of (drop r l)) ≡ length (words_from true (drop p l)) = ap length s.rest in
    omega (arith, a)

pub index-starts : (l w : List ℕ) (p : ℕ) → Skipped l 0 p → 0 + index_of (words_of (drop p l)) w ≡ index_of (words_of l) w
index-starts l w p k = let e : index_of (words_of (drop p l)) w ≡ index_of (words_of l) w = ap (λ (vs : List (List ℕ)). index_of vs w) k.rest in omega arith

pub index-found : (l w v : List ℕ) (p k total : ℕ) → p < length l → (p < length l → is_blank (get_or l p 0) ≡ false) → v ≡ word_from (drop p l) → same_bytes v w ≡ true → k + index_of (words_of (drop p l)) w ≡ total → k ≡ total
index-found l w v p k total h e i s inv =
    let a = index-here l w p h (e h) (ap (λ (u : List ℕ). same_bytes u w) (sym i) ∙ s) in
    omega (arith, a)

pub index-step : (l w v : List ℕ) (p r k total : ℕ) → p < length l → (p < length l → is_blank (get_or l p 0) ≡ false) → v ≡ word_from (drop p l) → same_bytes v w ≡ false → Passed l p r → k + index_of (words_of (drop p l)) w ≡ total → k + 1 + index_of (words_of (drop r l)) w ≡ total
index-step l w v p r k total h e i s q inv =
    let a = index-later l w p h (e h) (ap (λ (u : List ℕ). same_bytes u w) (sym i) ∙ s) in
    let b : index_of (words_of (drop r l)) w ≡ index_of (words_from true (drop p l)) w = ap (λ (vs : List (List ℕ)). index_of vs w) q.rest in
    omega (arith, a)

pub index-ends : (l w : List ℕ) (p k total : ℕ) → length l ≤ p → k + index_of (words_of (drop p l)) w ≡ total → k ≡ total
index-ends l w p k total h inv = let a = index-past l w p h in omega (arith, a)

pub place-step : (l : List ℕ) (at r k : ℕ) → at ≤ length l → (at < length l → is_blank (get_or l at 0) ≡ false) → Passed l at r → words_of (drop at l) ≡ drop k (words_of l) → words_of (drop r l) ≡ drop (k + 1) (words_of l)
place-step l at r k h e s inv =
    s.rest ∙ words-after l at e h ∙ ap (λ (vs : List (List ℕ)). drop 1 vs) inv ∙ drop-drop 1 k (words_of l)

pub placed : (l : List ℕ) (at k n : ℕ) → at ≤ length l → (at < length l → is_blank (get_or l at 0) ≡ false) → words_of (drop at l) ≡ drop k (words_of l) → k ≡ n → Placed l n at
placed l at k n h e inv same =
    record { within = h; begun = e; rest = inv ∙ ap (λ (m : ℕ). drop m (words_of l)) same }
