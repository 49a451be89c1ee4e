-- Laws on the rest of a line, word by word. Assumes nothing.
use mathlib.Core.Path.{◌≡◌, refl, ap, sym, ◌∙◌}
use mathlib.Core.Bool.{Bool, true, false, cond, ◌&&◌}
use mathlib.Core.List.{List, [], ◌∷◌, ◌++◌}
use Prim.Native.Nat.{ℕ, zero, suc, ◌+◌, ◌*◌, ◌<◌, ◌≤◌}
use native.Mathlib.Omega.{arith}
use borrow.Author.Tests.{ltb-true, ltb-false, lt-ltb, le-ltb, eq-eqb, ne_eqb, eqb-true}
use lib.Dec.{ltb, eqb}
use lib.Seq.{drop-cons}
use lib.ListN.{length, drop, get_or, get_or-eq_default, get_or-append}
use Rattle.std.proofs.lemmas.List.{get_or-append-add}
use Rattle.trace_input_session.specs.Lines.{is_blank, word_from, words_from, words_of, index_of, Passed, Skipped}
use Rattle.trace_input_session.specs.Words.{same_bytes}
use Rattle.trace_input_session.proofs.Walks.{word-begins, words-past}
use Rattle.trace_grammar_kinds.specs.Kinds.{fits, class_of}
use Rattle.trace_grammar_kinds.specs.Texts.{commands, specs, samples}
use Rattle.trace_grammar_kinds.specs.declared.Kind.{Kind}
use Rattle.trace_grammar_kinds.specs.declared.Kind.TheVariants.{End, Command}
use Rattle.trace_grammar.specs.Grammar.{table, kind_at, after_class, rest_of, is_comment, line_of_words, line_of}
use Rattle.trace_grammar.specs.Commands.{command_at, command_list}
use Rattle.trace_grammar.specs.declared.Command.TheVariants.{Standard}
use Rattle.trace_grammar.specs.declared.Command as command
use Rattle.trace_grammar.specs.declared.Line.{Line}
use Rattle.trace_grammar.specs.declared.Line.TheVariants.{Nothing, Wrong}

-- a word that fits, and one that does not
fits_on : (s k : ℕ) (c : command.Command) (w : List ℕ) (ws : List (List ℕ)) → fits (kind_at s) w ≡ true → rest_of s k c (w ∷ ws) ≡ rest_of (after_class (class_of (kind_at s)) s w) (k + 1) c ws
unfolding rest_of
fits_on s k c w ws e = rw e

stops-here : (s k : ℕ) (c : command.Command) (w : List ℕ) (ws : List (List ℕ)) → fits (kind_at s) w ≡ false → rest_of s k c (w ∷ ws) ≡ Wrong (k + 1) (kind_at s)
unfolding rest_of
stops-here s k c w ws e = rw e

-- the same at a place of the line, with what the calls there answer
pub rest-on : (l : List ℕ) (s k p r t : ℕ) (c : command.Command) (κ : Kind) (w : List ℕ) (x : Line) → p < length l → (p < length l → is_blank (get_or l p 0) ≡ false) → w ≡ word_from (drop p l) → κ ≡ kind_at s → fits κ w ≡ true → t ≡ after_class (class_of κ) s w → Passed l p r → rest_of s k c (words_of (drop p l)) ≡ x → rest_of t (k + 1) c (words_of (drop r l)) ≡ x
rest-on l s k p r t c κ w x h e i o f a q inv =
    let words : words_of (drop p l) ≡ w ∷ words_of (drop r l) = word-begins l p h (e h) ∙ ap (λ (v : List ℕ). v ∷ words_from true (drop p l)) (sym i) ∙ ap (λ (vs : List (List ℕ)). w ∷ vs) (sym q.rest) in
    let fit : fits (kind_at s) w ≡ true = ap (λ (y : Kind). fits y w) (sym o) ∙ f in
    let place : t ≡ after_class (class_of (kind_at s)) s w = a ∙ ap (λ (y : Kind). after_class (class_of y) s w) o in
    ap (λ (m : ℕ). rest_of m (k + 1) c (words_of (drop r l))) place
    ∙ sym (fits_on s k c w (words_of (drop r l)) fit)
    ∙ ap (λ (vs : List (List ℕ)). rest_of s k c vs) (sym words)
    ∙ inv

pub rest-wrong : (l : List ℕ) (s k p : ℕ) (c : command.Command) (κ : Kind) (w : List ℕ) (x : Line) → p < length l → (p < length l → is_blank (get_or l p 0) ≡ false) → w ≡ word_from (drop p l) → κ ≡ kind_at s → fits κ w ≡ false → rest_of s k c (words_of (drop p l)) ≡ x → Wrong (k + 1) κ ≡ x
rest-wrong l s k p c κ w x h e i o f inv =
    let words : words_of (drop p l) ≡ w ∷ words_from true (drop p l) = word-begins l p h (e h) ∙ ap (λ (v : List ℕ). v ∷ words_from true (drop p l)) (sym i) in
    let miss : fits (kind_at s) w ≡ false = ap (λ (y : Kind). fits y w) (sym o) ∙ f in
    ap (λ (y : Kind). Wrong (k + 1) y) o
    ∙ sym (stops-here s k c w (words_from true (drop p l)) miss)
    ∙ ap (λ (vs : List (List ℕ)). rest_of s k c vs) (sym words)
    ∙ inv

pub rest-ends : (l : List ℕ) (s k p : ℕ) (c : command.Command) (x y : Line) → length l ≤ p → y ≡ rest_of s k c [] → rest_of s k c (words_of (drop p l)) ≡ x → y ≡ x
rest-ends l s k p c x y h e inv = e ∙ ap (λ (vs : List (List ℕ)). rest_of s k c vs) (sym (words-past l p false h)) ∙ inv

-- no word fits past the table
pub inside : (s : ℕ) (κ : Kind) (w : List ℕ) → κ ≡ kind_at s → fits κ w ≡ true → s < 350
unfolding kind_at table fits
inside s κ w o f = by-test (ltb s 350) refl
  where
    past : 350 ≤ s → kind_at s ≡ End
    past h = get_or-eq_default table End h

    by-test : (t : Bool) → ltb s 350 ≡ t → s < 350
    by-test true p = ltb-true s 350 p
    by-test false p =
        let e : κ ≡ End = o ∙ past (ltb-false s 350 p) in
        let g : ◌≡◌ {A = Bool} false true = ap (λ (y : Kind). fits y w) (sym e) ∙ f in
        let z : ◌≡◌ {A = ℕ} 0 1 = cc in
        absurd (omega arith)

-- a word's place in a list is at most the list's length
pick : (b : Bool) (n m : ℕ) → n ≤ m → cond b 0 (suc n) ≤ suc m
pick true n m h = omega arith
pick false n m h = omega arith

index-within : (vs : List (List ℕ)) (w : List ℕ) → index_of vs w ≤ length vs
unfolding index_of
index-within [] w = omega arith
index-within (v ∷ vs) w = pick (same_bytes v w) (index_of vs w) (length vs) (index-within vs w)

pub specs-within : (w : List ℕ) → index_of specs w ≤ 9
unfolding words_from word_from is_blank
specs-within w = index-within specs w

pub samples-within : (w : List ℕ) → index_of samples w ≤ 2
unfolding words_from word_from is_blank
samples-within w = index-within samples w

-- the words of a line from its first on
first-words : (l : List ℕ) (at : ℕ) → Skipped l 0 at → at < length l → words_of l ≡ word_from (drop at l) ∷ words_from true (drop at l)
first-words l at k h = sym k.rest ∙ word-begins l at h (k.begun h)

first_byte : (l : List ℕ) (at : ℕ) → at < length l → is_blank (get_or l at 0) ≡ false → get_or (word_from (drop at l)) 0 0 ≡ get_or l at 0
unfolding word_from
first_byte l at h e = rw (drop-cons l at 0, e)

comment-of : (w : List ℕ) (x : ℕ) → get_or w 0 0 ≡ x → is_comment w ≡ eqb x 35
unfolding is_comment
comment-of w x e = rw e

is-comment : (w : List ℕ) (ws : List (List ℕ)) → is_comment w ≡ true → line_of_words (w ∷ ws) ≡ Nothing
unfolding line_of_words
is-comment w ws a = rw a

is-unknown : (w : List ℕ) (ws : List (List ℕ)) → is_comment w ≡ false → ltb (index_of commands w) 39 ≡ false → line_of_words (w ∷ ws) ≡ Wrong 1 Command
unfolding line_of_words
is-unknown w ws a b = rw (a, b)

is_call : (w : List ℕ) (ws : List (List ℕ)) → is_comment w ≡ false → ltb (index_of commands w) 39 ≡ true → line_of_words (w ∷ ws) ≡ rest_of (7 * index_of commands w) 1 (command_at (index_of commands w)) ws
unfolding line_of_words
is_call w ws a b = rw (a, b)

of_words : (l : List ℕ) (ws : List (List ℕ)) → words_of l ≡ ws → line_of l ≡ line_of_words ws
unfolding line_of
of_words l ws e = rw e

no_words : line_of_words [] ≡ Nothing
unfolding line_of_words
no_words = refl

pub line-blank : (l : List ℕ) (at : ℕ) → Skipped l 0 at → length l ≤ at → Nothing ≡ line_of l
line-blank l at k h = sym (of_words l [] (sym k.rest ∙ words-past l at false h) ∙ no_words)

pub line-comment : (l : List ℕ) (at : ℕ) → Skipped l 0 at → at < length l → get_or l at 0 ≡ 35 → Nothing ≡ line_of l
line-comment l at k h e =
    let a : is_comment (word_from (drop at l)) ≡ true = comment-of (word_from (drop at l)) 35 (first_byte l at h (k.begun h) ∙ e) in
    sym (of_words l _ (first-words l at k h) ∙ is-comment _ _ a)

no-comment : (l : List ℕ) (at : ℕ) → Skipped l 0 at → at < length l → (get_or l at 0 ≡ 35 → ⊥) → is_comment (word_from (drop at l)) ≡ false
no-comment l at k h e = comment-of (word_from (drop at l)) (get_or l at 0) (first_byte l at h (k.begun h)) ∙ ne_eqb (get_or l at 0) 35 e

pub line-unknown : (l w : List ℕ) (at row : ℕ) → Skipped l 0 at → at < length l → (get_or l at 0 ≡ 35 → ⊥) → w ≡ word_from (drop at l) → row ≡ index_of commands w → 39 ≤ row → Wrong 1 Command ≡ line_of l
line-unknown l w at row k h e i r past =
    let n : row ≡ index_of commands (word_from (drop at l)) = r ∙ ap (λ (v : List ℕ). index_of commands v) i in
    let b : ltb (index_of commands (word_from (drop at l))) 39 ≡ false = ap (λ (m : ℕ). ltb m 39) (sym n) ∙ le-ltb row 39 past in
    sym (of_words l _ (first-words l at k h) ∙ is-unknown _ _ (no-comment l at k h e) b)

pub line-call : (l w : List ℕ) (at row r : ℕ) (x : Line) → Skipped l 0 at → at < length l → (get_or l at 0 ≡ 35 → ⊥) → w ≡ word_from (drop at l) → row ≡ index_of commands w → row < 39 → Passed l at r → x ≡ rest_of (7 * row) 1 (command_at row) (words_of (drop r l)) → x ≡ line_of l
line-call l w at row r x k h e i s inside q y =
    let n : row ≡ index_of commands (word_from (drop at l)) = s ∙ ap (λ (v : List ℕ). index_of commands v) i in
    let b : ltb (index_of commands (word_from (drop at l))) 39 ≡ true = ap (λ (m : ℕ). ltb m 39) (sym n) ∙ lt-ltb row 39 inside in
    y
    ∙ ap (λ (m : ℕ). rest_of (7 * m) 1 (command_at m) (words_of (drop r l))) n
    ∙ ap (λ (vs : List (List ℕ)). rest_of (7 * index_of commands (word_from (drop at l))) 1 (command_at (index_of commands (word_from (drop at l)))) vs) q.rest
    ∙ sym (of_words l _ (first-words l at k h) ∙ is_call _ _ (no-comment l at k h e) b)

-- ---- the table, row by row
abbrev pub joined : List (List Kind) → List Kind
joined [] = []
joined (x ∷ xs) = x ++ joined xs

abbrev pub sevens : List (List Kind) → Bool
sevens [] = true
sevens (x ∷ xs) = eqb (length x) 7 && sevens xs

and-first : (a b : Bool) → (a && b) ≡ true → a ≡ true
and-first true b t = refl
and-first false b t = t

and-second : (a b : Bool) → (a && b) ≡ true → b ≡ true
and-second true b t = t
and-second false b t = cc

-- place 7 q + r is place r of row q
pub at-place : (xs : List (List Kind)) (q r : ℕ) → sevens xs ≡ true → r < 7 → get_or (get_or xs q []) r End ≡ get_or (joined xs) (7 * q + r) End
at-place [] q r t h = refl
at-place (x ∷ xs) zero r t h =
    let e : 7 * 0 + r ≡ r = omega arith in
    let k : r < length x = omega (arith, eqb-true (length x) 7 (and-first _ _ t)) in
    rw e (sym (get_or-append x (joined xs) End r k))
at-place (x ∷ xs) (suc q) r t h =
    let n : length x ≡ 7 = eqb-true (length x) 7 (and-first _ _ t) in
    let e : 7 * suc q + r ≡ length x + (7 * q + r) = omega (arith, n) in
    rw e (at-place xs q r (and-second _ _ t) h ∙ sym (get_or-append-add x (joined xs) (7 * q + r) End))

-- the last command, and every row past it
pub standard-from : (row : ℕ) → 38 ≤ row → Standard ≡ command_at row
unfolding command_list
standard-from row h = by-test (ltb row 39) refl
  where
    by-test : (t : Bool) → ltb row 39 ≡ t → Standard ≡ get_or command_list row Standard
    by-test true p = let below : row < 39 = ltb-true row 39 p in let e : row ≡ 38 = omega arith in rw e
    by-test false p = sym (get_or-eq_default command_list Standard (ltb-false row 39 p))
