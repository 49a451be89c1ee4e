-- Laws of the registry that proofs cite in place of the definitions' text. Assumes nothing.
use mathlib.Core.Path.{◌≡◌, refl, sym, ap, ◌∙◌}
use mathlib.Core.Bool.{Bool, true, false, cond}
use mathlib.Core.Logic.{⊎_elim}
use mathlib.Core.List.{List, [], ◌∷◌, ◌++◌}
use Prim.Native.Nat.{ℕ, zero, suc, ◌+◌, ◌≤◌, ◌<◌, min}
use native.Mathlib.Nat.{add-zero, le_of_suc-le-suc}
use native.Mathlib.Numerals.{add-one}
use native.Mathlib.Omega.{arith}
use Rattle.std.specs.Prelude.{Option, Some, None, is_some, Result, Ok}
use lib.Dec.{eqb, ltb}
use lib.ListN.{length, get_or, take, drop, drop_of_length-le}
use lib.Seq.{drop-cons, length-take-le, get_or-take}
use borrow.Author.Tests.{ne_eqb}
use Rattle.list.proofs.Bools.{which}
use Rattle.list.proofs.Elements.{get_or-inside}
use Rattle.refusal.specs.Judge.{◌when◌, judged}
use Rattle.refusal.specs.declared.Refusal.{Refusal}
use Rattle.reply.specs.Reply.{accepts, by_rows}
use Rattle.config.specs.Sizes.{most_sources}
use Rattle.state.specs.declared.Kind.TheVariants as K
use Rattle.state.specs.declared.Scope.TheVariants as S
use Rattle.state.specs.declared.Range.TheVariants as R
use Rattle.state.specs.declared.Source.{Source}
use Rattle.state.specs.declared.Sources.{Sources}
use Rattle.source.specs.Keys.{most_key_bytes, key_is}
use Rattle.source.proofs.Keys.{key-too-long}
use Rattle.state.specs.Registry.{source_count}
use Rattle.source.specs.Registry.{registered, find_key, found_reply, found_or, find_source, places_of, found_says}

-- ---- the entries

-- what an array of entries is read to hold past its end
abbrev pub past_end : Source
past_end = record { key = []; len = 0; kind = K.Signal; scope = S.Voice; range = R.Unipolar }

-- holding a count to 128 does not make it 0
pub empty-by-count : (n : ℕ) → eqb n 0 ≡ eqb (min n most_sources) 0
empty-by-count zero = refl
empty-by-count (suc n) =
    ne_eqb (suc n) 0 (λ h. omega arith) ∙ sym (ne_eqb (min (suc n) most_sources) 0 (λ h. omega arith))

pub registered-length : (s : Sources) → length s.entry ≡ most_sources → length (registered s) ≡ source_count s
unfolding registered
registered-length s h = length-take-le (source_count s) s.entry (omega arith)

-- an entry at its number; inside the array the default does not matter
pub registered-at : (s : Sources) (i : ℕ) (d e : Source) → length s.entry ≡ most_sources → i < source_count s → get_or (registered s) i d ≡ get_or s.entry i e
unfolding registered
registered-at s i d e l h = get_or-take (source_count s) s.entry i d h ∙ get_or-inside s.entry i d e (omega arith)

-- ---- finding

pub find-here : (key : List ℕ) (es : List Source) (i : ℕ) (d : Source) → i < length es → key_is key (get_or es i d) ≡ true → find_key i key (drop i es) ≡ Some i
unfolding find_key
find-here key es i d h k = rw (drop-cons es i d h, k)

pub find-next : (key : List ℕ) (es : List Source) (i : ℕ) (d : Source) → i < length es → key_is key (get_or es i d) ≡ false
    → find_key i key (drop i es) ≡ find_key (i + 1) key (drop (i + 1) es)
unfolding find_key
find-next key es i d h k = rw (add-one, drop-cons es i d h, k)

pub find_past : (key : List ℕ) (es : List Source) (i : ℕ) → length es ≤ i → find_key i key (drop i es) ≡ None
unfolding find_key
find_past key es i h = rw (drop_of_length-le es h)

-- an entry with another key, after the others, changes nothing
pub find-others : (n : ℕ) (key : List ℕ) (es : List Source) (e : Source) → key_is key e ≡ false → find_key n key (es ++ (e ∷ [])) ≡ find_key n key es
unfolding find_key
find-others n key [] e h = rw h
find-others n key (x ∷ es) e h = ap (λ (r : Option ℕ). cond (key_is key x) (Some n) r) (find-others (suc n) key es e h)

no : true ≡ false → ⊥
no h = let z : ◌≡◌ {A = ℕ} 0 1 = cc in omega arith

-- where none has the key, the search goes on in what follows
pub find-after : (n : ℕ) (key : List ℕ) (es fs : List Source) → is_some (find_key n key es) ≡ false → find_key n key (es ++ fs) ≡ find_key (n + length es) key fs
unfolding find_key
find-after n key [] fs h = ap (λ (m : ℕ). find_key m key fs) (sym (add-zero n))
find-after n key (e ∷ es) fs h =
    ⊎_elim
    (λ y. let z : true ≡ false = rw y at h in absurd (no z))
    (λ y.
    let rest = find-after (suc n) key es fs (rw y at h) in
    let at : suc n + length es ≡ n + suc (length es) = omega arith in
    rw y (rest ∙ ap (λ (m : ℕ). find_key m key fs) at))
    (which (key_is key e))

-- a key above 32 bytes is found nowhere
pub find-too-long : (n : ℕ) (key : List ℕ) (es : List Source) → most_key_bytes < length key → find_key n key es ≡ None
unfolding find_key
find-too-long n key [] h = refl
find-too-long n key (e ∷ es) h = rw (key-too-long key e h) (find-too-long (suc n) key es h)

-- entry i has the key, and none before it does
pub record FirstWith (key : List ℕ) (es : List Source) (i : ℕ) : Type 0 where
  pub inside : i < length es
  pub has : (d : Source) → key_is key (get_or es i d) ≡ true
  pub none_before : (j : ℕ) (d : Source) → j < i → key_is key (get_or es j d) ≡ false

first_head : (key : List ℕ) (e : Source) (es : List Source) → key_is key e ≡ true → FirstWith key (e ∷ es) 0
first_head key e es y = record { inside = omega arith; has = λ d. y; none_before = λ j d h. absurd (omega arith) }

first_tail : (key : List ℕ) (e : Source) (es : List Source) (i : ℕ) → key_is key e ≡ false → FirstWith key es i → FirstWith key (e ∷ es) (suc i)
first_tail key e es i y f = record { inside = omega (arith, f.inside); has = λ d. f.has d; none_before = before }
  where
    before : (j : ℕ) (d : Source) → j < suc i → key_is key (get_or (e ∷ es) j d) ≡ false
    before zero d h = y
    before (suc j) d h = f.none_before j d (le_of_suc-le-suc h)

-- what is found is the first that has the key
find_first : (n : ℕ) (key : List ℕ) (es : List Source) (i : ℕ) → find_key n key es ≡ Some i → (k : ℕ) × (i ≡ n + k) × FirstWith key es k
unfolding find_key
find_first n key [] i h = let z : ◌≡◌ {A = ℕ} 0 1 = cc in absurd (omega arith)
find_first n key (e ∷ es) i h =
    ⊎_elim
    (λ y.
    let at : Some n ≡ Some i = rw y at h in
    let same : n ≡ i = cc in
    (0, omega arith, first_head key e es y))
    (λ y.
    let rest = find_first (suc n) key es i (rw y at h) in
    let at : i ≡ suc n + rest.0 = rest.1 in
    (suc rest.0, omega arith, first_tail key e es rest.0 y rest.2))
    (which (key_is key e))

pub found_first : (key : List ℕ) (es : List Source) (i : ℕ) → find_key 0 key es ≡ Some i → FirstWith key es i
found_first key es i h =
    let f = find_first 0 key es i h in
    let same : f.0 ≡ i = omega (arith, f.1) in
    rw same at f.2

-- ---- what an answer says

found-if : (b : Bool) (n : ℕ) (f : Option ℕ) (ns : List ℕ) → found_reply (Ok f) ≡ accepts (take 1 ns) → found_reply (Ok (cond b (Some n) f)) ≡ accepts (take 1 (cond b (n ∷ ns) ns))
found-if true n f ns h = refl
found-if false n f ns h = h

found_from : (n : ℕ) (key : List ℕ) (es : List Source) → found_reply (Ok (find_key n key es)) ≡ accepts (take 1 (places_of n key es))
unfolding find_key
found_from n key [] = refl
found_from n key (e ∷ es) =
    found-if (key_is key e) n (find_key (suc n) key es) (places_of (suc n) key es) (found_from (suc n) key es)

or-says : (t : Bool) (f : Option ℕ) (ns : List ℕ) → found_reply (Ok f) ≡ accepts ns → found_reply (found_or (judged (15 when t ∷ [])) f) ≡ by_rows (15 when t ∷ []) ns
unfolding judged by_rows
or-says true f ns h = refl
or-says false f ns h = h

-- `find`: the answer, and what it says
pub find-said : (s : Sources) (key : List ℕ) (r : Result (Option ℕ) Refusal) → r ≡ find_source s key → (r ≡ find_source s key) × (found_reply r ≡ found_says s key)
unfolding find_source found_says
find-said s key r h =
    (h, rw h (or-says (ltb most_key_bytes (length key)) (find_key 0 key (registered s)) _ (found_from 0 key (registered s))))
