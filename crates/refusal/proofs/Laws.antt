-- What the judgement of rows says of them. Assumes nothing.
use mathlib.Core.Path.{◌≡◌, refl, sym, ap, ◌∙◌}
use mathlib.Core.Logic.{◌≢◌, ⊎_elim}
use mathlib.Core.Bool.{Bool, true, false, ◌&&◌, true≢false}
use mathlib.Core.List.Memᴰ
use mathlib.Core.List.{List, [], ◌∷◌, ◌++◌, Memᴰ}
use Prim.Native.Nat.{ℕ, zero, suc, ◌≤◌, ◌<◌}
use native.Mathlib.Nat.{le_trans}
use native.Mathlib.Omega.{arith}
use lib.Dec.{T, leb, ltb, leb→le, ltb→lt}
use Rattle.list.proofs.Bools.{which}
use Rattle.refusal.specs.Judge.{Row, ◌when◌, judged, first_of, numbered, ascends_from, ascends, NoneApplies, First}
use Rattle.std.specs.Prelude.{Result, Ok, Err}
use Rattle.std.specs.Result.{is_err}
use Rattle.refusal.specs.Refusal.{number_of, code_of}
use Rattle.refusal.specs.declared.Refusal.{Refusal}
use Rattle.refusal.specs.declared.Refusal.TheVariants as R

-- ---- one row at a time

pub judged-none : judged [] ≡ 0
unfolding judged
judged-none = refl

pub judged-taken : (r : Row) (rs : List Row) → r.applies ≡ true → judged (r ∷ rs) ≡ r.number
unfolding judged
judged-taken r rs h = rw h

pub judged-passed : (r : Row) (rs : List Row) → r.applies ≡ false → judged (r ∷ rs) ≡ judged rs
unfolding judged
judged-passed r rs h = rw h

-- ---- the first that applies

-- an answer is the number of the first row that applies
pub judged-first : (rs : List Row) (n : ℕ) → judged rs ≡ n → n ≢ 0 → First rs n
judged-first [] n e ne = absurd (ne (sym e ∙ judged-none))
judged-first (r ∷ rs) n e ne =
    ⊎_elim
    (λ y. record {
      before = [];
      here = r;
      after = rs;
      splits = refl;
      number = sym (judged-taken r rs y) ∙ e;
      applies = y;
      none_before = λ x m. absurd (Memᴰ.not-nil m);
    })
    (λ y.
    let f = judged-first rs n (sym (judged-passed r rs y) ∙ e) ne in
    record {
      before = r ∷ f.before;
      here = f.here;
      after = f.after;
      splits = ap (λ (l : List Row). r ∷ l) f.splits;
      number = f.number;
      applies = f.applies;
      none_before = λ x m. ⊎_elim (λ q. ap (λ (z : Row). z.applies) q ∙ y) (f.none_before x) (Memᴰ.cases_cons m);
    })
    (which r.applies)

-- a number only where its row applies
pub first-applies : {rs : List Row} {n : ℕ} → First rs n → (r : Row) × Memᴰ r rs × (r.number ≡ n) × (r.applies ≡ true)
first-applies f = (f.here, rw f.splits (Memᴰ.append_right f.before (Memᴰ.head refl)), f.number, f.applies)

pub judged-applies : (rs : List Row) (n : ℕ) → judged rs ≡ n → n ≢ 0 → (r : Row) × Memᴰ r rs × (r.number ≡ n) × (r.applies ≡ true)
judged-applies rs n e ne = first-applies (judged-first rs n e ne)

-- ---- 0 exactly where no row applies

pub and_left : (a b : Bool) → T (a && b) → T a
and_left true b h = tt
and_left false b h = h

pub and_right : (a b : Bool) → T (a && b) → T b
and_right true b h = h
and_right false b h = absurd h

and_both : (a b : Bool) → T a → T b → T (a && b)
and_both true b p q = q
and_both false b p q = absurd p

pub judged-accepts : (rs : List Row) → NoneApplies rs → judged rs ≡ 0
judged-accepts [] h = judged-none
judged-accepts (r ∷ rs) h =
    judged-passed r rs (h r (Memᴰ.head refl)) ∙ judged-accepts rs (λ x m. h x (Memᴰ.tail m))

pub judged-accepted : (rs : List Row) → T (numbered rs) → judged rs ≡ 0 → NoneApplies rs
judged-accepted [] t e x m = absurd (Memᴰ.not-nil m)
judged-accepted (r ∷ rs) t e x m =
    ⊎_elim
    (λ y.
    let pos : 0 < r.number = ltb→lt 0 r.number (and_left (ltb 0 r.number) (numbered rs) t) in
    absurd (omega (arith, judged-taken r rs y)))
    (λ y.
    ⊎_elim
    (λ q. ap (λ (z : Row). z.applies) q ∙ y)
    (judged-accepted rs (and_right (ltb 0 r.number) (numbered rs) t) (sym (judged-passed r rs y) ∙ e) x)
    (Memᴰ.cases_cons m))
    (which r.applies)

-- ---- the lowest that applies

ascends-below : (n : ℕ) (rs : List Row) → T (ascends_from n rs) → (r : Row) → Memᴰ r rs → n ≤ r.number
ascends-below n [] t x m = absurd (Memᴰ.not-nil m)
ascends-below n (r ∷ rs) t x m =
    let low : n ≤ r.number = leb→le n r.number (and_left (leb n r.number) (ascends_from r.number rs) t) in
    ⊎_elim
    (λ q. rw q low)
    (λ q. le_trans low (ascends-below r.number rs (and_right (leb n r.number) (ascends_from r.number rs) t) x q))
    (Memᴰ.cases_cons m)

judged-below : (n : ℕ) (rs : List Row) → T (ascends_from n rs) → (r : Row) → Memᴰ r rs → r.applies ≡ true → judged rs ≤ r.number
judged-below n [] t x m a = absurd (Memᴰ.not-nil m)
judged-below n (r ∷ rs) t x m a =
    let rest = and_right (leb n r.number) (ascends_from r.number rs) t in
    ⊎_elim
    (λ y. ⊎_elim
    (λ q. omega (arith, judged-taken r rs y, ap (λ (z : Row). z.number) q))
    (λ q. omega (arith, judged-taken r rs y, ascends-below r.number rs rest x q))
    (Memᴰ.cases_cons m))
    (λ y. ⊎_elim
    (λ q.
    let p : r.applies ≡ x.applies = ap (λ (z : Row). z.applies) (sym q) in
    let z : ◌≡◌ {A = ℕ} 0 1 = cc in
    absurd (omega arith))
    (λ q. omega (arith, judged-passed r rs y, judged-below r.number rs rest x q a))
    (Memᴰ.cases_cons m))
    (which r.applies)

-- where the numbers ascend, the answer is at most the number of every row that applies
pub judged-lowest : (rs : List Row) → T (ascends rs) → (r : Row) → Memᴰ r rs → r.applies ≡ true → judged rs ≤ r.number
judged-lowest rs t r m a = judged-below 0 rs t r m a

-- ---- rows after rows

pub first_of-zero : (n : ℕ) → first_of 0 n ≡ n
unfolding first_of
first_of-zero n = refl

pub first_of-code : (c n : ℕ) → c ≢ 0 → first_of c n ≡ c
unfolding first_of
first_of-code zero n h = absurd (h refl)
first_of-code (suc c) n h = refl

-- the first rows' answer, or the others' where it is 0
pub judged-append : (rs ss : List Row) → T (numbered rs) → judged (rs ++ ss) ≡ first_of (judged rs) (judged ss)
judged-append [] ss t = sym (rw judged-none (first_of-zero (judged ss)))
judged-append (r ∷ rs) ss t =
    ⊎_elim
    (λ y.
    let pos : 0 < r.number = ltb→lt 0 r.number (and_left (ltb 0 r.number) (numbered rs) t) in
    judged-taken r (rs ++ ss) y ∙ sym (rw (judged-taken r rs y) (first_of-code r.number (judged ss) (λ z. omega arith))))
    (λ y.
    judged-passed r (rs ++ ss) y
    ∙ judged-append rs ss (and_right (ltb 0 r.number) (numbered rs) t)
    ∙ ap (λ (c : ℕ). first_of c (judged ss)) (sym (judged-passed r rs y)))
    (which r.applies)

-- rows none of which applies
pub judged-skip : (rs ss : List Row) → NoneApplies rs → judged (rs ++ ss) ≡ judged ss
judged-skip [] ss h = refl
judged-skip (r ∷ rs) ss h =
    judged-passed r (rs ++ ss) (h r (Memᴰ.head refl)) ∙ judged-skip rs ss (λ x m. h x (Memᴰ.tail m))

-- a row before others: its number, or the others' answer where it is 0
pub judged-row : (n : ℕ) (t : Bool) (rs : List Row) → T (ltb 0 n) → judged (n when t ∷ rs) ≡ first_of (judged (n when t ∷ [])) (judged rs)
judged-row n t rs h = judged-append (n when t ∷ []) rs (and_both (ltb 0 n) true h tt)

-- ---- answers that may be refusals

-- every refusal has a number
pub number-above : (r : Refusal) → 0 < number_of r
number-above R.RangeEnd = omega arith
number-above R.Voice = omega arith
number-above R.Source = omega arith
number-above R.Destination = omega arith
number-above R.Slot = omega arith
number-above R.Number = omega arith
number-above R.OtherConfig = omega arith
number-above R.OtherRegistries = omega arith
number-above R.Registered = omega arith
number-above R.Bounds = omega arith
number-above R.FeedSlot = omega arith
number-above R.Full = omega arith
number-above R.Range = omega arith
number-above R.Memory = omega arith
number-above R.Length = omega arith

-- an answer that is a refusal has a number other than 0, and any other answer has 0
pub err-taken : {A : Type 0} (r : Result A Refusal) → is_err r ≡ true → code_of r ≢ 0
err-taken (Ok a) e z = true≢false (sym e)
err-taken (Err x) e z = let above : 0 < number_of x = number-above x in omega arith

pub ok-none : {A : Type 0} (r : Result A Refusal) → is_err r ≡ false → code_of r ≡ 0
ok-none (Ok a) e = refl
ok-none (Err x) e = absurd (true≢false e)

-- rows of which the first refuses
pub judged-refused : (rs ss : List Row) (r : Refusal) → T (numbered rs) → number_of r ≡ judged rs → judged (rs ++ ss) ≡ number_of r
judged-refused rs ss r t e =
    let pos : 0 < number_of r = number-above r in
    let c : judged rs ≢ 0 = λ z. omega arith in
    judged-append rs ss t ∙ first_of-code (judged rs) (judged ss) c ∙ sym e

-- rows of which the first accept
pub judged-then : (rs ss : List Row) → T (numbered rs) → 0 ≡ judged rs → judged (rs ++ ss) ≡ judged ss
judged-then rs ss t e =
    judged-append rs ss t ∙ ap (λ (c : ℕ). first_of c (judged ss)) (sym e) ∙ first_of-zero (judged ss)

-- a row that refuses applies, and has the refusal's number
pub applies-here : (t : Bool) (n : ℕ) (r : Refusal) → number_of r ≡ judged (n when t ∷ []) → (t ≡ true) × (number_of r ≡ n)
unfolding judged
applies-here true n r e = (refl, e)
applies-here false n r e = let pos : 0 < number_of r = number-above r in absurd (omega arith)

-- a row that does not refuse does not apply
pub passes-here : (t : Bool) (n : ℕ) → T (ltb 0 n) → 0 ≡ judged (n when t ∷ []) → t ≡ false
unfolding judged
passes-here true n above e = let pos : 0 < n = ltb→lt 0 n above in absurd (omega arith)
passes-here false n above e = refl
