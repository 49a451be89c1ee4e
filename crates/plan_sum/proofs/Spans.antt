-- The active span as two lanes, and the groups with an active voice. Assumes nothing.
use mathlib.Core.Path.{◌≡◌, refl, sym, ap, ◌∙◌}
use mathlib.Core.Bool.{Bool, true, false, ◌&&◌, ◌||◌}
use mathlib.Core.Logic.{⊎_elim}
use mathlib.Core.List.{List, [], ◌∷◌}
use Prim.Native.Nat.{ℕ, zero, suc, ◌+◌, ◌-◌, ◌*◌, ◌/◌, ◌≤◌, ◌<◌}
use native.Mathlib.Omega.{arith}
use borrow.Author.Tests.{ltb-true, ltb-false, leb-true, leb-false, lt-ltb, le-ltb, lt-leb}
use lib.Dec.{ltb, leb}
use lib.ListN.{get_or}
use Rattle.config.specs.Sizes.{lanes}
use Rattle.model.specs.Env.{Env}
use Rattle.model.specs.Lanes.{any_from, group_of, in_group, in_span}
use Rattle.lane_input.proofs.Marks.{any_found}
use Rattle.lane_input.proofs.Numbers.{which}

or_right : (a b : Bool) → a ≡ false → a || b ≡ true → b ≡ true
or_right true true p e = refl
or_right true false p e = sym p
or_right false b p e = e

-- a mark that is set is set among more
any-wider : (m : List Bool) (k k' c c' : ℕ) → k' ≤ k → (0 < c → k + c ≤ k' + c') → any_from m k c ≡ true → any_from m k' c' ≡ true
any-wider m k k' zero c' h b e = ⊎_elim (λ p. p) (λ (p : any_from m k' c' ≡ false). p ∙ e) (which (any_from m k' c'))
any-wider m k k' (suc c) c' h b e =
    let room : k + suc c ≤ k' + c' = b (omega arith) in
    ⊎_elim
    (λ (p : any_from m k c ≡ true). any-wider m k k' c c' h (λ z. omega arith) p)
    (λ (p : any_from m k c ≡ false).
    let same : k' + (k + c - k') ≡ k + c = omega arith in
    any_found m k' (k + c - k') c' (omega arith) (rw same (or_right (any_from m k c) (get_or m (k + c) false) p e)))
    (which (any_from m k c))

-- none among some is none among fewer
none-narrower : (m : List Bool) (k k' c c' : ℕ) → k ≤ k' → (0 < c' → k' + c' ≤ k + c) → any_from m k c ≡ false → any_from m k' c' ≡ false
none-narrower m k k' c c' h b e =
    ⊎_elim
    (λ (p : any_from m k' c' ≡ true). p ∙ sym (any-wider m k' k c' c h b p) ∙ e)
    (λ p. p)
    (which (any_from m k' c'))

-- ---- the first lane: none in the first g marks, and one in the next 16

pub first_past : (m : List Bool) (g l : ℕ) → l < g → g / 16 * 16 ≡ g → any_from m 0 g ≡ false → leb g l ≡ any_from m 0 (group_of l + lanes)
first_past m g l h whole none = lt-leb g l h ∙ sym (none-narrower m 0 0 g (group_of l + lanes) (omega arith) (λ z. omega arith) none)

pub first-at : (m : List Bool) (g l : ℕ) → g / 16 * 16 ≡ g → any_from m 0 g ≡ false → any_from m 0 (g + 16) ≡ true → leb g l ≡ any_from m 0 (group_of l + lanes)
first-at m g l whole none some =
    ⊎_elim
    (λ (p : leb g l ≡ true).
    let far : g ≤ l = leb-true g l p in
    p ∙ sym (any-wider m 0 0 (g + 16) (group_of l + lanes) (omega arith) (λ z. omega arith) some))
    (λ (p : leb g l ≡ false). first_past m g l (leb-false g l p) whole none)
    (which (leb g l))

-- ---- the end: one from g on, and none from g + 16 on

pub end-past : (m : List Bool) (n g l : ℕ) → g ≤ l → g / 16 * 16 ≡ g → any_from m g (n - g) ≡ false → ltb l g ≡ any_from m (group_of l) (n - group_of l)
end-past m n g l h whole none = le-ltb l g h ∙ sym (none-narrower m g (group_of l) (n - g) (n - group_of l) (omega arith) (λ z. omega arith) none)

pub end-at : (m : List Bool) (n g l : ℕ) → g / 16 * 16 ≡ g → any_from m g (n - g) ≡ true → (g + 16 ≤ l → any_from m (g + 16) (n - (g + 16)) ≡ false)
    → ltb l (g + 16) ≡ any_from m (group_of l) (n - group_of l)
end-at m n g l whole some none =
    ⊎_elim
    (λ (p : ltb l (g + 16) ≡ true).
    let near : l < g + 16 = ltb-true l (g + 16) p in
    p ∙ sym (any-wider m g (group_of l) (n - g) (n - group_of l) (omega arith) (λ z. omega arith) some))
    (λ (p : ltb l (g + 16) ≡ false).
    let far : g + 16 ≤ l = ltb-false l (g + 16) p in
    end-past m n (g + 16) l far (omega arith) (none far))
    (which (ltb l (g + 16)))

-- what a call found of what is left after k
pub rested : (m : List Bool) (k : ℕ) (n : ℕ) {q : ℕ} {r b : Bool} → r ≡ any_from m k q → q ≡ n - k → r ≡ b → any_from m k (n - k) ≡ b
rested m k n e d h = sym (e ∙ ap (any_from m k) d) ∙ h

-- ---- both

and_none : (a : Bool) → a && false ≡ false
and_none true = refl
and_none false = refl

-- an end before the start
pub none_between : (a e l : ℕ) → e < a → leb 0 l && ltb l 0 ≡ leb a l && ltb l e
none_between a e l h =
    ⊎_elim
    (λ (p : leb a l ≡ true).
    let far : a ≤ l = leb-true a l p in
    rw (p, le-ltb l 0 (omega arith), le-ltb l e (omega arith)) (and_none (leb 0 l)))
    (λ (p : leb a l ≡ false). rw (p, le-ltb l 0 (omega arith)) (and_none (leb 0 l)))
    (which (leb a l))

pub end-within : (a e n l : ℕ) → l < n → n < e → leb a l && ltb l n ≡ leb a l && ltb l e
end-within a e n l h k = rw (lt-ltb l n h, lt-ltb l e (omega arith))

pub span-is : (t : Env) (l first end : ℕ) {m : List Bool} {n : ℕ} → t.voices.active ≡ m → t.stride ≡ n → leb first l ≡ any_from m 0 (group_of l + lanes)
    → ltb l end ≡ any_from m (group_of l) (n - group_of l) → in_span t l ≡ leb first l && ltb l end
unfolding in_span
span-is t l first end v s p q = rw (v, s, p, q)

-- ---- groups

pub groups-at : (t : Env) (l : ℕ) {a b c d : Bool} → l < 64 → a ≡ in_group t 0 → b ≡ in_group t 16 → c ≡ in_group t 32 → d ≡ in_group t 48
    → get_or (a ∷ b ∷ c ∷ d ∷ []) (l / lanes) false ≡ in_group t l
unfolding in_group
groups-at t l h ea eb ec ed =
    ⊎_elim
    (λ (p : ltb l 16 ≡ true). let k = ltb-true l 16 p in let q : l / 16 ≡ 0 = omega arith in rw q ea)
    (λ (p : ltb l 16 ≡ false).
    ⊎_elim
    (λ (p2 : ltb l 32 ≡ true). let i = ltb-false l 16 p in let k = ltb-true l 32 p2 in let q : l / 16 ≡ 1 = omega arith in rw q eb)
    (λ (p2 : ltb l 32 ≡ false).
    ⊎_elim
    (λ (p3 : ltb l 48 ≡ true). let i = ltb-false l 32 p2 in let k = ltb-true l 48 p3 in let q : l / 16 ≡ 2 = omega arith in rw q ec)
    (λ (p3 : ltb l 48 ≡ false). let i = ltb-false l 48 p3 in let q : l / 16 ≡ 3 = omega arith in rw q ed)
    (which (ltb l 48)))
    (which (ltb l 32)))
    (which (ltb l 16))
