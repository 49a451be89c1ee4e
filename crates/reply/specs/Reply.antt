-- What an answer says in document 01's terms: its number, 0 where the call is accepted, and the values that it brings.
-- "Where an answer is an enum, a definition gives this paper's number and values for each of the enum's cases. The
-- promises use that definition" (document 01, The form to use in each place). Definitions only.
use Rattle.std.specs.Prelude.{◌≡◌, refl, ◌≢◌, Bool, true, false, cond, ◌&&◌, ℕ, ◌≤◌, T, eqb}
use mathlib.Core.List.{List, [], ◌∷◌, Memᴰ}
use Rattle.refusal.specs.Judge.{Row, ◌when◌, judged, numbered, ascends, NoneApplies}

pub record Reply (A : Type 0) : Type 0 where
  pub number : ℕ
  pub values : List A

-- accepted, with these values; with none where there is nothing to bring
abbrev pub accepts : {A : Type 0} → List A → Reply A
accepts vs = record { number = 0; values = vs }

-- refused, by the row of that number
abbrev pub refuses : {A : Type 0} → ℕ → Reply A
refuses n = record { number = n; values = [] }

-- one value where the test holds, else none
abbrev pub only : {A : Type 0} → Bool → A → List A
only b x = cond b (x ∷ []) []

-- the values where no row applies, else the number of the first that does
unfoldable pub by_rows : {A : Type 0} → List Row → List A → Reply A
unfolding judged
by_rows rows vs = cond (eqb (judged rows) 0) (accepts vs) (refuses (judged rows))

-- ---- the lowest number that applies

-- every number is above 0, and they ascend
abbrev pub in_order : List Row → Bool
in_order rows = numbered rows && ascends rows

-- whether n is one of them
abbrev pub listed : ℕ → List ℕ → Bool
listed n [] = false
listed n (k ∷ ks) = cond (eqb n k) true (listed n ks)

-- whether every row has one of these numbers
abbrev pub within : List ℕ → List Row → Bool
within ks [] = true
within ks (r ∷ rs) = listed r.number ks && within ks rs

-- THE TEST of a call's rows: they are in order, and have numbers of this list
abbrev pub ordered : List ℕ → List Row → Bool
ordered ks rows = in_order rows && within ks rows

-- "The lowest number that applies is returned, and a number only when its row applies to that call": n, by these rows,
-- whose numbers are among ks
pub record Lowest (ks : List ℕ) (rows : List Row) (n : ℕ) : Type 0 where
  pub least : (r : Row) → Memᴰ r rows → r.applies ≡ true → n ≤ r.number
  pub applies : n ≢ 0 → (r : Row) × Memᴰ r rows × (r.number ≡ n) × (r.applies ≡ true)
  pub accepted : n ≡ 0 → NoneApplies rows
  pub own : n ≢ 0 → T (listed n ks)

-- ---- examples

refused : by_rows {A = ℕ} (2 when true ∷ 14 when true ∷ []) (7 ∷ []) ≡ refuses 2
unfolding by_rows
refused = refl

accepted-one : by_rows {A = ℕ} (2 when false ∷ []) (only true 7) ≡ accepts (7 ∷ [])
unfolding by_rows
accepted-one = refl

accepted-none : by_rows {A = ℕ} (2 when false ∷ []) (only false 7) ≡ accepts []
unfolding by_rows
accepted-none = refl

-- whatever the tests say: 6 and 13 are in order and among 6, 13, 14; 14 before 6 is not in order, and 2 is none of them
in-order : (t u : Bool) → ordered (6 ∷ 13 ∷ 14 ∷ []) (6 when t ∷ 13 when u ∷ []) ≡ true
in-order t u = refl

no-order : (t u : Bool) → ordered (6 ∷ 13 ∷ 14 ∷ []) (14 when t ∷ 6 when u ∷ []) ≡ false
no-order t u = refl

none-of-them : (t u : Bool) → ordered (6 ∷ 13 ∷ 14 ∷ []) (2 when t ∷ 6 when u ∷ []) ≡ false
none-of-them t u = refl
