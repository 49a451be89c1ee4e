-- Lists of numbered things. Definitions only.
use Rattle.std.specs.Prelude.{Bool, cond, List, [], ◌∷◌, ℕ, zero, suc, ◌+◌, ◌≤◌, ◌<◌, eqb}

-- 1 where a is x, else 0
abbrev pub hit : ℕ → ℕ → ℕ
hit a x = cond (eqb a x) 1 0

-- how often a stands in the list
abbrev pub count : ℕ → List ℕ → ℕ
count a [] = 0
count a (x ∷ xs) = hit a x + count a xs

-- a stands in the list
abbrev pub In : ℕ → List ℕ → Type 0
In a l = 1 ≤ count a l

-- nothing stands in the list twice
abbrev pub Distinct : List ℕ → Type 0
Distinct l = (a : ℕ) → count a l ≤ 1

-- each is below those after it
abbrev pub Ascending : List ℕ → Type 0
Ascending [] = Unit {0}
Ascending (x ∷ xs) = ((a : ℕ) → In a xs → x < a) × Ascending xs

-- the place of a in the list, counted from 0; the list's length where a does not stand in it
abbrev pub index_of : ℕ → List ℕ → ℕ
index_of a [] = 0
index_of a (x ∷ xs) = cond (eqb a x) 0 (suc (index_of a xs))

-- the list without the first a in it
abbrev pub remove : ℕ → List ℕ → List ℕ
remove a [] = []
remove a (x ∷ xs) = let rest = x ∷ remove a xs in cond (eqb a x) xs rest

-- those of the list that pass the test
abbrev pub keep : (ℕ → Bool) → List ℕ → List ℕ
keep p [] = []
keep p (x ∷ xs) = let rest = keep p xs in cond (p x) (x ∷ rest) rest

-- the first of the list, or z where the list is empty
abbrev pub first_or : ℕ → List ℕ → ℕ
first_or z [] = z
first_or z (x ∷ xs) = x

-- k, k + 1, .., k + n - 1
abbrev pub up_from : ℕ → ℕ → List ℕ
up_from k zero = []
up_from k (suc n) = k ∷ up_from (suc k) n
