-- The first of a list of sources that no slot has (matrix.rs 381-385). Definitions only.
use Rattle.std.specs.Prelude.{Bool, false, cond, ◌||◌, List, [], ◌∷◌, ℕ, suc, eqb, ltb, length, get_or, Option}
use Rattle.std.specs.Prelude.{Some, None}
use Rattle.state.specs.declared.Slot.{Slot}

abbrev pub picks_source : ℕ → Option ℕ → Bool
picks_source n None = false
picks_source n (Some k) = eqb k n

-- whether a slot has the source; bypassed or not, with a destination or without (matrix.rs 384)
unfoldable pub in_use : ℕ → List Slot → Bool
in_use n [] = false
in_use n (s ∷ l) = picks_source n s.source || in_use n l

-- the place of the first that none has, or how many there are where every one is in use (matrix.rs 381-385)
unfoldable pub first_free : List ℕ → List Slot → ℕ
first_free [] l = 0
first_free (n ∷ ns) l = cond (in_use n l) (suc (first_free ns l)) 0

-- that source, where there is one
abbrev pub free_source : List ℕ → List Slot → Option ℕ
free_source ns l = cond (ltb (first_free ns l) (length ns)) (Some (get_or ns (first_free ns l) 0)) None
