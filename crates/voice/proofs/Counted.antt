-- Counting and searching the marks of voices, one voice at a time. Assumes nothing.
use mathlib.Core.Path.{◌≡◌, refl, sym, ap, ◌∙◌}
use mathlib.Core.Bool.{Bool, true, false, cond, ◌||◌}
use mathlib.Core.List.{List, [], ◌∷◌}
use Prim.Native.Nat.{ℕ, ◌+◌, ◌≤◌, min}
use native.Mathlib.Numerals.{add-one}
use native.Mathlib.Omega.{arith}
use lib.ListN.{length, get_or, take}
use Rattle.std.specs.List.{list_any, count_by}
use Rattle.std.proofs.lemmas.List.{take_min}
use Rattle.std.proofs.lemmas.List.Sums.{sum_by-cons}
use Rattle.std.specs.Prelude.{Option}
use Rattle.config.specs.Sizes.{most_voices}
use Rattle.voice.specs.Voices.{count_on, latest, later}
use Rattle.voice.specs.Marks.{any_of}

one_at_most : (b : Bool) → cond b 1 0 ≤ 1
one_at_most true = omega arith
one_at_most false = omega arith

pub count_most : (bs : List Bool) → count_on bs ≤ length bs
count_most [] = omega arith
count_most (b ∷ bs) = omega (arith, one_at_most b, count_most bs)

pub most-one : (b : Bool) (n : ℕ) → n ≡ cond b 1 0 → n ≤ 1
most-one b n e = omega (arith, one_at_most b)

-- those that are on are as many as those that pass the test of being on
pub count_on_by : (bs : List Bool) → count_by (λ b. b) bs ≡ count_on bs
count_on_by [] = refl
count_on_by (b ∷ bs) = sum_by-cons (λ (x : Bool). cond x 1 0) b bs ∙ ap (λ n. cond b 1 0 + n) (count_on_by bs)

-- past the last voice there is none to count
pub take_held : (active : List Bool) (n : ℕ) → length active ≡ most_voices → take (min n most_voices) active ≡ take n active
take_held active n e = rw (sym e) (take_min n active)

-- a turn of the search for the latest
pub latest-next : (active : List Bool) (rank : List ℕ) (v : ℕ) (found next : Option ℕ) → found ≡ latest active rank v
    → next ≡ cond (get_or active v false) (later rank v found) found → next ≡ latest active rank (v + 1)
latest-next active rank v found next e h = h ∙ rw (add-one, e)

-- a search for a mark
pub any_of_any : (bs : List Bool) → list_any (λ b. b) bs ≡ any_of bs
any_of_any [] = refl
any_of_any (b ∷ bs) = ap (λ r. b || r) (any_of_any bs)
