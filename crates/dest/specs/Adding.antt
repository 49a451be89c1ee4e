-- Adding a destination (document 01, rows 9 to 12; dest.rs 255-274). Definitions only.
use Rattle.std.specs.Prelude.{◌≡◌, refl, Bool, true, false, cond, not, ◌||◌, List, [], ◌∷◌, ℕ, ◌+◌, ◌-◌, eqb, leb, pos}
use Rattle.std.specs.Prelude.{set, Float, is_some, Result, Ok, Err}
use Rattle.std.specs.Float.{nan, inf, fin}
use Rattle.std.specs.Float.Ieee.{lt, is_nan}
use Rattle.refusal.specs.Judge.{Row, ◌when◌, judged, numbered, ascends}
use Rattle.refusal.specs.Refusal.{number_of}
use Rattle.refusal.specs.declared.Refusal.{Refusal}
use Rattle.number.specs.Number.{zero32, one32}
use Rattle.config.specs.Sizes.{slots, most_destinations}
use Rattle.state.specs.declared.Target.{Target}
use Rattle.state.specs.declared.Target.TheVariants.{Param, LfoBus}
use Rattle.state.specs.declared.Scope.TheVariants as S
use Rattle.state.specs.declared.Rate.TheVariants as R
use Rattle.state.specs.declared.Feed.{Feed}
use Rattle.state.specs.declared.Feed.TheVariants as F
use Rattle.state.specs.declared.Dest.{Dest}
use Rattle.state.specs.declared.Destinations.{Destinations}
use Rattle.dest.specs.declared.Added.{Added}
use Rattle.state.specs.Registry.{dest_count}
use Rattle.dest.specs.Entries.{registered, find_from, find_target}

-- ---- the rows

-- document 01, row 10: "bounds NaN or min not below max" (dest.rs 259)
unfoldable pub bad_bounds : Float → Float → Bool
bad_bounds lo hi = is_nan lo || (is_nan hi || not (lt lo hi))

-- document 01, row 11: "feed slot not below 64" (dest.rs 262-264)
abbrev pub bad_slot : Feed → Bool
bad_slot F.Nothing = false
bad_slot (F.Source s) = false
bad_slot (F.Amount n) = leb slots n
bad_slot (F.Output n) = leb slots n

-- document 01, rows 9 to 12, for an entry that is to follow these, as many as the count (dest.rs 256-268); the port's
-- registry is full at 1,024
abbrev pub add_rows : List Dest → ℕ → Dest → List Row
add_rows ds count d =
    9 when is_some (find_target d.target ds)
    ∷ 10 when bad_bounds d.min d.max
    ∷ 11 when bad_slot d.feed
    ∷ 12 when leb most_destinations count
    ∷ []

unfoldable pub add_code : Destinations → Dest → ℕ
add_code ds d = judged (add_rows (registered ds) (dest_count ds) d)

-- whatever is added, the rows' numbers are above 0 and ascend: the first that applies is the lowest
ascending : (ds : List Dest) (count : ℕ) (d : Dest) → (numbered (add_rows ds count d) ≡ true)
    × (ascends (add_rows ds count d) ≡ true)
ascending ds count d = (refl, refl)

-- ---- the answer

-- the registry with the entry after those that it has (dest.rs 269-271)
unfoldable pub appended : Destinations → Dest → Destinations
appended ds d = record { count = dest_count ds + 1; entry = set ds.entry (dest_count ds) d }

-- a number by which the call is refused, or 0, the entry's number and the registry
pub record DestAdded : Type 0 where
  pub code : ℕ
  pub id : ℕ
  pub dests : Destinations

-- what an answer says: a refusal leaves the registry as it came, and gives the number 0
abbrev pub added_said : Destinations → Result Added Refusal → DestAdded
added_said ds (Ok a) = record { code = 0; id = a.id; dests = a.dests }
added_said ds (Err r) = record { code = number_of r; id = 0; dests = ds }

-- accepted, the entry's number is the old count; a refusal leaves the registry (dest.rs 255-274)
unfoldable pub add_dest : Destinations → Dest → DestAdded
add_dest ds d =
    cond (eqb (add_code ds d) 0)
    (record { code = 0; id = dest_count ds; dests = appended ds d })
    (record { code = add_code ds d; id = 0; dests = ds })

-- ---- examples

entry : Target → Float → Float → Feed → Dest
entry t lo hi f = record { target = t; scope = S.Global; rate = R.Audio; min = lo; max = hi; feed = f }

-- of these, as many are registered as the count says
holding : ℕ → Destinations
holding n =
    record {
      count = n;
      entry = entry (Param 7) zero32 one32 F.Nothing ∷ entry (LfoBus 1 2) zero32 one32 F.Nothing
          ∷ entry (Param 9) zero32 one32 F.Nothing ∷ [];
    }

code : ℕ → Target → Float → Float → Feed → ℕ
code n t lo hi f = add_code (holding n) (entry t lo hi f)

-- a target again, before every other row, also in a full registry; the entry past the count does not count
row9 : (code 2 (Param 7) nan nan (F.Amount slots) ≡ 9) × (code 2 (LfoBus 1 2) zero32 one32 F.Nothing ≡ 9)
    × (code 1024 (Param 9) one32 zero32 F.Nothing ≡ 9) × (code 2 (Param 9) zero32 one32 F.Nothing ≡ 0)
    × (code 2 (LfoBus 1 3) zero32 one32 F.Nothing ≡ 0)
unfolding code holding entry add_code bad_bounds judged registered find_target find_from lt is_nan
row9 = (refl, refl, refl, refl, refl)

-- a NaN, min not below max, -0 and +0; infinite bounds are accepted
row10 : (code 2 (Param 3) nan one32 (F.Amount slots) ≡ 10) × (code 2 (Param 3) zero32 nan F.Nothing ≡ 10)
    × (code 2 (Param 3) one32 one32 F.Nothing ≡ 10) × (code 2 (Param 3) one32 zero32 F.Nothing ≡ 10)
    × (code 2 (Param 3) (fin true 0 (pos 0)) zero32 F.Nothing ≡ 10)
    × (code 2 (Param 3) (inf true) (inf false) F.Nothing ≡ 0)
    × (code 2 (Param 3) (inf false) (inf false) F.Nothing ≡ 10)
unfolding code holding entry add_code bad_bounds judged registered find_target find_from lt is_nan
row10 = (refl, refl, refl, refl, refl, refl, refl)

-- every slot, and none after the last; a feed onto a source is accepted, whatever its number
row11 : (code 2 (Param 3) zero32 one32 (F.Amount slots) ≡ 11)
    × (code 5000 (Param 3) zero32 one32 (F.Output slots) ≡ 11)
    × (code 2 (Param 3) zero32 one32 (F.Amount (slots - 1)) ≡ 0)
    × (code 2 (Param 3) zero32 one32 (F.Output (slots - 1)) ≡ 0) × (code 2 (Param 3) zero32 one32 (F.Source 5000) ≡ 0)
unfolding code holding entry add_code bad_bounds judged registered find_target find_from lt is_nan
row11 = (refl, refl, refl, refl, refl)

-- 1,024 are full, and so is a count beyond
row12 : (code 1024 (Param 3) zero32 one32 F.Nothing ≡ 12) × (code 5000 (Param 3) zero32 one32 F.Nothing ≡ 12)
    × (code 1023 (Param 3) zero32 one32 F.Nothing ≡ 0)
unfolding code holding entry add_code bad_bounds judged registered find_target find_from lt is_nan
row12 = (refl, refl, refl)

third : add_dest (holding 2) (entry (Param 3) zero32 one32 F.Nothing)
    ≡ record {
      code = 0;
      id = 2;
      dests = record {
        count = 3;
        entry = entry (Param 7) zero32 one32 F.Nothing ∷ entry (LfoBus 1 2) zero32 one32 F.Nothing
            ∷ entry (Param 3) zero32 one32 F.Nothing ∷ [];
      };
    }
unfolding add_dest appended holding entry add_code bad_bounds judged registered find_target find_from lt is_nan
third = refl

twice : add_dest (holding 2) (entry (Param 7) zero32 one32 F.Nothing) ≡ record { code = 9; id = 0; dests = holding 2 }
unfolding add_dest appended holding entry add_code bad_bounds judged registered find_target find_from lt is_nan
twice = refl
