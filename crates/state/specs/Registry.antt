-- The entries that stand in the two registries (source.rs 183-200, 326-356; dest.rs 212-217, 276-299; document 01,
-- Source entry, Destination entry). A count above the most counts as the most. Definitions only.
use Rattle.std.specs.Prelude.{Bool, false, cond, ◌&&◌, List, [], ◌∷◌, ℕ, suc, min, eqb, ltb, get_or, take, replicate}
use Rattle.std.specs.Float.{nan}
use Rattle.config.specs.Sizes.{most_sources, most_destinations}
use Rattle.state.specs.declared.Kind.TheVariants as K
use Rattle.state.specs.declared.Scope.TheVariants as S
use Rattle.state.specs.declared.Range.TheVariants as R
use Rattle.state.specs.declared.Rate.TheVariants as T
use Rattle.state.specs.declared.Feed.TheVariants as F
use Rattle.state.specs.declared.Source.{Source}
use Rattle.state.specs.declared.Sources.{Sources}
use Rattle.state.specs.declared.Target.{Target}
use Rattle.state.specs.declared.Target.TheVariants.{Param, LfoBus}
use Rattle.state.specs.declared.Dest.{Dest}
use Rattle.state.specs.declared.Destinations.{Destinations}

-- ---- sources

abbrev pub source_count : Sources → ℕ
source_count ss = min ss.count most_sources

abbrev pub known_source : Sources → ℕ → Bool
known_source ss i = ltb i (source_count ss)

-- what is read where there is no entry
abbrev pub no_source : Source
no_source = record { key = replicate 32 0; len = 0; kind = K.Signal; scope = S.Voice; range = R.Unipolar }

abbrev pub source_at : Sources → ℕ → Source
source_at ss i = get_or ss.entry i no_source

-- ---- destinations

abbrev pub dest_count : Destinations → ℕ
dest_count ds = min ds.count most_destinations

-- what is read where there is no entry
abbrev pub no_dest : Dest
no_dest = record { target = Param 0; scope = S.Voice; rate = T.Audio; min = nan; max = nan; feed = F.Nothing }

abbrev pub dest_at : Destinations → ℕ → Dest
dest_at ds i = get_or ds.entry i no_dest

-- the same parameter, or the same bus of the same LFO
abbrev pub same_target : Target → Target → Bool
same_target (Param a) (Param b) = eqb a b
same_target (Param a) (LfoBus m c) = false
same_target (LfoBus l b) (Param a) = false
same_target (LfoBus l b) (LfoBus m c) = eqb l m && eqb b c

-- the place of the first that has the target, counted from 0; their number where none has it
unfoldable pub target_place : Target → List Dest → ℕ
target_place t [] = 0
target_place t (d ∷ ds) = let later = suc (target_place t ds) in cond (same_target d.target t) 0 later

-- the number of the destination with the target; the count where it is not registered
abbrev pub dest_place : Destinations → Target → ℕ
dest_place ds t = target_place t (take (dest_count ds) ds.entry)
