-- The registry of destinations: which entries are registered, and how one is found (document 01, Destination entry;
-- dest.rs 212-217, 276-299). Definitions only.
use Rattle.std.specs.Prelude.{◌≡◌, refl, Bool, true, false, cond, List, [], ◌∷◌, ℕ, zero, suc, eqb, take, replicate}
use Rattle.std.specs.Prelude.{Option, Some, None}
use Rattle.number.specs.Number.{zero32, one32}
use Rattle.config.specs.Sizes.{most_destinations}
use Rattle.state.specs.Registry.{dest_count, same_target}
use Rattle.state.specs.declared.Target.{Target}
use Rattle.state.specs.declared.Target.TheVariants.{Param, LfoBus}
use Rattle.state.specs.declared.Scope.TheVariants as S
use Rattle.state.specs.declared.Rate.TheVariants as R
use Rattle.state.specs.declared.Feed.TheVariants as F
use Rattle.state.specs.declared.Dest.{Dest}
use Rattle.state.specs.declared.Destinations.{Destinations}

-- ---- the registry

-- whether none is (dest.rs 284-286)
unfoldable pub dests_empty : Destinations → Bool
dests_empty ds = eqb (dest_count ds) 0

-- the entries that are registered, by number (dest.rs 215)
unfoldable pub registered : Destinations → List Dest
registered ds = take (dest_count ds) ds.entry

-- what stands where nothing is registered
unfoldable pub blank_dest : Dest
blank_dest = record { target = Param 0; scope = S.Voice; rate = R.Audio; min = zero32; max = zero32; feed = F.Nothing }

-- the empty registry (dest.rs 245-247)
unfoldable pub no_dests : Destinations
no_dests = record { count = 0; entry = replicate most_destinations blank_dest }

-- ---- by number

-- entry i of a list, if it has one
unfoldable pub entry_at : List Dest → ℕ → Option Dest
entry_at [] i = None
entry_at (d ∷ ds) zero = Some d
entry_at (d ∷ ds) (suc i) = entry_at ds i

-- dest.rs 290-292
unfoldable pub get_dest : Destinations → ℕ → Option Dest
get_dest ds i = entry_at (registered ds) i

-- ---- by target

-- the first entry that has the target, where the list's first entry is number n
unfoldable pub find_from : ℕ → Target → List Dest → Option ℕ
find_from n t [] = None
find_from n t (d ∷ ds) = cond (same_target d.target t) (Some n) (find_from (suc n) t ds)

unfoldable pub find_target : Target → List Dest → Option ℕ
find_target t ds = find_from 0 t ds

-- the lowest number of a registered entry that has the target (dest.rs 296-298)
unfoldable pub find_dest : Destinations → Target → Option ℕ
find_dest ds t = find_target t (registered ds)

-- ---- examples

on : Target → Dest
on t = record { target = t; scope = S.Global; rate = R.Control; min = zero32; max = one32; feed = F.Nothing }

-- a number alone does not make a parameter the same as a bus; LFO and bus both count
targets : (same_target (Param 7) (Param 7) ≡ true) × (same_target (Param 7) (Param 8) ≡ false)
    × (same_target (Param 3) (LfoBus 3 3) ≡ false) × (same_target (LfoBus 3 3) (Param 3) ≡ false)
    × (same_target (LfoBus 1 2) (LfoBus 1 2) ≡ true) × (same_target (LfoBus 1 2) (LfoBus 1 3) ≡ false)
    × (same_target (LfoBus 1 2) (LfoBus 2 1) ≡ false)
targets = (refl, refl, refl, refl, refl, refl, refl)

some : List Dest
some = on (Param 7) ∷ on (LfoBus 1 2) ∷ on (LfoBus 1 3) ∷ on (Param 7) ∷ []

-- the first of two; a bus by both its numbers; one that is not there
finds : (find_target (Param 7) some ≡ Some 0) × (find_target (LfoBus 1 3) some ≡ Some 2)
    × (find_target (LfoBus 2 2) some ≡ None) × (find_target (Param 7) [] ≡ None)
unfolding find_target find_from some on
finds = (refl, refl, refl, refl)

entries : (entry_at some 2 ≡ Some (on (LfoBus 1 3))) × (entry_at some 4 ≡ None)
unfolding entry_at some
entries = (refl, refl)

-- a count beyond the most counts as the most
held : (entry : List Dest) → (dest_count (record { count = 5000; entry = entry }) ≡ 1024)
    × (dest_count (record { count = 1024; entry = entry }) ≡ 1024)
    × (dest_count (record { count = 3; entry = entry }) ≡ 3)
    × (dests_empty (record { count = 0; entry = entry }) ≡ true)
    × (dests_empty (record { count = 1; entry = entry }) ≡ false)
unfolding dests_empty
held entry = (refl, refl, refl, refl, refl)

two-registered : registered (record { count = 2; entry = some }) ≡ on (Param 7) ∷ on (LfoBus 1 2) ∷ []
unfolding registered some
two-registered = refl
