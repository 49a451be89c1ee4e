-- What the answers on a registry of destinations say: number and values of each case (document 01, The form to use in
-- each place). Definitions only.
use Rattle.std.specs.Prelude.{cond, List, [], ◌∷◌, ℕ, suc, take, drop, Option, Some, None}
use Rattle.reply.specs.Reply.{Reply, accepts, by_rows}
use Rattle.state.specs.Registry.{same_target}
use Rattle.state.specs.declared.Target.{Target}
use Rattle.state.specs.declared.Dest.{Dest}
use Rattle.state.specs.declared.Destinations.{Destinations}
use Rattle.dest.specs.Entries.{registered}

-- ---- each case

abbrev pub entry_reply : Option Dest → Reply Dest
entry_reply None = accepts []
entry_reply (Some d) = accepts (d ∷ [])

abbrev pub found_reply : Option ℕ → Reply ℕ
found_reply None = accepts []
found_reply (Some n) = accepts (n ∷ [])

-- ---- what each call says

-- `get`: no row; the registered entry of that number, if there is one
unfoldable pub entry_says : Destinations → ℕ → Reply Dest
unfolding by_rows
entry_says ds i = by_rows [] (take 1 (drop i (registered ds)))

-- the numbers of the entries that have the target, the first entry's being n
abbrev pub places_of : ℕ → Target → List Dest → List ℕ
places_of n t [] = []
places_of n t (d ∷ ds) = cond (same_target d.target t) (n ∷ places_of (suc n) t ds) (places_of (suc n) t ds)

-- `find`: no row; the first of the registered entries that have the target, if there is one
unfoldable pub found_says : Destinations → Target → Reply ℕ
unfolding by_rows
found_says ds t = by_rows [] (take 1 (places_of 0 t (registered ds)))
