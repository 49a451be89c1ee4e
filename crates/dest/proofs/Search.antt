-- The registered entries by number and by target: what reading and searching them gives, one entry at a time. Assumes nothing.
use mathlib.Core.Path.{◌≡◌, refl, sym, ap, ◌∙◌}
use mathlib.Core.Bool.{true, false}
use mathlib.Core.List.{List, [], ◌∷◌, map}
use Prim.Native.Nat.{ℕ, zero, suc, ◌+◌, ◌≤◌, ◌<◌}
use native.Mathlib.Nat.{le_of_suc-le-suc, not-suc-le-zero}
use native.Mathlib.Numerals.{add-one}
use native.Mathlib.Omega.{arith}
use lib.Ieee.{nan}
use Rattle.std.specs.Prelude.{Some, None}
use lib.ListN.{length, get_or, drop, drop_of_length-le, length-map}
use lib.Seq.{drop-cons, get_or-take, length-take-le}
use Rattle.config.specs.Sizes.{most_destinations}
use Rattle.state.specs.declared.Target.{Target}
use Rattle.state.specs.declared.Target.TheVariants.{Param}
use Rattle.state.specs.declared.Scope.TheVariants as S
use Rattle.state.specs.declared.Rate.TheVariants as R
use Rattle.state.specs.declared.Feed.TheVariants as F
use Rattle.state.specs.declared.Dest.{Dest}
use Rattle.state.specs.declared.Destinations.{Destinations}
use Rattle.state.specs.Registry.{dest_count, same_target}
use Rattle.dest.specs.Entries.{registered, entry_at, get_dest, find_from, find_target, find_dest}

-- what a read past an array's end stands for
abbrev pub unread : Dest
unread = record { target = Param 0; scope = S.Voice; rate = R.Audio; min = nan; max = nan; feed = F.Nothing }

-- ---- the registered entries

-- what is known of an array is known of its elements' images
pub length-mapped : {X Y : Type 0} (f : X → Y) (l : List X) (n : ℕ) → length (map f l) ≡ n → length l ≡ n
length-mapped f l n e = sym (length-map l f) ∙ e

pub registered-at : (ds : Destinations) (i : ℕ) (d : Dest) → i < dest_count ds → get_or (registered ds) i d ≡ get_or ds.entry i d
unfolding registered
registered-at ds i d h = get_or-take (dest_count ds) ds.entry i d h

pub registered-length : (ds : Destinations) → length ds.entry ≡ most_destinations → length (registered ds) ≡ dest_count ds
unfolding registered
registered-length ds e = length-take-le (dest_count ds) ds.entry (omega arith)

-- ---- by number

pub entry-at : (l : List Dest) (i : ℕ) (d : Dest) → i < length l → entry_at l i ≡ Some (get_or l i d)
unfolding entry_at
entry-at [] i d h = absurd (not-suc-le-zero h)
entry-at (x ∷ l) zero d h = refl
entry-at (x ∷ l) (suc i) d h = entry-at l i d (le_of_suc-le-suc h)

pub entry_past : (l : List Dest) (i : ℕ) → length l ≤ i → entry_at l i ≡ None
unfolding entry_at
entry_past [] i h = refl
entry_past (x ∷ l) zero h = absurd (not-suc-le-zero h)
entry_past (x ∷ l) (suc i) h = entry_past l i (le_of_suc-le-suc h)

pub get-known : (ds : Destinations) (i : ℕ) (d : Dest) → length ds.entry ≡ most_destinations → i < dest_count ds → get_dest ds i ≡ Some (get_or ds.entry i d)
unfolding get_dest
get-known ds i d e h =
    entry-at (registered ds) i d (omega (arith, registered-length ds e)) ∙ ap Some (registered-at ds i d h)

pub get_none : (ds : Destinations) (i : ℕ) → length ds.entry ≡ most_destinations → dest_count ds ≤ i → get_dest ds i ≡ None
unfolding get_dest
get_none ds i e h = entry_past (registered ds) i (omega (arith, registered-length ds e))

-- ---- by target, from entry i on

pub find-here : (t : Target) (l : List Dest) (i : ℕ) (d : Dest) → i < length l → same_target (get_or l i d).target t ≡ true → find_from i t (drop i l) ≡ Some i
unfolding find_from
find-here t l i d h e = rw (drop-cons l i d, e)

pub find-next : (t : Target) (l : List Dest) (i : ℕ) (d : Dest) → i < length l → same_target (get_or l i d).target t ≡ false → find_from i t (drop i l) ≡ find_from (i + 1) t (drop (i + 1) l)
unfolding find_from
find-next t l i d h e = rw (add-one, drop-cons l i d, e)

pub find-end : (t : Target) (l : List Dest) (i : ℕ) → length l ≤ i → find_from i t (drop i l) ≡ None
unfolding find_from
find-end t l i h = rw (drop_of_length-le l h)

-- the search of a registry stands at entry i: what it finds is what is found from there
abbrev pub SearchedTo : Destinations → Target → ℕ → Type 0
SearchedTo ds t i = find_dest ds t ≡ find_from i t (drop i (registered ds))

pub searched-none : (ds : Destinations) (t : Target) → SearchedTo ds t 0
unfolding find_dest find_target
searched-none ds t = refl

module _ (ds : Destinations) (t : Target) (i : ℕ) (d : Dest) (e : length ds.entry ≡ most_destinations) (s : SearchedTo ds t i) where
  pub searched-here : i < dest_count ds → same_target (get_or ds.entry i d).target t ≡ true → find_dest ds t ≡ Some i
  searched-here h y =
      s ∙ find-here t (registered ds) i d (omega (arith, registered-length ds e)) (ap (λ (x : Dest). same_target x.target t) (registered-at ds i d h) ∙ y)

  pub searched-next : i < dest_count ds → same_target (get_or ds.entry i d).target t ≡ false → SearchedTo ds t (i + 1)
  searched-next h y =
      s ∙ find-next t (registered ds) i d (omega (arith, registered-length ds e)) (ap (λ (x : Dest). same_target x.target t) (registered-at ds i d h) ∙ y)

  pub searched-all : dest_count ds ≤ i → find_dest ds t ≡ None
  searched-all h = s ∙ find-end t (registered ds) i (omega (arith, registered-length ds e))
