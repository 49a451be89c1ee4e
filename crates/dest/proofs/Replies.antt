-- The answers of `get` and `find` say what is promised. Assumes nothing.
use mathlib.Core.Path.{◌≡◌, refl}
use mathlib.Core.Bool.{Bool, true, false, cond}
use mathlib.Core.List.{List, [], ◌∷◌}
use Prim.Native.Nat.{ℕ, zero, suc}
use Rattle.std.specs.Prelude.{Option, Some}
use lib.ListN.{take, drop}
use Rattle.refusal.specs.Judge.{judged}
use Rattle.reply.specs.Reply.{accepts, by_rows}
use Rattle.state.specs.Registry.{same_target}
use Rattle.state.specs.declared.Target.{Target}
use Rattle.state.specs.declared.Dest.{Dest}
use Rattle.state.specs.declared.Destinations.{Destinations}
use Rattle.dest.specs.Entries.{registered, entry_at, get_dest, find_from, find_target, find_dest}
use Rattle.dest.specs.Replies.{entry_reply, found_reply, entry_says, places_of, found_says}

entry-at : (es : List Dest) (i : ℕ) → entry_reply (entry_at es i) ≡ accepts (take 1 (drop i es))
unfolding entry_at
entry-at [] zero = refl
entry-at [] (suc i) = refl
entry-at (e ∷ es) zero = refl
entry-at (e ∷ es) (suc i) = entry-at es i

pub get-said : (ds : Destinations) (i : ℕ) (r : Option Dest) → r ≡ get_dest ds i → (r ≡ get_dest ds i) × (entry_reply r ≡ entry_says ds i)
unfolding get_dest entry_says by_rows judged
get-said ds i r h = (h, rw h (entry-at (registered ds) i))

found-if : (b : Bool) (n : ℕ) (f : Option ℕ) (ns : List ℕ) → found_reply f ≡ accepts (take 1 ns) → found_reply (cond b (Some n) f) ≡ accepts (take 1 (cond b (n ∷ ns) ns))
found-if true n f ns h = refl
found-if false n f ns h = h

found_from : (n : ℕ) (t : Target) (ds : List Dest) → found_reply (find_from n t ds) ≡ accepts (take 1 (places_of n t ds))
unfolding find_from
found_from n t [] = refl
found_from n t (d ∷ ds) =
    found-if (same_target d.target t) n (find_from (suc n) t ds) (places_of (suc n) t ds) (found_from (suc n) t ds)

pub find-said : (ds : Destinations) (t : Target) (r : Option ℕ) → r ≡ find_dest ds t → (r ≡ find_dest ds t) × (found_reply r ≡ found_says ds t)
unfolding find_dest find_target found_says by_rows judged
find-said ds t r h = (h, rw h (found_from 0 t (registered ds)))
