-- The order of plans from the destinations in use and the readers, by places and marks. Definitions only.
use Rattle.std.specs.Prelude.{◌≡◌, refl, Bool, true, false, cond, not, ◌&&◌, List, [], ◌∷◌, ◌++◌, ℕ, ◌*◌, ◌/◌, ◌%◌, eqb}
use Rattle.std.specs.Prelude.{ltb, length, get_or}
use Rattle.config.specs.Sizes.{slots}
use Rattle.feed.specs.Order.{order}
use Rattle.state.specs.declared.Used.{Used}
use Rattle.state.specs.declared.Base.TheVariants as B
use Rattle.std.specs.Prelude.{None}
use Rattle.state.specs.Fed.{by_dest}
use Rattle.state.specs.declared.Reader.{Reader}
use Rattle.model.specs.Feeds.{any_reads}

-- whether u is audio, or is not
abbrev pub is_rated : Bool → Used → Bool
is_rated true u = u.audio
is_rated false u = not u.audio

-- the numbers of those that are audio, or of those that are not
abbrev pub rated_as : Bool → List Used → List ℕ
rated_as b [] = []
rated_as b (u ∷ us) = let later = rated_as b us in cond (is_rated b u) (u.dest ∷ later) later

-- a is read by a route of b, which is another destination (program.rs 364)
abbrev pub feeds_other : List Reader → ℕ → ℕ → Bool
feeds_other rs a b = not (eqb a b) && any_reads a b rs

-- the mark of a pair of places, row by row: whether what stands at the one is read by what stands at the other
unfoldable pub mark_at : List Reader → List ℕ → ℕ → Bool
mark_at rs l p =
    ltb (p / slots) (length l) &&
    (ltb (p % slots) (length l) && feeds_other rs (get_or l (p / slots) 0) (get_or l (p % slots) 0))

-- control destinations by the feeders that are read, then audio destinations
unfoldable pub order_in : List Used → List Reader → List ℕ
unfolding order
order_in us rs = order (λ a b. any_reads a b rs) (rated_as false us) ++ rated_as true us

-- ---- worked out: 5 and 7 are control, 6 is audio; a route of 5 reads 7, and one of 6 reads 5

abbrev destination : ℕ → Bool → Used
destination d audio = record { dest = d; voice = false; audio = audio; feed = B.Set }

abbrev reader_of : ℕ → ℕ → Reader
reader_of d a =
    record {
      candidate = record { slot = 0; source = 0; aux = None; dest = d };
      source = by_dest a false;
      aux = None;
      amount = None;
      output = None;
    }

abbrev three : List Used
three = destination 5 false ∷ destination 6 true ∷ destination 7 false ∷ []

abbrev two : List Reader
two = reader_of 5 7 ∷ reader_of 6 5 ∷ []

the-control-ones : rated_as false three ≡ 5 ∷ 7 ∷ []
the-control-ones = refl

the-audio-ones : rated_as true three ≡ 6 ∷ []
the-audio-ones = refl

-- 7, at place 1, is read by 5, at place 0: the first mark of row 1; not the other way round
marked-pair : mark_at two (5 ∷ 7 ∷ []) slots ≡ true
unfolding mark_at
marked-pair = refl

unmarked-pair : mark_at two (5 ∷ 7 ∷ []) 1 ≡ false
unfolding mark_at
unmarked-pair = refl

-- there is no place 2
no-such-pair : mark_at two (5 ∷ 7 ∷ []) (2 * slots) ≡ false
unfolding mark_at
no-such-pair = refl

-- one that reads itself has no mark
own_pair : mark_at (reader_of 5 5 ∷ []) (5 ∷ 7 ∷ []) 0 ≡ false
unfolding mark_at
own_pair = refl

the-order : order_in three two ≡ 7 ∷ 5 ∷ 6 ∷ []
unfolding order_in
the-order = refl

two-are-control : length (rated_as false three) ≡ 2
two-are-control = refl
