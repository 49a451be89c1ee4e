-- New slews in a memory of their own, and put where they lie. Definitions only.
use Rattle.std.specs.Prelude.{◌≡◌, Bool, true, false, cond, ◌&&◌, List, ℕ, zero, suc, ◌+◌, ◌*◌, ◌<◌, get_or, Float, Option, Some, None}
use Rattle.state.specs.declared.Input.{Input}
use Rattle.state.specs.declared.Route.{Route}
use Rattle.state_filled.specs.Filled.{no_route}
use Rattle.model.specs.Env.{Env, Rows, Own}
use Rattle.model.specs.Counts.{at}
use Rattle.model.specs.Layout.{route_slew}
use Rattle.model.specs.Mix.{Mix}
use Rattle.model.specs.Routes.{free_slew}
use Rattle.model.specs.Tick.{fill_from, lanes_from, slew_after}

-- the aux, where there is one, has no slew
abbrev pub aux_free : Option Input → Bool
aux_free None = true
aux_free (Some i) = free_slew i.slew

-- a route without slews
abbrev pub still : Route → Bool
still r = free_slew r.source.slew && aux_free r.aux

-- the numbers that the new slews of 64 routes take: two rows of 64 for each
abbrev pub new_need : ℕ
new_need = 8192

-- where the new slews of route j start, of its source and of its aux
abbrev pub new_start : ℕ → ℕ → ℕ
new_start j q = j * 128 + q * 64

-- the new slews of route j, which is r, in the memory n: where it has a slew
abbrev pub IsNew : Env → Mix → Rows → Own → ℕ → Route → List Float → Type 0
IsNew t x f s j r n = still r ≡ false → (q l : ℕ) → q < 2 → l < t.stride → at n (new_start j q + l) ≡ slew_after t x f s j q l

-- the rows from n, where the route has a slew
abbrev pub put_route : ℕ → Route → ℕ → List Float → ℕ → List Float → List Float
put_route stride r a n j m =
    cond (still r) m (fill_from (fill_from m a (lanes_from n (new_start j 0)) stride) (a + stride) (lanes_from n (new_start j 1)) stride)

-- those of the first k routes from `first` on
unfoldable pub put_new : ℕ → ℕ → ℕ → ℕ → List Route → List Float → ℕ → List Float → List Float
unfolding fill_from
put_new stride chunks plans first routes n zero m = m
put_new stride chunks plans first routes n (suc k) m =
    put_route stride (get_or routes (first + k) no_route) (route_slew stride chunks plans (first + k) 0) n k (put_new stride chunks plans first routes n k m)
