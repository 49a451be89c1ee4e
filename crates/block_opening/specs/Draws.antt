-- The draws of a block's routes, over the parts of a state that they read (model's Process). Definitions only.
use Rattle.std.specs.Prelude.{Bool, false, cond, List, ℕ, zero, suc, ◌+◌, get_or, set, Option, Some, None}
use Rattle.draw.specs.Xorshift.{step, draw_of}
use Rattle.state.specs.declared.Read.{Read}
use Rattle.state.specs.declared.Read.TheVariants as D
use Rattle.state.specs.declared.Input.{Input}
use Rattle.state.specs.declared.Route.{Route}
use Rattle.state_filled.specs.Filled.{no_route}
use Rattle.model.specs.Layout.{route_random}
use Rattle.model.specs.Process.{Drawn}

-- the state of the draws after a voice, and the number in its lane
abbrev pub draw_after : Bool → ℕ → ℕ
draw_after on x = cond on (step x) x

-- one draw for each renoted voice of the first n, from place a on
unfoldable pub drawn_voices : List Bool → ℕ → ℕ → Drawn → Drawn
drawn_voices renoted a zero d = d
drawn_voices renoted a (suc n) d =
    let before = drawn_voices renoted a n d in
    cond (get_or renoted n false)
    (record { draw = step before.draw; values = set before.values (a + n) (draw_of (step before.draw)) })
    before

-- those of an input, whose random numbers start at a
unfoldable pub drawn_read : List Bool → ℕ → ℕ → Read → Drawn → Drawn
unfolding drawn_voices
drawn_read renoted n a (D.Signal i v) d = d
drawn_read renoted n a (D.Held i v) d = d
drawn_read renoted n a (D.Fed e v) d = d
drawn_read renoted n a D.Constant d = d
drawn_read renoted n a D.RouteRandom d = drawn_voices renoted a n d

unfoldable pub drawn_aux : List Bool → ℕ → ℕ → Option Input → Drawn → Drawn
unfolding drawn_read
drawn_aux renoted n a None d = d
drawn_aux renoted n a (Some i) d = drawn_read renoted n a i.read d

-- of route r: source before aux
unfoldable pub drawn_route : List Bool → ℕ → ℕ → ℕ → ℕ → ℕ → Route → Drawn → Drawn
unfolding drawn_read drawn_aux
drawn_route renoted n stride chunks plans r x d =
    drawn_aux renoted n (route_random stride chunks plans r 1) x.aux (drawn_read renoted n (route_random stride chunks plans r 0) x.source.read d)

-- of the first k routes, in order
unfoldable pub drawn_routes : List Bool → ℕ → ℕ → ℕ → ℕ → List Route → ℕ → Drawn → Drawn
unfolding drawn_route
drawn_routes renoted n stride chunks plans route zero d = d
drawn_routes renoted n stride chunks plans route (suc k) d =
    drawn_route renoted n stride chunks plans k (get_or route k no_route) (drawn_routes renoted n stride chunks plans route k d)
