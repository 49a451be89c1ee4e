-- The sum of a destination in one lane, part after part: the base, the plain offsets as one, the plain products in slot
-- order, then the other routes in slot order (engine.rs 850-905, 1060-1112, 1313-1343; document 01, Chunk and value).
-- Each sum is over the first k routes. Definitions only.
use Rattle.std.specs.Prelude.{Bool, true, false, not, cond, ◌&&◌, ◌||◌, ℕ, zero, suc, Float, Option, None, Some}
use Rattle.number.specs.Number.{zero32, plus, times}
use Rattle.state.specs.declared.Route.{Route}
use Rattle.model.specs.Env.{Env, Rows, Own, gain_of, base_of}
use Rattle.model.specs.Mix.{Mix}
use Rattle.model.specs.Lanes.{addend, in_span}
use Rattle.model.specs.RouteValue.{route_value, raw_in, is_zero, idle, plain}

abbrev pub base_in : Env → Mix → Float
base_in t x = base_of t x.dest x.base

-- ---- plain routes

-- the sum of their offsets, from 0
abbrev pub offset_step : Env → Mix → Route → Float → Float
offset_step t x r a = cond (plain t x.voice r) (plus a (times r.offset (gain_of t r))) a

unfoldable pub offsets : Env → Mix → ℕ → Float
unfolding plain
offsets t x zero = zero32
offsets t x (suc k) = offset_step t x (x.route k) (offsets t x k)

unfoldable pub some_plain : Env → Mix → ℕ → Bool
unfolding plain
some_plain t x zero = false
some_plain t x (suc k) = some_plain t x k || plain t x.voice (x.route k)

unfoldable pub all_plain : Env → Mix → ℕ → Bool
unfolding plain
all_plain t x zero = true
all_plain t x (suc k) = all_plain t x k && plain t x.voice (x.route k)

-- "scale times gain": each input times it, where it is not 0
abbrev pub scaled_gain : Env → Route → Float
scaled_gain t r = times r.scale (gain_of t r)

abbrev pub plain_step : Env → Rows → Own → Mix → ℕ → ℕ → Route → Float → Float
plain_step t f s x j l r a =
    cond (plain t x.voice r && not (is_zero (scaled_gain t r)))
    (plus a (times (raw_in t f s j l r) (scaled_gain t r))) a

unfoldable pub plains : Env → Rows → Own → Mix → ℕ → ℕ → Float
unfolding plain offsets
plains t f s x l zero = plus (base_in t x) (offsets t x x.count)
plains t f s x l (suc k) = plain_step t f s x k l (x.route k) (plains t f s x l k)

-- there is a plain route
abbrev pub has_plain : Env → Mix → Bool
has_plain t x = some_plain t x x.count

-- ---- the other routes, added to what there is before them

abbrev pub add_lane : Env → Rows → Own → ℕ → Route → Float → Option ℕ → Float
add_lane t f s j r a (Some l) = plus a (route_value t f s j l r)
add_lane t f s j r a None = a

abbrev pub other_step : Env → Rows → Own → Mix → ℕ → ℕ → Route → Float → Float
other_step t f s x j l r a =
    cond (plain t x.voice r || idle t r) a (add_lane t f s j r a (addend t x.voice r.voice l))

unfoldable pub others : Env → Rows → Own → Mix → ℕ → Float → ℕ → Float
unfolding plain route_value
others t f s x l a zero = a
others t f s x l a (suc k) = other_step t f s x k l (x.route k) (others t f s x l a k)

-- ---- at a tick: the base, and in the active span the plain routes; then the others

abbrev pub begun : Env → Rows → Own → Mix → ℕ → Float
begun t f s x l = cond (has_plain t x && in_span t l) (plains t f s x l x.count) (base_in t x)

-- THE SUM in lane l at a tick; f: what fed inputs read, s: the routes' own numbers
unfoldable pub tick_sum : Env → Rows → Own → Mix → ℕ → Float
unfolding plain plains others in_span
tick_sum t f s x l = others t f s x l (begun t f s x l) x.count

-- ---- in audio: old is what stands in the lane. "Lanes outside the active span, where plain routes exist, keep old
-- audio"

abbrev pub audio_begun : Env → Rows → Own → Mix → Float → ℕ → Float
audio_begun t f s x old l = cond (has_plain t x) (cond (in_span t l) (plains t f s x l x.count) old) (base_in t x)

unfoldable pub audio_sum : Env → Rows → Own → Mix → Float → ℕ → Float
unfolding plain plains others in_span
audio_sum t f s x old l = others t f s x l (audio_begun t f s x old l) x.count
