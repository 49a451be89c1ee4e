-- A control tick: each control plan's new numbers, where its ramps start, and its slews, plan by plan in the lent
-- values (engine.rs 843-935; document 01, Chunk and value). Definitions only.
use Rattle.std.specs.Prelude.{Bool, not, cond, ◌&&◌, ◌||◌, List, ℕ, zero, suc, ◌+◌, eqb, set, Float}
use Rattle.number.specs.Number.{hold}
use Rattle.state.specs.declared.State.{State}
use Rattle.model.specs.Counts.{stride_of, chunks_most, plan_total, control_total, plan_at, at}
use Rattle.model.specs.Env.{Env, Rows, Own, is_fresh}
use Rattle.model.specs.Mix.{Mix, plan_mix}
use Rattle.model.specs.Layout.{plan_width, plan_from, plan_to, route_slew}
use Rattle.model.specs.Sums.{tick_sum}
use Rattle.model.specs.Slews.{source_after, aux_after}

-- ---- one destination

-- "An off-phase tick"
abbrev pub off_phase : ℕ → Bool
off_phase phase = not (eqb phase 0)

abbrev pub mix_width : Env → Mix → ℕ
mix_width t x = plan_width t.stride x.voice

-- a lane of a voice that started since the last block, in its first chunk (engine.rs 922)
abbrev pub starting : Env → Mix → ℕ → Bool
starting t x l = t.snap && (x.voice && is_fresh t l)

-- the lane keeps its number: the tick is off phase, on a primed program, and no voice starts there (engine.rs 923)
abbrev pub kept : Env → ℕ → Mix → ℕ → Bool
kept t phase x l = off_phase phase && (t.primed && not (starting t x l))

-- the sum, held to the bounds
abbrev pub held_sum : Env → Rows → Own → Mix → ℕ → Float
held_sum t f s x l = hold x.min x.max (tick_sum t f s x l)

-- THE NEW NUMBER in lane l: f, what fed inputs read; s, the routes' own numbers; old, the destination's numbers before
unfoldable pub new_to : Env → ℕ → Mix → Rows → Own → (ℕ → Float) → ℕ → Float
unfolding tick_sum
new_to t phase x f s old l = cond (kept t phase x l) (old l) (held_sum t f s x l)

-- where the ramp starts: at the new number where a voice starts or the program is not primed, else at the old; from:
-- where it started before
unfoldable pub new_from : Env → ℕ → Mix → Rows → Own → (ℕ → Float) → (ℕ → Float) → ℕ → Float
unfolding tick_sum
new_from t phase x f s old from l =
    cond (kept t phase x l) (from l) (cond (starting t x l || not t.primed) (held_sum t f s x l) (old l))

-- ---- in the lent values

-- the list with n numbers of g from a on
unfoldable pub fill_from : List Float → ℕ → (ℕ → Float) → ℕ → List Float
fill_from m a g zero = m
fill_from m a g (suc i) = set (fill_from m a g i) (a + i) (g i)

-- the numbers from a on
abbrev pub lanes_from : List Float → ℕ → ℕ → Float
lanes_from m a l = at m (a + l)

abbrev pub from_start : State → ℕ → ℕ
from_start st d = plan_from (stride_of st) (chunks_most st) d

abbrev pub to_start : State → ℕ → ℕ
to_start st d = plan_to (stride_of st) (chunks_most st) d

-- row q of route r
abbrev pub own_start : State → ℕ → ℕ → ℕ
own_start st r q = route_slew (stride_of st) (chunks_most st) (plan_total st.program) r q

-- the rows of all plans
abbrev pub rows_of : State → List Float → Rows
rows_of st m d = lanes_from m (to_start st d)

-- the own numbers of the routes of plan d
abbrev pub own_of : State → List Float → ℕ → Own
own_of st m d j q = lanes_from m (own_start st ((plan_at st d).first + j) q)

-- the slews of the first k routes of plan d, as g has them
unfoldable pub put_slews : State → ℕ → Own → ℕ → List Float → List Float
unfolding fill_from
put_slews st d g zero m = m
put_slews st d g (suc k) m =
    let r = (plan_at st d).first + k in
    fill_from (fill_from (put_slews st d g k m) (own_start st r 0) (g k 0) (stride_of st)) (own_start st r 1) (g k 1)
    (stride_of st)

-- the slews after plan d was worked out
abbrev pub slew_after : Env → Mix → Rows → Own → Own
slew_after t x f s j zero = source_after t x f s j
slew_after t x f s j (suc q) = aux_after t x f s j

-- numbers, starts of ramps and slews of plan d, as given
abbrev pub put_plan : State → ℕ → ℕ → (ℕ → Float) → (ℕ → Float) → Own → List Float → List Float
put_plan st d width to start slew m =
    put_slews st d slew (plan_at st d).count
    (fill_from (fill_from m (from_start st d) start width) (to_start st d) to width)

-- the turn of plan d
unfoldable pub turn : State → Env → ℕ → ℕ → List Float → List Float
unfolding fill_from put_slews new_to new_from source_after aux_after
turn st t phase d m =
    let x = plan_mix st d in
    let f = rows_of st m in
    let s = own_of st m d in
    let old = rows_of st m d in
    put_plan st d (mix_width t x) (new_to t phase x f s old)
    (new_from t phase x f s old (lanes_from m (from_start st d)))
    (slew_after t x f s) m

-- the turns of the first k plans
unfoldable pub turns : State → Env → ℕ → ℕ → List Float → List Float
unfolding turn
turns st t phase zero m = m
turns st t phase (suc k) m = turn st t phase k (turns st t phase k m)

-- THE TICK
unfoldable pub tick_of : State → Env → ℕ → List Float → List Float
unfolding turns
tick_of st t phase m = turns st t phase (control_total st.program) m
