-- Control plans that are swept: their sums, their rows after a tick, and what a round of turns is handed. Definitions only.
use Rattle.std.specs.Prelude.{◌≡◌, true, cond, ◌&&◌, List, ℕ, ◌+◌, ◌*◌, ◌≤◌, ◌<◌, leb, ltb, length, get_or, Float}
use Rattle.config.specs.Sizes.{slots, most_frames, lanes}
use Rattle.number.specs.Number.{hold}
use Rattle.state.specs.declared.Plan.{Plan}
use Rattle.state.specs.declared.State.{State}
use Rattle.model.specs.Counts.{stride_of, chunks_most, plan_total, at}
use Rattle.model.specs.Env.{Env, Rows, Own}
use Rattle.model.specs.Mix.{Mix, plan_mix}
use Rattle.model.specs.Sums.{base_in}
use Rattle.model.specs.Tick.{held_sum, new_to, new_from, fill_from, lanes_from}
use Rattle.plan_sweep.specs.declared.Field.{Field}
use Rattle.plan_sweep.specs.declared.Pass.{Pass}
use Rattle.plan_sweep.specs.Leads.{Led, pass_of, Fielded}
use Rattle.plan_sweep.specs.Sweep.{swept}
use Rattle.plan_turning.specs.declared.Round.{Round}

-- what a plan's sums are swept by: they are always held
abbrev pub sum_pass : Field → Plan → Float → List Float → Pass
sum_pass q x base o = pass_of q x base true o

-- the sum in lane l, held to the bounds: with the routes in the span, outside it the base
abbrev pub sum_at : List ℕ → List ℕ → List Float → List Float → Pass → Float → ℕ → ℕ → Float
sum_at s p g xs q base k l =
    hold q.min q.max (cond (leb q.from l && ltb l (q.from + q.groups * lanes)) (swept s p g xs q.first k l q.begun q.count) base)

-- they are the sums of t and x
abbrev pub Sums : Env → Mix → Rows → Own → List ℕ → List ℕ → List Float → List Float → Pass → Float → ℕ → Type 0
Sums t x f u s p g xs q base k = (l : ℕ) → l < q.width → sum_at s p g xs q base k l ≡ held_sum t f u x l

-- both rows of a plan after a tick: n lanes from a on, and n behind them
abbrev pub turned : Env → ℕ → Mix → Rows → Own → ℕ → ℕ → List Float → List Float
turned t phase x f u a n m =
    fill_from (fill_from m a (new_from t phase x f u (lanes_from m (a + n)) (lanes_from m a)) n) (a + n) (new_to t phase x f u (lanes_from m (a + n))) n

-- the sizes are below their limits, the lists are of all routes, and where the field is on, each route that moves lies in the samples up to the frame
pub record Ready (r : Round) (xs : List Float) (s p : List ℕ) (g o : List Float) : Type 0 where
  pub starts : length s ≡ slots
  pub steps : length p ≡ slots
  pub gains : length g ≡ slots
  pub offsets : length o ≡ slots
  pub stride : r.field.stride ≤ 64
  pub chunks : r.chunks ≤ 130
  pub control : r.control ≤ slots
  pub within : r.field.on ≡ true → r.field.from + r.field.groups * lanes ≤ r.field.stride
  pub frame : r.field.on ≡ true → r.frame + 1 ≤ most_frames
  pub wide : r.field.on ≡ true → (i : ℕ) → i < slots → 0 < get_or p i 0 → r.field.stride ≤ get_or p i 0
  pub inside : r.field.on ≡ true → (i : ℕ) → i < slots → 0 < get_or p i 0 → get_or s i 0 + (r.frame + 1) * get_or p i 0 ≤ length xs

-- the program of st has these plans, of which the first so many are control plans with bases b; the round's sizes are the state's, its tick and frame those of t, and
-- where the field is on, it and the lists are what t has
pub record Prepared (st : State) (t : Env) (r : Round) (plans : List Plan) (b xs : List Float) (s p : List ℕ) (g o : List Float) : Type 0 where
  pub plan : st.program.plan ≡ plans
  pub control : r.control ≤ plan_total st.program
  pub lanes : stride_of st ≡ r.field.stride
  pub chunks : chunks_most st ≡ r.chunks
  pub stride : t.stride ≡ r.field.stride
  pub frame : t.frame ≡ r.frame
  pub primed : t.primed ≡ r.tick.primed
  pub snap : t.snap ≡ r.tick.snap
  pub fresh : t.fresh ≡ r.tick.fresh
  pub voice : r.tick.voice ≡ true
  pub samples : t.samples ≡ xs
  pub base : (d : ℕ) → d < r.control → at b d ≡ base_in t (plan_mix st d)
  pub field : Fielded t.voices.active t.stride 1 r.field
  pub before : r.field.on ≡ true → t.frame < t.up_to
  pub led : r.field.on ≡ true → Led t.signals t.gains t.stride t.up_to xs st.program.route s p g o slots
