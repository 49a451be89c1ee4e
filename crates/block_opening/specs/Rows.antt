-- The rows of a chunk, over the parts of a state that they read (model's Process). Definitions only.
use Rattle.std.specs.Prelude.{List, ℕ, zero, suc, get_or, Float}
use Rattle.state.specs.declared.Plan.{Plan}
use Rattle.state_filled.specs.Filled.{no_plan}
use Rattle.model.specs.Layout.{plan_width, plan_from, plan_to, chunk_from, chunk_to}
use Rattle.model.specs.Tick.{fill_from, lanes_from}

-- of plan d, of width w: "from" and "to" of the last tick become those of chunk i
unfoldable pub chunk_row : ℕ → ℕ → ℕ → ℕ → ℕ → List Float → List Float
unfolding fill_from
chunk_row s c w i d m =
    let from = fill_from m (chunk_from s c d w i) (lanes_from m (plan_from s c d)) w in
    fill_from from (chunk_to s c d w i) (lanes_from from (plan_to s c d)) w

-- of the first n plans
unfoldable pub chunk_rows : List Plan → ℕ → ℕ → ℕ → ℕ → List Float → List Float
unfolding chunk_row
chunk_rows plan s c i zero m = m
chunk_rows plan s c i (suc n) m = chunk_row s c (plan_width s (get_or plan n no_plan).voice) i n (chunk_rows plan s c i n m)
