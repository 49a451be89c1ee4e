-- What the chunks of a block go by whose plans are all swept, and that it is a state's. Definitions only.
use Rattle.std.specs.Prelude.{◌≡◌, Bool, List, ℕ, ◌-◌, min, length, get_or, Float}
use Rattle.config.specs.Sizes.{slots}
use Rattle.state.specs.declared.Signals.{Signals}
use Rattle.state.specs.declared.State.{State}
use Rattle.model.specs.Counts.{frame_count, stride_of, chunks_most, plan_total}
use Rattle.plan_sweep.specs.declared.Field.{Field}
use Rattle.plan_sweep.specs.Leads.{Led, Fielded}
use Rattle.plan_sheet.specs.Sheet.{Sheet, Laid}
use Rattle.block_prepare.specs.declared.Course.{Course}

-- of so many plans, of which at most `control` are control plans
abbrev pub course_of : Bool → Field → ℕ → ℕ → ℕ → Course
course_of on q chunks plans control =
    record { on = on; field = q; chunks = chunks; control = min control plans; count = plans - min control plans }

-- lists of all routes, of which none is swept yet
pub record Bare (s p : List ℕ) (g : List Float) : Type 0 where
  -- each list has a place for each route
  pub starts : length s ≡ slots
  pub steps : length p ≡ slots
  pub gains : length g ≡ slots
  -- no route moves through its signal yet
  pub none : (i : ℕ) → get_or p i 0 ≡ 0

-- every plan of st is swept up to frame `end`, by these lists; signals z, globals g, bases a, samples xs
pub record Goes (st : State) (end : ℕ) (z : Signals) (g a xs : List Float) (k : Course) (m : List Float) (w : List ℕ)
    (s p : List ℕ) (gs : List Float) : Type 0 where
  -- the course is that of the state
  pub course : k ≡ course_of k.on k.field (chunks_most st) (plan_total st.program) st.program.control
  -- and its field
  pub field : Fielded st.voices.active (stride_of st) (frame_count st) k.field
  -- the offsets of the routes, of which only the sheet tells
  pub offsets : List Float
  -- what each route is swept by
  pub led : Led z st.gains (stride_of st) end xs st.program.route s p gs offsets slots
  -- what each plan is swept by
  pub sheet : Sheet k.field p offsets st.gains g a st.program.plan (plan_total st.program) m w
  -- every row can be swept up to frame `end`
  pub laid : Laid k.field s p gs xs m w (plan_total st.program) end
