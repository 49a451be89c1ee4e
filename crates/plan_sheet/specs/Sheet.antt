-- The rows of plans that are swept: numbers and words, of each plan in its place. Definitions only.
use Rattle.std.specs.Prelude.{◌≡◌, Bool, List, ℕ, ◌+◌, ◌*◌, ◌≤◌, ◌<◌, length, get_or, set, Float}
use Rattle.config.specs.Sizes.{slots}
use Rattle.state.specs.declared.Gains.{Gains}
use Rattle.state.specs.declared.Plan.{Plan}
use Rattle.state_filled.specs.Filled.{no_plan}
use Rattle.model.specs.Counts.{at}
use Rattle.plan_sum.specs.Job.{base_by}
use Rattle.plan_sweep.specs.declared.Field.{Field}
use Rattle.plan_sweep.specs.declared.Pass.{Pass}
use Rattle.plan_sweep.specs.Leads.{pass_of, Swept}
use Rattle.plan_sweep.specs.Sweep.{Within}

-- all numbers, four a plan, and all words, two a plan
abbrev pub numbers_size : ℕ
numbers_size = 4 * slots

abbrev pub words_size : ℕ
words_size = 2 * slots

-- the row of plan d
unfoldable pub put_numbers : ℕ → Float → Float → Float → Float → List Float → List Float
put_numbers d begun base min max m =
    set (set (set (set m (4 * d) begun) (4 * d + 1) base) (4 * d + 2) min) (4 * d + 3) max

unfoldable pub put_words : ℕ → ℕ → ℕ → List ℕ → List ℕ
put_words d first count w = set (set w (2 * d) first) (2 * d + 1) count

-- its base
abbrev pub base_at : List Float → ℕ → Float
base_at m d = at m (4 * d + 1)

-- what its rows are swept by, held where `bound`
abbrev pub pass_at : Field → Bool → List Float → List ℕ → ℕ → Pass
pass_at q bound m w d =
    record {
      begun = at m (4 * d);
      bound = bound;
      min = at m (4 * d + 2);
      max = at m (4 * d + 3);
      first = get_or w (2 * d) 0;
      count = get_or w (2 * d + 1) 0;
      from = q.from;
      groups = q.groups;
      width = q.stride;
    }

-- plan x is swept, and its row says by what; p: by how much the routes move, o: their offsets
pub record Row (q : Field) (p : List ℕ) (o : List Float) (x : Plan) (m : List Float) (w : List ℕ) (d : ℕ) : Type 0 where
  -- the plan is swept
  pub swept : Swept q x p
  -- what its row is read as is what the plan is swept by
  pub pass : (bound : Bool) → pass_at q bound m w d ≡ pass_of q x (base_at m d) bound o

-- of each of the first n plans, and its base is that of gains v, globals g and bases a
pub record Sheet (q : Field) (p : List ℕ) (o : List Float) (v : Gains) (g a : List Float) (plans : List Plan) (n : ℕ)
    (m : List Float) (w : List ℕ) : Type 0 where
  -- there are all numbers and all words
  pub numbers : length m ≡ numbers_size
  pub words : length w ≡ words_size
  -- each plan has its row
  pub row : (d : ℕ) → d < n → Row q p o (get_or plans d no_plan) m w d
  -- and its base in it
  pub base : (d : ℕ) → d < n → base_at m d ≡ base_by v g a (get_or plans d no_plan).dest (get_or plans d no_plan).base

-- the rows of the first n plans can be swept up to frame `end`
pub record Laid (q : Field) (s p : List ℕ) (g xs m : List Float) (w : List ℕ) (n end : ℕ) : Type 0 where
  -- there are at most as many plans as slots
  pub plans : n ≤ slots
  -- there are all numbers and all words
  pub numbers : length m ≡ numbers_size
  pub words : length w ≡ words_size
  -- each row reads samples that are there
  pub within : (d : ℕ) (bound : Bool) → d < n → Within s p g xs (pass_at q bound m w d) end
