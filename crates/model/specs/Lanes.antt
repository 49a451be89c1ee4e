-- Which lanes a route is worked out in, and which it is added to (engine.rs 803-841, 1296-1343; document 01, Chunk and
-- value). Definitions only.
use Rattle.std.specs.Prelude.{Bool, true, false, cond, ◌&&◌, ◌||◌, List, ℕ, zero, suc, ◌+◌, ◌-◌, ◌*◌, ◌/◌, eqb, ltb}
use Rattle.std.specs.Prelude.{Option, Some, None}
use Rattle.std.specs.Prelude.{get_or, Float}
use Rattle.config.specs.Sizes.{lanes}
use Rattle.number.specs.Number.{zero32, one32}
use Rattle.model.specs.Env.{Env, is_fresh}

-- one of the marks k .. k + c - 1 is set
abbrev pub any_from : List Bool → ℕ → ℕ → Bool
any_from l k zero = false
any_from l k (suc c) = any_from l k c || get_or l (k + c) false

-- the first lane of a lane's group of 16
abbrev pub group_of : ℕ → ℕ
group_of lane = lane / lanes * lanes

abbrev pub marks : Env → List Bool
marks t = t.voices.active

-- the lane's group has an active voice
unfoldable pub in_group : Env → ℕ → Bool
in_group t lane = any_from (marks t) (group_of lane) lanes

-- a voice is active
unfoldable pub sounding : Env → Bool
sounding t = any_from (marks t) 0 t.stride

-- the lane's group lies in the active span: from the first group with an active voice to the last
unfoldable pub in_span : Env → ℕ → Bool
in_span t lane =
    any_from (marks t) 0 (group_of lane + lanes) && any_from (marks t) (group_of lane) (t.stride - group_of lane)

-- a lane, or none
abbrev pub lane_if : Bool → ℕ → Option ℕ
lane_if true l = Some l
lane_if false l = None

-- the route's lane that is added to a lane of the plan, by whether plan and route are per voice
abbrev pub addend : Env → Bool → Bool → ℕ → Option ℕ
addend t true true l = lane_if (in_group t l) l
addend t true false l = lane_if (in_group t l) 0
addend t false true l = t.voices.newest
addend t false false l = Some 0

abbrev pub same_group : ℕ → Option ℕ → Bool
same_group l (Some v) = eqb (group_of l) (group_of v)
same_group l None = false

-- the lanes in which the route is worked out, so that its slews move: whole groups
abbrev pub worked : Env → Bool → Bool → ℕ → Bool
worked t true true l = in_group t l
worked t false true l = same_group l t.voices.newest
worked t true false l = ltb l lanes
worked t false false l = ltb l lanes

-- 1 where the slews of a route's lane end at their input: fresh lanes of routes per voice
abbrev pub snap_of : Env → Bool → ℕ → Float
snap_of t voice l = cond (voice && (t.snap && is_fresh t l)) one32 zero32
