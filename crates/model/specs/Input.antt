-- One input of a route, in one lane (engine.rs 1401-1478; document 01, Chunk and value). Definitions only.
use Rattle.std.specs.Prelude.{Bool, true, false, cond, ℕ, ◌+◌, ◌*◌, Float, Option, Some, None}
use Rattle.list.specs.Rows.{row_at}
use Rattle.number.specs.Number.{one32, half32, plus, times}
use Rattle.curve_table.specs.Table.{points, lookup_of}
use Rattle.slew.specs.Slew.{reach, slew_step}
use Rattle.state.specs.declared.Read.{Read}
use Rattle.state.specs.declared.Read.TheVariants as D
use Rattle.state.specs.declared.Slew.{Slew}
use Rattle.state.specs.declared.Input.{Input}
use Rattle.slots_tables.specs.Tables.{slot_place}
use Rattle.model.specs.Counts.{at}
use Rattle.model.specs.Env.{Env, Rows, lane_in, part_of, sample_in}

-- the lane of a row that has one for each voice, or only one
abbrev pub own : Bool → ℕ → ℕ
own voice lane = cond voice lane 0

-- a fed read: the feeder's row
abbrev pub fed_at : Env → Rows → ℕ → Bool → ℕ → Float
fed_at t f e voice lane = lane_in t (f e) (own voice lane)

-- what an input reads; random: the random number of this input in this lane
abbrev pub read_in : Env → Rows → Float → ℕ → Read → Float
read_in t f random lane (D.Signal src voice) = sample_in t.samples (part_of t.signals src) t.frame voice lane
read_in t f random lane (D.Held src true) = at t.held (src * t.stride + lane)
read_in t f random lane (D.Held src false) = at t.globals src
read_in t f random lane (D.Fed e voice) = fed_at t f e voice lane
read_in t f random lane D.Constant = one32
read_in t f random lane D.RouteRandom = random

-- -1..1 to 0..1
abbrev pub unipolar : Bool → Float → Float
unipolar bipolar u = cond bipolar (plus (times u half32) half32) u

-- over the table at the place of the slot and the position, where the input has one
abbrev pub curved : Env → ℕ → ℕ → Bool → Float → Float
curved t slot position true u = lookup_of (row_at t.tables points (slot_place slot position)) u
curved t slot position false u = u

-- from prev, where there is a slew: at most its rates times the steps, and to the input where snap is 1
abbrev pub slewed : Env → Float → Float → Option Slew → Float → Float
slewed t snap prev None u = u
slewed t snap prev (Some w) u = slew_step (reach w.up t.steps) (reach w.down t.steps) snap prev u

-- THE INPUT's value, which is also its slew afterwards
unfoldable pub input_in : Env → Rows → ℕ → ℕ → Float → Float → Float → ℕ → Input → Float
input_in t f slot position snap prev random lane i =
    slewed t snap prev i.slew (curved t slot position i.table
    (unipolar i.bipolar (read_in t f random lane i.read)))
