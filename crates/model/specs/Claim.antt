-- THE CLAIM OVER EVERY LIST OF CALLS (document 01, demand 3 and The model). Definitions only; proved in
-- proofs/Claim.antt, where `the-claim` is of the type `TheClaim`, which stands at the end of this file.
--
-- In words. Take any engine with any memories; programs by number, each the one that its wiring (slots, registries,
-- configuration) compiles to; any list of calls, refused ones, swaps to and fro and memories that arrive otherwise
-- among them; any samples for signals. Then the model has one run over the list and no second, and it is what the
-- definitions leave. At each chunk of a block that ticks, unless a chain bars it, what the tick leaves meets the rule
-- (Rule.antt) in every lane of every control destination in use; whatever else meets it is the same there, and
-- whatever differs in one lane breaks it somewhere. The rule knows slots and registries, and no order.
--
-- Demand 3, phrase by phrase:
--   "At every control tick"             `Claim.ticks`, over `ticksOf`; `Claim.every`: these are the chunks that tick
--   "without a feed chain               `Unbarred` of what the program was compiled from, in `Claim.ticks`; the test
--    back to its start"                 `chainless` decides it
--   "in every lane"                     `Meets` and `Alike`: each lane below `lanes_of`
--   "each control destination"          `Meets` and `Alike`: each d that stands in `controls`
--   "holds"                             `(after x).to`: the "to" rows that `tickOf` leaves in the lent values
--   "what document 01's order-free      `Claimed.rule`; over whole lists `Claim.runs`
--    model gives"
--   "and no other values satisfy it"    `Alone.same` and `Alone.breaks` of `Claimed.equal` and `Claimed.compared`; over
--                                       whole lists `Claim.only`
--
-- One tick, worked out (document 01, case 5; ClaimExamples.antt computes it). A constant source goes into global
-- control destination 0, from 0 to 1, with amount 0.5 and output 1, and the base is 0.25. The block from 0 to 64 has
-- chunks at 0 and 32, both of phase 0, so both tick. At the second the number before is 0.75. It is not kept, since the
-- phase is 0. No route is plain, since the destination is global. So the sum is the base, 0.25, and the one route's
-- value, (1 * 1 + 0) * (0.5 * 1) = 0.5: 0.75, which lies between the bounds. The tick leaves 0.75 in lane 0; the rule
-- asks for 0.75 there and takes nothing else.
use Rattle.std.specs.Prelude.{◌≡◌, ◌≢◌, Bool, cond, List, [], ◌∷◌, ◌++◌, map, ℕ, zero, suc, ◌<◌, length, get_or}
use Rattle.std.specs.Prelude.{replicate, Float}
use Rattle.config.specs.Sizes.{slots, most_sources, most_destinations}
use Rattle.config.specs.declared.Config.{Config}
use Rattle.number.specs.Same.{◌≈◌}
use Rattle.feed.specs.Numbers.{In}
use Rattle.feed.specs.Order.{order, ordered}
use Rattle.state.specs.declared.Sources.{Sources}
use Rattle.state.specs.declared.Destinations.{Destinations}
use Rattle.state.specs.declared.Block.{Block}
use Rattle.state.specs.declared.Chunk.{Chunk}
use Rattle.state.specs.declared.Signals.{Signals}
use Rattle.state.specs.declared.State.{State}
use Rattle.state.specs.declared.Wiring.{Wiring}
use Rattle.state.specs.Registry.{no_source, no_dest}
use Rattle.slots.specs.Matrix.{new_matrix}
use Rattle.model.specs.Feeds.{counted_into, controls}
use Rattle.model.specs.Plans.{compiled}
use Rattle.model.specs.Env.{Env, Rows}
use Rattle.model.specs.Tick.{tick_of}
use Rattle.model.specs.Chunks.{chunk_total, chunk_of, chunk_list}
use Rattle.model.specs.World.{World}
use Rattle.model.specs.Process.{env_of, snap_at, block_of, loaded, drawn, chunk_steps}
use Rattle.model.specs.Calls.{Call, block, other, Runner, kept_of, start_of, program_at, called, run}
use Rattle.model.specs.Rule.{Values, lanes_of, ruled, Meets, Rule, Unbarred}
use Rattle.model.specs.Model.{values_in, walks, Models}

-- ---- the ticks of a list of calls, in order

-- one of them
pub record Moment : Type 0 where
  -- what the installed program was compiled from
  pub wiring : Wiring
  -- the engine before it
  pub state : State
  -- what is read at it
  pub env : Env
  -- the chunk's phase
  pub phase : ℕ
  -- the lent values before it
  pub values : List Float

-- of chunk n, the first, or none
abbrev pub tick_at : Wiring → List Float → Signals → Block → ℕ → World → List Moment
tick_at w samples signals b n u =
    let c = chunk_of b n in
    cond c.tick (record {
      wiring = w;
      state = u.state;
      env = env_of u samples signals c (snap_at n u);
      phase = c.phase;
      values = u.values;
    } ∷ []) []

unfoldable pub chunk_ticks : Wiring → List Float → Signals → Block → ℕ → World → List Moment
unfolding chunk_steps
chunk_ticks w samples signals b zero u = []
chunk_ticks w samples signals b (suc n) u =
    chunk_ticks w samples signals b n u ++ tick_at w samples signals b n (chunk_steps samples signals b n u)

abbrev pub block_ticks : Wiring → List Float → Signals → ℕ → ℕ → World → List Moment
block_ticks w samples signals start end u =
    let b = block_of u.state start end in
    cond (walks u samples signals start end) (chunk_ticks w samples signals b (chunk_total b) (drawn (loaded u))) []

abbrev pub call_ticks : (ℕ → Wiring) → Call → Runner → List Moment
call_ticks names (block samples signals start end) r =
    block_ticks (names r.installed) samples signals start end r.world
call_ticks names (other o) r = []

abbrev pub ticks_of : (ℕ → Wiring) → List Call → Runner → List Moment
ticks_of names [] r = []
ticks_of names (c ∷ cs) r = call_ticks names c r ++ ticks_of names cs (called c r)

-- ---- the ticks that are due: of each block that is accepted, whose range is not empty, with routes, each chunk that
-- ticks, by its first frame and its phase. No state after the block began stands in it

abbrev pub standing : Chunk → List (ℕ × ℕ)
standing c = cond c.tick ((c.start, c.phase) ∷ []) []

abbrev pub standings : List Chunk → List (ℕ × ℕ)
standings [] = []
standings (c ∷ cs) = standing c ++ standings cs

abbrev pub call_due : Call → Runner → List (ℕ × ℕ)
call_due (block samples signals start end) r =
    cond (walks r.world samples signals start end) (standings (chunk_list (block_of r.world.state start end))) []
call_due (other o) r = []

abbrev pub due : List Call → Runner → List (ℕ × ℕ)
due [] r = []
due (c ∷ cs) r = call_due c r ++ due cs (called c r)

-- how many there are
abbrev pub tick_total : List Call → Runner → ℕ
tick_total cs r = length (due cs r)

-- where a tick stands
abbrev pub stands : Moment → ℕ × ℕ
stands x = (x.env.frame, x.phase)

-- ---- chains

-- a test that says of what a program was compiled from whether a chain is barred: the order that the counted feeds
-- themselves would give has no feeder behind what it feeds
unfoldable pub chainless : Wiring → Bool
unfolding order counted_into controls
chainless w = ordered (counted_into w) (order (counted_into w) (controls w))

-- ---- what is claimed of a tick

-- the numbers before it, and those that the definitions leave
abbrev pub before : Moment → Values
before x = values_in x.state x.values

abbrev pub after : Moment → Values
after x = values_in x.state (tick_of x.state x.env x.phase x.values)

-- two sets of numbers are the same in every lane of every control destination in use
abbrev pub Alike : (Float → Float → Type 0) → Moment → Rows → Rows → Type 0
Alike Same x a b = (d l : ℕ) → In d (controls x.wiring) → l < lanes_of x.wiring x.env d → Same (a d l) (b d l)

-- the rule breaks at a destination and a lane
pub record Breaks (Same : Float → Float → Type 0) (x : Moment) (to : Rows) : Type 0 where
  -- the destination
  pub dest : ℕ
  -- the lane
  pub lane : ℕ
  -- it is a control destination in use
  pub control : In dest (controls x.wiring)
  -- it has that lane
  pub inside : lane < lanes_of x.wiring x.env dest
  -- what was proposed is not what the rule gives for what was proposed
  pub differs : Same (to dest lane) (ruled x.wiring x.env x.phase (before x) to dest lane) → ⊥

-- by one comparison of numbers
pub record Alone (Same : Float → Float → Type 0) (x : Moment) : Type 0 where
  -- what is the same as the definitions' numbers meets the rule
  pub meets : (to : Rows) → Alike Same x to (after x).to → Meets Same x.wiring x.env x.phase (before x) to
  -- what meets it is the same
  pub same : (to : Rows) → Meets Same x.wiring x.env x.phase (before x) to → Alike Same x to (after x).to
  -- what differs in one lane of one destination breaks it somewhere
  pub breaks : (to : Rows) (d l : ℕ) → In d (controls x.wiring) → l < lanes_of x.wiring x.env d
      → (Same (to d l) ((after x).to d l) → ⊥) → Breaks Same x to

pub record Claimed (x : Moment) : Type 0 where
  -- what the tick leaves meets the rule: numbers, ramps and slews
  pub rule : Rule x.wiring x.env x.phase (before x) (after x)
  -- nothing else does, by plain equality
  pub equal : Alone ◌≡◌ x
  -- nor by document 01's comparison, in which NaN equals NaN and the two zeros are equal
  pub compared : Alone ◌≈◌ x

-- ---- the claim

-- each program is what its name was compiled from, and each matrix has its slots
pub record Named (names : ℕ → Wiring) (r : Runner) : Type 0 where
  -- the installed one is
  pub installed : r.world.state.program ≡ compiled (names r.installed)
  -- its number is one of the programs'
  pub there : r.installed < length r.kept
  -- each other one is
  pub others : (k : ℕ) → k ≢ r.installed → program_at r k ≡ compiled (names k)
  -- each name has a matrix of all slots
  pub slotted : (k : ℕ) → length (names k).matrix.slot ≡ slots

-- the names of a fresh engine's programs: 0 is its own empty program, compiled from nothing; the given ones are 1, 2,
-- ..
abbrev pub nothing_wired : Config → Wiring
nothing_wired c =
    record {
      matrix = new_matrix;
      sources = record { count = 0; entry = replicate most_sources no_source };
      dests = record { count = 0; entry = replicate most_destinations no_dest };
      config = c;
    }

-- what a program is compiled from
pub record Compiled : Type 0 where
  -- slots, registries and configuration
  pub wiring : Wiring
  -- the tables of its curves
  pub tables : List Float

abbrev pub names_of : Config → List Compiled → ℕ → Wiring
names_of c ps k = get_or (nothing_wired c ∷ map (λ p. p.wiring) ps) k (nothing_wired c)

abbrev pub fresh_runner : Sources → Destinations → Config → List Compiled → Runner
fresh_runner ss ds c ps = start_of ss ds c (map (λ p. kept_of p.wiring p.tables) ps)

-- each matrix has its slots
abbrev pub Slotted : List Compiled → Type 0
Slotted [] = Unit {0}
Slotted (p ∷ ps) = (length p.wiring.matrix.slot ≡ slots) × Slotted ps

-- of every one of the list
abbrev pub Each : (Moment → Type 0) → List Moment → Type 0
Each P [] = Unit {0}
Each P (x ∷ xs) = P x × Each P xs

pub record Claim (names : ℕ → Wiring) (cs : List Call) (r : Runner) : Type 0 where
  -- the definitions' run is a run of the model
  pub runs : Models names cs r (run cs r)
  -- and the only one
  pub only : (q : Runner) → Models names cs r q → q ≡ run cs r
  -- the ticks below are all that are due, in their order, and no others
  pub every : map stands (ticks_of names cs r) ≡ due cs r
  -- at each without a chain
  pub ticks : Each (λ x. Unbarred x.wiring → Claimed x) (ticks_of names cs r)

-- THE CLAIM: from every engine whose programs are what their names were compiled from, over every list of calls
abbrev pub TheClaim : Type 0
TheClaim = (names : ℕ → Wiring) (cs : List Call) (r : Runner) → Named names r → Claim names cs r

-- and so from every fresh one, with any programs compiled from matrices with all slots: nothing else is asked
abbrev pub FromFresh : Type 0
FromFresh =
    (ss : Sources) (ds : Destinations) (c : Config) (ps : List Compiled) → Slotted ps → (cs : List Call)
    → Claim (names_of c ps) cs (fresh_runner ss ds c ps)
