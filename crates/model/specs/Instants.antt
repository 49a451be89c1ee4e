-- What `said` is given at a tick of a list of calls: the state before it, the signals, and where the chunk stands, read
-- off the engine and the lent memories. Definitions only.
use Rattle.std.specs.Prelude.{false, cond, List, ℕ, ◌+◌, ◌*◌, max, ltb, get_or, Float}
use Rattle.std.specs.Float.{nan}
use Rattle.list.specs.Rows.{row_at}
use Rattle.curve_table.specs.Table.{points}
use Rattle.slots_tables.specs.Tables.{slot_place}
use Rattle.state.specs.declared.Signals.{Signals}
use Rattle.model.specs.Counts.{at}
use Rattle.model.specs.Env.{Env, no_part}
use Rattle.model.specs.Rule.{Values}
use Rattle.model.specs.Claim.{Moment, before}
use Rattle.model.specs.Said.{Heard, Instant, said}

-- a row of lanes; there is none beyond the stride
abbrev pub laned : ℕ → (ℕ → Float) → ℕ → Float
laned stride row l = cond (ltb l stride) (row l) nan

-- the signal of source i; a stride of 0 reads as 1
abbrev pub heard_by : List Float → Signals → ℕ → Heard
heard_by samples signals i =
    let p = get_or signals.part i no_part in
    record { count = p.len; number = λ k. at samples (p.at + k); stride = max 1 p.stride }

-- by what is read at the tick, its phase and the numbers before it. `snap` of what is read is the
-- mark in the block's first chunk, so it stands for the two
abbrev pub instant_by : Env → ℕ → Values → Instant
instant_by t phase v =
    record {
      stride = t.stride;
      primed = t.primed;
      any_fresh = t.snap;
      fresh = λ l. get_or t.fresh l false;
      active = λ l. get_or t.voices.active l false;
      newest = t.voices.newest;
      held = λ i l. at t.held (i * t.stride + l);
      global = λ i. at t.globals i;
      base = λ d. at t.bases d;
      amount = λ n. at t.gains.amount n;
      output = λ n. at t.gains.output n;
      random = λ n p. laned t.stride (v.own n (2 + p));
      slew = λ n p. laned t.stride (v.own n p);
      table = λ n p. row_at t.tables points (slot_place n p);
      number = λ d. laned t.stride (v.to d);
      heard = heard_by t.samples t.signals;
      frame = t.frame;
      phase = phase;
      opening = t.snap;
    }

abbrev pub instant_of : Moment → Instant
instant_of x = instant_by x.env x.phase (before x)

-- what is said of destination d in lane l at a tick, with `to` proposed
abbrev pub said_at : Moment → (ℕ → ℕ → Float) → ℕ → ℕ → Float
said_at x to d l = said x.wiring (instant_of x) (λ e. laned x.env.stride (to e)) d l
