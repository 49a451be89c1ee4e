-- Plain routes whose numbers stand in the samples. Definitions only.
use Rattle.std.specs.Prelude.{◌≡◌, Bool, true, false, cond, ◌&&◌, List, ℕ, zero, suc, ◌+◌, ◌*◌, ◌≤◌, ◌<◌, leb, ltb, length, get_or, Float}
use Rattle.std.specs.Float.Ieee.{is_nan}
use Rattle.config.specs.Sizes.{slots, most_sources, lanes}
use Rattle.number.specs.Number.{zero32, plus, times}
use Rattle.state.specs.declared.Gains.{Gains}
use Rattle.state.specs.declared.Plan.{Plan}
use Rattle.state.specs.declared.Read.{Read}
use Rattle.state.specs.declared.Read.TheVariants as D
use Rattle.state.specs.declared.Route.{Route}
use Rattle.state.specs.declared.SignalPart.{SignalPart}
use Rattle.state.specs.declared.Signals.{Signals}
use Rattle.state_filled.specs.Filled.{no_route}
use Rattle.model.specs.Counts.{at}
use Rattle.model.specs.Env.{Env, Rows, part_stride}
use Rattle.model.specs.Input.{read_in}
use Rattle.model.specs.Lanes.{in_span, sounding}
use Rattle.model.specs.RouteValue.{whole_row}
use Rattle.plan_sum.specs.Job.{slot_gain}
use Rattle.plan_sweep.specs.declared.Field.{Field}
use Rattle.plan_sweep.specs.declared.Leads.{Leads}
use Rattle.plan_sweep.specs.declared.Pass.{Pass}

-- the source whose signal is read lane by lane; where none is, the number after the last
abbrev pub row_key : Read → ℕ
row_key (D.Signal src voice) = cond voice src most_sources
row_key (D.Held src voice) = most_sources
row_key (D.Fed e voice) = most_sources
row_key D.Constant = most_sources
row_key D.RouteRandom = most_sources

-- a row of each frame up to `end` lies in the part and in `len` samples, and the part moves by p a frame
pub record Moves (q : SignalPart) (stride end len p : ℕ) : Type 0 where
  pub some : 0 < q.len
  pub step : p ≡ part_stride q
  pub wide : stride ≤ p
  pub part : end * p ≤ q.len
  pub inside : q.at + end * p ≤ len

-- r is swept up to frame `end`: the numbers that it reads start at s and move by p, its scaled gain is g, and its offset times its gain is o
pub record Lead (z : Signals) (v : Gains) (stride end : ℕ) (xs : List Float) (r : Route) (s p : ℕ) (g o : Float) : Type 0 where
  pub simple : r.simple ≡ true
  pub rows : (t : Env) → t.stride ≡ stride → t.signals ≡ z → t.up_to ≤ end → whole_row t r.source.read ≡ true
  pub reads : (t : Env) (f : Rows) (u : Float) (l : ℕ) → t.signals ≡ z → t.samples ≡ xs → t.frame < end → l < stride
      → read_in t f u l r.source.read ≡ at xs (s + (t.frame * p + l))
  pub wide : stride ≤ p
  pub inside : s + end * p ≤ length xs
  pub gain : g ≡ times r.scale (slot_gain v r.slot)
  pub offset : o ≡ times r.offset (slot_gain v r.slot)

-- each of the first n routes that moves at all
abbrev pub Led : Signals → Gains → ℕ → ℕ → List Float → List Route → List ℕ → List ℕ → List Float → List Float → ℕ → Type 0
Led z v stride end xs routes s p g o n =
    (i : ℕ) → i < n → 0 < get_or p i 0 → Lead z v stride end xs (get_or routes i no_route) (get_or s i 0) (get_or p i 0) (at g i) (at o i)

-- all routes
pub record Leading (z : Signals) (v : Gains) (stride end : ℕ) (xs : List Float) (routes : List Route) (l : Leads) : Type 0 where
  pub starts : length l.starts ≡ slots
  pub steps : length l.steps ≡ slots
  pub gains : length l.gains ≡ slots
  pub offsets : length l.offsets ≡ slots
  pub led : Led z v stride end xs routes l.starts l.steps l.gains l.offsets slots

-- by four lists
abbrev pub leads_of : List ℕ → List ℕ → List Float → List Float → Leads
leads_of s p g o = record { starts = s; steps = p; gains = g; offsets = o }

-- the lists are of all routes, and from the n-th on none is swept
pub record Blank (n : ℕ) (s p : List ℕ) (g o : List Float) : Type 0 where
  pub routes : n ≤ slots
  pub starts : length s ≡ slots
  pub steps : length p ≡ slots
  pub gains : length g ≡ slots
  pub offsets : length o ≡ slots
  pub none : (i : ℕ) → n ≤ i → get_or p i 0 ≡ 0

-- the sum of n offsets from `first` on
unfoldable pub offset_sum : List Float → ℕ → ℕ → Float
offset_sum o first zero = zero32
offset_sum o first (suc k) = plus (offset_sum o first k) (at o (first + k))

-- what the rows of a plan with that base are swept by, held where `bound`; o: the offsets of all routes
abbrev pub pass_of : Field → Plan → Float → Bool → List Float → Pass
pass_of q x base bound o =
    record {
      begun = plus base (offset_sum o x.first x.count);
      bound = bound;
      min = x.min;
      max = x.max;
      first = x.first;
      count = x.count;
      from = q.from;
      groups = q.groups;
      width = q.stride;
    }

-- where it is on, a voice is active, and its lanes are the active span
pub record Fielded (active : List Bool) (n f : ℕ) (q : Field) : Type 0 where
  pub stride : q.stride ≡ n
  pub frames : q.frames ≡ f
  pub within : q.on ≡ true → q.from + q.groups * lanes ≤ n
  pub sounds : q.on ≡ true → (t : Env) → t.voices.active ≡ active → t.stride ≡ n → sounding t ≡ true
  pub span : q.on ≡ true → (t : Env) → t.voices.active ≡ active → t.stride ≡ n → (l : ℕ) → l < n
      → in_span t l ≡ leb q.from l && ltb l (q.from + q.groups * lanes)

-- the plan has only routes that are swept, and some
pub record Swept (q : Field) (x : Plan) (p : List ℕ) : Type 0 where
  pub on : q.on ≡ true
  pub voice : x.voice ≡ true
  pub some : 0 < x.count
  pub routes : x.first + x.count ≤ slots
  pub number : is_nan x.min ≡ false
  pub led : (j : ℕ) → j < x.count → 0 < get_or p (x.first + j) 0
