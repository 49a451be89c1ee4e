-- Plans whose rows are swept in a chunk. Definitions only.
use Rattle.std.specs.Prelude.{◌≡◌, true, false, ◌||◌, List, ℕ, ◌+◌, ◌-◌, ◌*◌, ◌≤◌, ◌<◌, length, get_or, Float}
use Rattle.std.specs.Float.{inf}
use Rattle.std.specs.Float.Ieee.{lt}
use Rattle.config.specs.Sizes.{slots, most_frames, lanes}
use Rattle.state_filled.specs.Filled.{no_plan}
use Rattle.state.specs.declared.Chunk.{Chunk}
use Rattle.state.specs.declared.Gains.{Gains}
use Rattle.state.specs.declared.Plan.{Plan}
use Rattle.model.specs.Layout.{audio_row}
use Rattle.plan_sweep.specs.declared.Field.{Field}
use Rattle.plan_sweep.specs.declared.Pass.{Pass}
use Rattle.plan_sweep.specs.Leads.{Led, pass_of, Fielded, Swept}
use Rattle.audio_rows.specs.declared.Sweeping.{Sweeping}
use Rattle.audio_rows.specs.declared.Work.{Work}

-- what the rows of a plan are swept by: held, where the bounds hold anything
abbrev pub row_pass : Field → Plan → Float → List Float → Pass
row_pass q x base o = pass_of q x base (lt (inf true) x.min || lt x.max (inf false)) o

-- the lists are of all routes, each that moves lies in the samples, and the rows of n plans lie in `size` numbers
pub record Ready (q : Field) (c : Chunk) (n size : ℕ) (xs : List Float) (s p : List ℕ) (g o : List Float) : Type 0 where
  pub starts : length s ≡ slots
  pub steps : length p ≡ slots
  pub gains : length g ≡ slots
  pub offsets : length o ≡ slots
  pub stride : q.stride ≤ 64
  pub frames : q.frames ≤ most_frames
  pub plans : n ≤ slots
  pub end : c.start + c.len ≤ q.frames
  pub within : q.on ≡ true → q.from + q.groups * lanes ≤ q.stride
  pub wide : (i : ℕ) → i < slots → 0 < get_or p i 0 → q.stride ≤ get_or p i 0
  pub inside : (i : ℕ) → i < slots → 0 < get_or p i 0 → get_or s i 0 + (c.start + c.len) * get_or p i 0 ≤ length xs
  pub room : (d : ℕ) → d < n → audio_row q.stride q.frames d q.stride c.start + c.len * q.stride ≤ size

-- the field, the plans, of which the first n have no audio, the gains as set and the lists are those of the work
pub record Prepared (w : Work) (c : Chunk) (q : Field) (plans : List Plan) (n : ℕ) (v : Gains) (xs : List Float) (s p : List ℕ) (g o : List Float) : Type 0 where
  pub plan : w.plan ≡ plans
  pub control : w.control ≡ n
  pub gains : w.scene.gains ≡ v
  pub field : Fielded w.scene.voices.active w.scene.stride w.frames q
  pub led : Led w.signals v w.scene.stride (c.start + c.len) xs w.routes s p g o slots

-- the same by what the plans of a chunk are swept by
abbrev pub ReadyBy : Chunk → ℕ → Sweeping → List Float → Type 0
ReadyBy c size z xs =
    Ready z.field c (z.control + z.count) size xs z.leads.starts z.leads.steps z.leads.gains z.leads.offsets

abbrev pub PreparedBy : Work → Chunk → Sweeping → List Float → Type 0
PreparedBy w c z xs =
    (z.count ≡ w.plans - w.control)
    × Prepared w c z.field z.plan z.control z.levels xs z.leads.starts z.leads.steps z.leads.gains z.leads.offsets

-- every plan has audio and is swept
pub record Only (z : Sweeping) : Type 0 where
  pub control : z.control ≡ 0
  pub swept : (k : ℕ) → k < z.count → Swept z.field (get_or z.plan (z.control + k) no_plan) z.leads.steps
