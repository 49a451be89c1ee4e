-- The judgement by numbers is that of the block; parts looked at one by one. Assumes nothing.
use mathlib.Core.Path.{◌≡◌, refl, sym, ap, ◌∙◌}
use mathlib.Core.Bool.{Bool, true, false, cond, ◌||◌}
use mathlib.Core.List.{List, [], ◌∷◌}
use Prim.Native.Nat.{ℕ, suc, ◌+◌, ◌-◌, ◌≤◌, ◌<◌, min}
use native.Mathlib.Numerals.{add-one}
use native.Mathlib.Omega.{arith}
use borrow.Author.Tests.{lt-ltb, le-ltb, ltb-false}
use lib.Dec.{ltb}
use lib.ListN.{length, get_or, drop, drop_of_length-le}
use lib.Seq.{drop-cons}
use lib.Ieee.{Float}
use Rattle.std.specs.List.{list_any}
use Rattle.config.specs.Sizes.{most_sources, most_destinations, most_frames}
use Rattle.refusal.specs.Judge.{judged}
use Rattle.state.specs.declared.SignalPart.{SignalPart}
use Rattle.state.specs.declared.Signals.{Signals}
use Rattle.slots_tables.specs.Tables.{tables_need}
use Rattle.model.specs.World.{World}
use Rattle.model.specs.Process.{any_stride, any_outside, process_rows}
use Rattle.block_opening.specs.declared.Counts.{Counts}
use Rattle.block_opening.specs.declared.Lengths.{Lengths}
use Rattle.block_opening.specs.Codes.{counts_of, lengths_of, over_stride, outside, held_need, values_by, audio_by, engine_short_by, program_short_by, code_by}

pub code-of-block : (w : World) (samples : List Float) (signals : Signals) (end : ℕ)
    → code_by (counts_of w.state) (lengths_of w samples) signals.part end ≡ judged (process_rows w samples signals end)
unfolding code_by engine_short_by program_short_by judged
code-of-block w samples signals end = refl

pub any_stride_any : (parts : List SignalPart) → list_any over_stride parts ≡ any_stride parts
any_stride_any [] = refl
any_stride_any (p ∷ ps) = ap (λ r. over_stride p || r) (any_stride_any ps)

out-two : (a b r : Bool) → (a || (b || r)) ≡ ((a || b) || r)
out-two true b r = refl
out-two false b r = refl

pub any_outside_any : (n : ℕ) (parts : List SignalPart) → list_any (outside n) parts ≡ any_outside n parts
any_outside_any n [] = refl
any_outside_any n (p ∷ ps) = ap (λ r. outside n p || r) (any_outside_any n ps) ∙ sym (out-two (ltb n p.at) (ltb (n - p.at) p.len) (any_outside n ps))

-- ---- three tests of lengths, one after the other

module _ (a b : ℕ) (x y : ℕ) (u : Bool) where
  pub short-first : (p : ℕ) → p ≡ x → a < p → true ≡ (ltb a x || (ltb b y || u))
  short-first p e h = rw (lt-ltb a x (omega arith))

  pub short-second : (p q : ℕ) → p ≡ x → p ≤ a → q ≡ y → b < q → true ≡ (ltb a x || (ltb b y || u))
  short-second p q e h f k = rw (le-ltb a x (omega arith), lt-ltb b y (omega arith))

  pub short-third : (p q : ℕ) (t : Bool) → p ≡ x → p ≤ a → q ≡ y → q ≤ b → t ≡ u → t ≡ (ltb a x || (ltb b y || u))
  short-third p q t e h f k g = rw (le-ltb a x (omega arith), le-ltb b y (omega arith)) g

module _ (n : Counts) (l : Lengths) (p : ℕ) where
  pub engine-first : p ≡ held_need n.voices n.sources → l.held < p → true ≡ engine_short_by n l
  unfolding engine_short_by
  engine-first e h =
      short-first l.held l.globals (held_need n.voices n.sources) (min n.sources most_sources) (ltb l.bases (min n.dests most_destinations)) p e h

  pub program-first : p ≡ values_by n → l.values < p → true ≡ program_short_by n l
  unfolding program_short_by
  program-first e h =
      short-first l.values l.audio (values_by n) (audio_by n) (ltb l.tables (cond n.tabled tables_need 0)) p e h

-- ---- the judgement, row by row

module _ (n : Counts) (l : Lengths) (parts : List SignalPart) (end : ℕ) where
  pub code-1 : (p : ℕ) → p ≡ min n.frames most_frames → p < end → 1 ≡ code_by n l parts end
  unfolding code_by judged
  code-1 p e h = rw (lt-ltb (min n.frames most_frames) end (omega arith))

  module _ (p : ℕ) (e : p ≡ min n.frames most_frames) (h : end ≤ p) where
    pub code-13 : any_stride parts ≡ true → 13 ≡ code_by n l parts end
    unfolding code_by judged
    code-13 k = rw (le-ltb (min n.frames most_frames) end (omega arith), k)

    module _ (k : any_stride parts ≡ false) where
      pub code-14 : (engine_short_by n l || (program_short_by n l || any_outside l.samples parts)) ≡ true → 14 ≡ code_by n l parts end
      unfolding code_by judged
      code-14 t = rw (le-ltb (min n.frames most_frames) end (omega arith), k, t)

      pub code-0 : engine_short_by n l ≡ false → program_short_by n l ≡ false → any_outside l.samples parts ≡ false → 0 ≡ code_by n l parts end
      unfolding code_by judged
      code-0 t u v = rw (le-ltb (min n.frames most_frames) end (omega arith), k, t, u, v)

-- ---- what a block that is not refused finds

or-false : (a b : Bool) → (a || b) ≡ false → (a ≡ false) × (b ≡ false)
or-false true b h = absurd (let z : ◌≡◌ {A = Bool} true false = h in let o : ◌≡◌ {A = ℕ} 0 1 = cc in omega arith)
or-false false b h = (refl, h)

no_row : (k : ℕ) (t : Bool) (rest : ℕ) → cond t (suc k) rest ≡ 0 → (t ≡ false) × (rest ≡ 0)
no_row k true rest h = absurd (omega arith)
no_row k false rest h = (refl, h)

pub record Accepted (n : Counts) (l : Lengths) (parts : List SignalPart) (end : ℕ) : Type 0 where
  pub frames : end ≤ min n.frames most_frames
  pub strides : any_stride parts ≡ false
  pub held : held_need n.voices n.sources ≤ l.held
  pub globals : min n.sources most_sources ≤ l.globals
  pub bases : min n.dests most_destinations ≤ l.bases
  pub values : values_by n ≤ l.values
  pub audio : audio_by n ≤ l.audio
  pub tables : cond n.tabled tables_need 0 ≤ l.tables
  pub inside : any_outside l.samples parts ≡ false

pub accepted : (n : Counts) (l : Lengths) (parts : List SignalPart) (end : ℕ) → code_by n l parts end ≡ 0 → Accepted n l parts end
unfolding code_by engine_short_by program_short_by judged
accepted n l parts end h =
    let one = no_row 0 (ltb (min n.frames most_frames) end) _ h in
    let two = no_row 12 (any_stride parts) _ one.1 in
    let three = no_row 13 (engine_short_by n l || (program_short_by n l || any_outside l.samples parts)) 0 two.1 in
    let short = or-false (engine_short_by n l) (program_short_by n l || any_outside l.samples parts) three.0 in
    let more = or-false (program_short_by n l) (any_outside l.samples parts) short.1 in
    let e = or-false (ltb l.held (held_need n.voices n.sources)) (ltb l.globals (min n.sources most_sources) || ltb l.bases (min n.dests most_destinations)) short.0 in
    let f = or-false (ltb l.globals (min n.sources most_sources)) (ltb l.bases (min n.dests most_destinations)) e.1 in
    let g = or-false (ltb l.values (values_by n)) (ltb l.audio (audio_by n) || ltb l.tables (cond n.tabled tables_need 0)) more.0 in
    let k = or-false (ltb l.audio (audio_by n)) (ltb l.tables (cond n.tabled tables_need 0)) g.1 in
    record {
      frames = ltb-false (min n.frames most_frames) end one.0;
      strides = two.0;
      held = ltb-false l.held (held_need n.voices n.sources) e.0;
      globals = ltb-false l.globals (min n.sources most_sources) f.0;
      bases = ltb-false l.bases (min n.dests most_destinations) f.1;
      values = ltb-false l.values (values_by n) g.0;
      audio = ltb-false l.audio (audio_by n) k.0;
      tables = ltb-false l.tables (cond n.tabled tables_need 0) k.1;
      inside = more.1;
    }
