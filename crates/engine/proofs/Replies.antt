-- The readers of an engine say what is promised. Assumes nothing.
use mathlib.Core.Path.{◌≡◌, refl}
use mathlib.Core.Bool.{Bool, true, false, cond, ◌&&◌, ◌||◌}
use mathlib.Core.List.{List, [], ◌∷◌}
use Prim.Native.Nat.{ℕ, zero, suc}
use lib.Dec.{eqb, ltb}
use lib.Ieee.{Float}
use native.Mathlib.Omega.{arith}
use borrow.Author.Tests.{ne_eqb}
use Rattle.std.specs.Prelude.{Option, Some, None}
use Rattle.refusal.specs.Judge.{Row, ◌when◌, judged}
use Rattle.reply.specs.Reply.{accepts, refuses, only, by_rows}
use Rattle.state.specs.declared.Chunk.{Chunk}
use Rattle.state.specs.Output.{Output}
use Rattle.state.specs.Output as O
use Rattle.state.specs.Reading.{Reading}
use Rattle.state.specs.Reading as R
use Rattle.state.specs.Ramped.{Ramped}
use Rattle.state.specs.Ramped as M
use Rattle.state.specs.declared.State.{State}
use Rattle.model.specs.Counts.{frame_count}
use Rattle.model.specs.Chunks.{chunk_total, chunk_of}
use Rattle.model.specs.Outputs.{values_short, audio_short, width_of, is_audio_plan, is_control_plan, reading_by}
use Rattle.model.specs.Outputs.{audio_number, to_number}
use Rattle.model.specs.Outputs.{has_latest, latest_number, ramp_length, ramped, RampWritten, chunk_at, output_of, audio_at}
use Rattle.model.specs.Outputs.{control_value, latest_of, ramp_of}
use Rattle.engine.specs.Replies.{chunk_reply, output_values, output_reply, reading_reply, ramped_reply}
use Rattle.engine.specs.Replies.{at_rows, value_rows, latest_rows, ramp_rows}
use Rattle.engine.specs.Replies.{chunk_says, output_says, at_says, value_says, latest_says, ramp_says}

-- ---- one thing, or nothing

chunk-if : (b : Bool) (c : Chunk) → chunk_reply (cond b (Some c) None) ≡ accepts (only b c)
chunk-if true c = refl
chunk-if false c = refl

reading-if : (b : Bool) (x : Float) → reading_reply (cond b (R.Value x) R.Nothing) ≡ accepts (only b x)
reading-if true x = refl
reading-if false x = refl

-- a number by its rows
read-says : (rows : List Row) (b : Bool) (x : Float) → reading_reply (reading_by rows b x) ≡ by_rows rows (only b x)
unfolding by_rows
read-says rows b x = go (judged rows)
  where
    go : (n : ℕ) → reading_reply (cond (eqb n 0) (cond b (R.Value x) R.Nothing) (R.Refused n)) ≡ cond (eqb n 0) (accepts (only b x)) (refuses n)
    go zero = reading-if b x
    go (suc n) = rw (ne_eqb (suc n) 0 (λ e. omega arith))

-- a shape
shape-if : (a c : Bool) (w n : ℕ) → output_reply (cond a (O.Audio w) (cond c (O.Control w n) O.Unmodulated)) ≡ accepts (output_values (cond a (O.Audio w) (cond c (O.Control w n) O.Unmodulated)))
shape-if true c w n = refl
shape-if false true w n = refl
shape-if false false w n = refl

output-if : (short a c : Bool) (w n : ℕ) → output_reply (cond short (O.Refused 14) (cond a (O.Audio w) (cond c (O.Control w n) O.Unmodulated))) ≡ by_rows (14 when short ∷ []) (output_values (cond a (O.Audio w) (cond c (O.Control w n) O.Unmodulated)))
unfolding by_rows judged
output-if true a c w n = refl
output-if false a c w n = shape-if a c w n

-- a ramp
ramp-if : (b : Bool) (n : ℕ) (out new : List Float) → ramped_reply (cond {A = RampWritten} b (record { answer = M.Filled n; out = new }) (record { answer = M.Nothing; out = out })).answer ≡ accepts (only b n)
ramp-if true n out new = refl
ramp-if false n out new = refl

-- ---- the calls

module _ (st : State) where
  pub chunk-said : (i : ℕ) (r : Option Chunk) → r ≡ chunk_at st i → (r ≡ chunk_at st i) × (chunk_reply r ≡ chunk_says st i)
  unfolding chunk_at chunk_says by_rows judged
  chunk-said i r h = (h, rw h (chunk-if (ltb i (chunk_total st.block)) (chunk_of st.block i)))

  pub output-said : (values audio : List Float) (d : ℕ) (r : Output) → r ≡ output_of st values audio d → (r ≡ output_of st values audio d) × (output_reply r ≡ output_says st values audio d)
  unfolding output_of output_says
  output-said values audio d r h =
      (h, rw h (output-if (values_short st values || audio_short st audio) (is_audio_plan st d) (is_control_plan st d) (width_of st d) (chunk_total st.block)))

  pub at-said : (audio : List Float) (d k v : ℕ) (r : Reading) → r ≡ audio_at st audio d k v → (r ≡ audio_at st audio d k v) × (reading_reply r ≡ at_says st audio d k v)
  unfolding audio_at at_says
  at-said audio d k v r h =
      (h, rw h (read-says (at_rows st audio v) (is_audio_plan st d && ltb k (frame_count st)) (audio_number st audio d k v)))

  pub value-said : (values : List Float) (d c v : ℕ) (r : Reading) → r ≡ control_value st values d c v → (r ≡ control_value st values d c v) × (reading_reply r ≡ value_says st values d c v)
  unfolding control_value value_says
  value-said values d c v r h =
      (h, rw h (read-says (value_rows st values v) (is_control_plan st d && ltb c (chunk_total st.block)) (to_number st values d c v)))

  pub latest-said : (values audio : List Float) (d v : ℕ) (r : Reading) → r ≡ latest_of st values audio d v → (r ≡ latest_of st values audio d v) × (reading_reply r ≡ latest_says st values audio d v)
  unfolding latest_of latest_says
  latest-said values audio d v r h =
      (h, rw h (read-says (latest_rows st values audio v) (has_latest st d) (latest_number st values audio d v)))

  ramp-says : (values : List Float) (d v : ℕ) (out : List Float) → ramped_reply (ramp_of st values d v out).answer ≡ ramp_says st values d v out
  unfolding ramp_of ramp_says by_rows
  ramp-says values d v out = go (judged (ramp_rows st values v out))
    where
      go : (n : ℕ) → ramped_reply (cond (eqb n 0) (ramped st values d v out) (record { answer = M.Refused n; out = out })).answer ≡ cond (eqb n 0) (accepts (only (is_control_plan st d) (ramp_length st))) (refuses n)
      go zero = ramp-if (is_control_plan st d) (ramp_length st) out _
      go (suc n) = rw (ne_eqb (suc n) 0 (λ e. omega arith))

  pub ramp-said : (values : List Float) (d v : ℕ) (out : List Float) (r : Ramped) → r ≡ (ramp_of st values d v out).answer → ramped_reply r ≡ ramp_says st values d v out
  ramp-said values d v out r h = rw h (ramp-says values d v out)
