-- Frames and swept rows that lie in a part of the audio: that part is lent, and put back. Assumes nothing.
use mathlib.Core.Path.{◌≡◌, refl, sym, ap, ap₂, ◌∙◌}
use mathlib.Core.Bool.{Bool, true, false, cond, ◌&&◌}
use mathlib.Core.List.{List}
use Prim.Native.Nat.{ℕ, zero, suc, ◌+◌, ◌-◌, ◌*◌, ◌≤◌, ◌<◌}
use native.Mathlib.Nat.{zero-add, add-mul, mul_comm, mul_left_comm}
use native.Mathlib.Omega.{arith}
use lib.Dec.{eqb}
use lib.ListN.{length, set}
use lib.Ieee.{Float, nan}
use Rattle.config.specs.Sizes.{lanes}
use Rattle.list.specs.Part.{part, on_part}
use Rattle.list.proofs.Parts.{Room, part_length, on_part-inside, on_part-self, on_part-set}
use Rattle.list.proofs.Rows.{row_inside}
use Rattle.number.specs.Number.{hold}
use Rattle.state.specs.declared.Chunk.{Chunk}
use Rattle.state.specs.declared.State.{State}
use Rattle.model.specs.Audio.{Sounds, holds, new_audio, at_frame}
use Rattle.model.specs.Counts.{stride_of, plan_at, at}
use Rattle.model.specs.Env.{Env, Rows, Own}
use Rattle.model.specs.Layout.{plan_width}
use Rattle.model.specs.Mix.{Mix, plan_mix}
use Rattle.model.specs.Sums.{audio_sum}
use Rattle.model.specs.Tick.{mix_width, fill_from, lanes_from, rows_of, own_of}
use Rattle.model.proofs.FillFrom.{fill-length, fill-same}
use Rattle.lane_input.proofs.Numbers.{product-bound}
use Rattle.plan_sweep.specs.declared.Pass.{Pass}
use Rattle.plan_sweep.specs.Sweep.{swept_at, swept_row, swept_rows}
use Rattle.audio_rows.specs.Rows.{sounds, width_at, row_frame, row_frames}

-- ---- where the part lies

width-within : (s : ℕ) (voice : Bool) → 1 ≤ s → plan_width s voice ≤ s
width-within s true h = omega arith
width-within s false h = h

-- plan d's rows end within the numbers of all plans
pub part-within : (d plans s f start len n : ℕ) (voice : Bool) → 1 ≤ s → d < plans → start + len ≤ f → s * (plans * f) ≤ n
    → d * (s * f) + start * plan_width s voice + len * plan_width s voice ≤ n
part-within d plans s f start len n voice one h b room =
    let w : ℕ = plan_width s voice in
    omega (arith, add-mul start len w, product-bound (start + len) w f s b (width-within s voice one), mul_comm f s, row_inside (s * f) h, mul_left_comm plans s f)

-- ---- one row

-- what stood in another lane does not matter
new-old : (t : Env) (x : Mix) (f : Rows) (s : Own) (o q : ℕ → Float) (l : ℕ) → o l ≡ q l → new_audio t x f s o l ≡ new_audio t x f s q l
unfolding new_audio
new-old t x f s o q l e =
    ap (λ (z : Float). cond (holds t x l) (hold x.min x.max (audio_sum t f s x z l)) (audio_sum t f s x z l)) e

fill-room : {m ys : List Float} {a e : ℕ} (i : ℕ) (g : ℕ → Float) (n : ℕ) → Room m a e ys → Room m a e (fill_from ys i g n)
fill-room {ys = ys} i g n h = record { start = h.start; end = h.end; as_long = fill-length ys i g n ∙ h.as_long }

fill-part : (m ys : List Float) (a e i : ℕ) (g : ℕ → Float) (n : ℕ) → Room m a e ys → i + n ≤ e - a → fill_from (on_part m a e ys) (a + i) g n ≡ on_part m a e (fill_from ys i g n)
unfolding fill_from
fill-part m ys a e i g zero h b = refl
fill-part m ys a e i g (suc n) h b =
    let place : a + i + n ≡ a + (i + n) = omega arith in
    ap (λ (l : List Float). set l (a + i + n) (g n)) (fill-part m ys a e i g n h (omega arith))
    ∙ ap (λ (p : ℕ). set (on_part m a e (fill_from ys i g n)) p (g n)) place
    ∙ on_part-set (fill-room i g n h) (i + n) (g n) (omega arith)

lane-part : (m ys : List Float) (a e i l : ℕ) → Room m a e ys → i + l < e - a → lanes_from (on_part m a e ys) (a + i) l ≡ lanes_from ys i l
lane-part m ys a e i l h b =
    let place : a + i + l ≡ a + (i + l) = omega arith in
    ap (at (on_part m a e ys)) place ∙ on_part-inside h (i + l) nan b

abbrev pub with_part : List Float → ℕ → ℕ → Sounds → Sounds
with_part m a e s = sounds s.values (on_part m a e s.audio)

frame-part : (st : State) (t : Env) (d : ℕ) (m : List Float) (a e i : ℕ) (s : Sounds) → Room m a e s.audio → i + mix_width t (plan_mix st d) ≤ e - a
    → row_frame st t d (a + i) (with_part m a e s) ≡ with_part m a e (row_frame st t d i s)
unfolding row_frame
frame-part st t d m a e i s h b =
    let x : Mix = plan_mix st d in
    let f : Rows = rows_of st s.values in
    let own : Own = own_of st s.values d in
    let ys : List Float = s.audio in
    let old : ℕ → Float = lanes_from (on_part m a e ys) (a + i) in
    ap (sounds (row_frame st t d i s).values)
    (fill-part m ys a e i (new_audio t x f own old) (mix_width t x) h b
    ∙ ap (on_part m a e)
    (fill-same ys i (new_audio t x f own old) (new_audio t x f own (lanes_from ys i)) (mix_width t x) (λ l k. new-old t x f own old (lanes_from ys i) l (lane-part m ys a e i l h (omega arith)))))

-- ---- the rows of a chunk

frames-long : (st : State) (t : Env) (c : Chunk) (d a n : ℕ) (m : Sounds) → length (row_frames st t c d a n m).audio ≡ length m.audio
unfolding row_frames row_frame
frames-long st t c d a zero m = refl
frames-long st t c d a (suc n) m = simp (fill-length, frames-long st t c d a n m)

abbrev at_n : Env → Chunk → ℕ → Env
at_n t c n = at_frame t (c.start + n) (c.start + c.len) (t.snap && eqb n 0)

-- THE PART: the rows from a on are those of the part from a up to e
pub frames-part : (st : State) (t : Env) (c : Chunk) (d a e n : ℕ) (v m : List Float) → t.stride ≡ stride_of st → a ≤ e → e ≤ length m → n * width_at st d ≤ e - a
    → with_part m a e (row_frames st t c d 0 n (sounds v (part m a e))) ≡ row_frames st t c d a n (sounds v m)
unfolding row_frames
frames-part st t c d a e zero v m w p q b = ap (sounds v) (on_part-self m a e)
frames-part st t c d a e (suc n) v m w p q b =
    let k : ℕ = n * width_at st d in
    let done : Sounds = row_frames st t c d 0 n (sounds v (part m a e)) in
    let step : n < suc n = omega arith in
    let more : k + width_at st d ≤ e - a = omega (arith, row_inside (width_at st d) step) in
    let wide : mix_width (at_n t c n) (plan_mix st d) ≡ width_at st d = ap (λ (s : ℕ). plan_width s (plan_at st d).voice) w in
    let room : Room m a e done.audio =
    record { start = p; end = q; as_long = frames-long st t c d 0 n (sounds v (part m a e)) ∙ part_length m a e q } in
    ap (λ (z : ℕ). with_part m a e (row_frame st (at_n t c n) d z done)) (zero-add k)
    ∙ sym (frame-part st (at_n t c n) d m a e k done room (omega arith))
    ∙ ap (row_frame st (at_n t c n) d (a + k)) (frames-part st t c d a e n v m w p q (omega arith))

-- ---- the rows of a chunk, swept

module _ (s p : List ℕ) (g xs : List Float) (q : Pass) where
  swept-long : (a k n : ℕ) (m : List Float) → length (swept_rows s p g xs q a k n m) ≡ length m
  unfolding swept_rows swept_row
  swept-long a k zero m = refl
  swept-long a k (suc n) m = simp (fill-length, swept-long a k n m)

  -- THE PART: the same
  pub swept-part : (a e k n : ℕ) (m : List Float) → q.from + q.groups * lanes ≤ q.width → a ≤ e → e ≤ length m → n * q.width ≤ e - a
      → on_part m a e (swept_rows s p g xs q 0 k n (part m a e)) ≡ swept_rows s p g xs q a k n m
  unfolding swept_rows swept_row
  swept-part a e k zero m w h t b = on_part-self m a e
  swept-part a e k (suc n) m w h t b =
      let i : ℕ = n * q.width in
      let done : List Float = swept_rows s p g xs q 0 k n (part m a e) in
      let new : ℕ → Float = λ l. swept_at s p g xs q (k + n) (q.from + l) in
      let step : n < suc n = omega arith in
      let more : i + q.width ≤ e - a = omega (arith, row_inside q.width step) in
      let place : a + (i + q.from) ≡ a + i + q.from = omega arith in
      let room : Room m a e done = record { start = h; end = t; as_long = swept-long 0 k n (part m a e) ∙ part_length m a e t } in
      ap (λ (z : ℕ). on_part m a e (fill_from done (z + q.from) new (q.groups * lanes))) (zero-add i)
      ∙ sym (fill-part m done a e (i + q.from) new (q.groups * lanes) room (omega arith))
      ∙ ap₂ (λ (z : List Float) (j : ℕ). fill_from z j new (q.groups * lanes)) (swept-part a e k n m w h t (omega arith)) place
