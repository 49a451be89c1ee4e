-- A ramp, chunk by chunk and frame by frame. Assumes nothing.
use mathlib.Core.Path.{◌≡◌, refl, sym, ap, ◌∙◌}
use mathlib.Core.Bool.{Bool, true, false, true≢false, ◌||◌}
use mathlib.Core.Logic.{◌⊎◌, inl, inr}
use mathlib.Core.List.{List, [], ◌∷◌, map}
use Prim.Native.Nat.{ℕ, zero, suc, ◌+◌, ◌-◌, ◌*◌, ◌/◌, ◌%◌, ◌≤◌, ◌<◌, min}
use native.Mathlib.Decide.{dec_lt}
use native.Mathlib.Omega.{arith}
use borrow.Author.Tests.{ne_eqb, ltb-false}
use lib.Dec.{leb, ltb}
use lib.ListN.{length}
use lib.IntN.{pos}
use lib.Ieee.{Float, fin, of_int}
use Rattle.number.specs.Number.{plus, less, times, over, nearest32}
use Rattle.feed.specs.Numbers.{up_from}
use Rattle.refusal.specs.Judge.{◌when◌, judged}
use Rattle.list.specs.Fill.{fill}
use Rattle.list.specs.Part.{on_part}
use Rattle.state.specs.declared.Block.{Block}
use Rattle.state.specs.declared.State.{State}
use Rattle.state.specs.Ramped as M
use Rattle.block_chunks.proofs.Chunks.{total-nonempty}
use Rattle.model.specs.Chunks.{chunk_total, chunk_start, chunk_phase, chunk_of, chunk_list}
use Rattle.model.specs.Counts.{voice_count, at}
use Rattle.model.specs.NoteCalls.{voice_row}
use Rattle.model.specs.Outputs.{values_short, is_control_plan, from_place, lane_of, to_number, ramp_at, ramp_from, ramp_chunk, ramp_chunks, ramp_length, RampWritten, ramp_of}
use Rattle.engine_reads.specs.Spot.{spot_of}
use Rattle.engine_reads.specs.Ramp.{ramp_number}
use Rattle.engine_reads.specs.declared.Spot.{Spot}
use Rattle.engine_reads.proofs.Spots.{control-is, from-number-is, to-number-is}
use Rattle.engine_reads.proofs.Tables.{table, table-length, table_at, table-append, table_same, fill-front}

ramp-from-is : (f : ℕ → Float) (from to : Float) (j a n : ℕ) → ((k : ℕ) → k < n → f (a + k) ≡ ramp_at from to (j + k)) → ramp_from from to j n ≡ table f a n
ramp-from-is f from to j a zero h = refl
ramp-from-is f from to j a (suc n) h =
    let z : 0 < suc n = omega arith in
    let here : ramp_at from to j ≡ f a = ap (ramp_at from to) (omega arith) ∙ sym (h 0 z) ∙ ap f (omega arith) in
    let rest : ramp_from from to (suc j) n ≡ table f (suc a) n =
    ramp-from-is f from to (suc j) (suc a) n (λ k b. ap f (omega arith) ∙ h (suc k) (omega arith) ∙ ap (ramp_at from to) (omega arith)) in
    rw (here, rest)

thirty_two : nearest32 32 ≡ fin false 1 (pos 5)
unfolding of_int
thirty_two = refl

pub ramp-at-is : (from to : Float) (j : ℕ) {x : Float} → x ≡ nearest32 j → plus from (times (over (less to from) (fin false 1 (pos 5))) x) ≡ ramp_at from to j
ramp-at-is from to j e = rw (e, thirty_two)

-- g frames from o on, of f
step_left : (f o g : ℕ) → f - (o + g) ≡ f - o - min g (f - o)
step_left f o g = omega arith

step-all : (f o g : ℕ) → min g (f - o) + (f - o - min g (f - o)) ≡ f - o
step-all f o g = omega arith

step-place : (f o g : ℕ) → (f - (o + g) ≡ 0) ⊎ (o + g ≡ o + min g (f - o))
step-place f o g = elim (dec_lt (o + g) f) [
  | yes h ↦ inr (omega arith)
  | no h ↦ inl (omega arith)
]

-- ---- where a chunk lies in the ramp

module _ (b : Block) where
  abbrev edge : ℕ
  edge = b.phase % 32

  abbrev frames : ℕ
  frames = b.end - b.start

  abbrev off : ℕ → ℕ
  off i = 32 * i - edge

  phase-off : (i : ℕ) → edge + off i ≡ 32 * i + chunk_phase b i
  phase-off zero = omega arith
  phase-off (suc i) = omega arith

  start-off : (i : ℕ) → chunk_start b i ≡ b.start + off i
  start-off zero = omega arith
  start-off (suc i) = omega arith

  phase-below : (i : ℕ) → chunk_phase b i < 32
  phase-below zero = omega arith
  phase-below (suc i) = omega arith

  len_is : (i : ℕ) → min (32 - chunk_phase b i) (b.end - chunk_start b i) ≡ min (32 - chunk_phase b i) (frames - off i)
  len_is i = ap (λ (n : ℕ). min (32 - chunk_phase b i) n) (omega (arith, start-off i))

  next-off : (i : ℕ) → off (suc i) ≡ off i + (32 - chunk_phase b i)
  next-off zero = omega arith
  next-off (suc i) = omega arith

  -- every chunk passed, every frame passed
  all-passed : (i : ℕ) → i ≡ chunk_total b → frames - off i ≡ 0
  all-passed i e = elim (dec_lt b.start b.end) [
    | yes h ↦ omega (arith, total-nonempty b h)
    | no n ↦ omega arith
  ]

-- ---- the whole ramp

module _ (st : State) (m : List Float) (d v : ℕ) (s : Spot) (q : s ≡ spot_of st d) where
  abbrev b : Block
  b = st.block

  abbrev pub frame_number : ℕ → Float
  frame_number k = ramp_number m s v (b.phase % 32 + k)

  frame-number : (i k : ℕ) → chunk_phase b i + k < 32
      → frame_number (off b i + k) ≡ ramp_at (at m (from_place st d i + lane_of st d v)) (to_number st m d i v) (chunk_phase b i + k)
  unfolding ramp_number
  frame-number i k h =
      let t = b.phase % 32 + (off b i + k) in
      let row : t / 32 ≡ i = omega (arith, phase-off b i) in
      let place : t % 32 ≡ chunk_phase b i + k = omega (arith, phase-off b i) in
      rw (row, place, from-number-is st d s q m i v, to-number-is st d s q m i v)

  chunk-is : (i : ℕ) → ramp_chunk st m d v i (chunk_of b i) ≡ table frame_number (off b i) (min (32 - chunk_phase b i) (frames b - off b i))
  unfolding chunk_of
  chunk-is i =
      ramp-from-is frame_number (at m (from_place st d i + lane_of st d v)) (to_number st m d i v) (chunk_phase b i) (off b i) (min (32 - chunk_phase b i) (b.end - chunk_start b i))
      (λ k h. frame-number i k (omega (arith, phase-below b i)))
      ∙ ap (table frame_number (off b i)) (len_is b i)

  chunks-are : (i n : ℕ) → i + n ≡ chunk_total b → ramp_chunks st m d v i (map (chunk_of b) (up_from i n)) ≡ table frame_number (off b i) (frames b - off b i)
  chunks-are i zero e = table_same frame_number {a = off b i} {b = off b i} (sym (all-passed b i (omega arith))) (inl refl)
  chunks-are i (suc n) e =
      let g = 32 - chunk_phase b i in
      let len = min g (frames b - off b i) in
      let rest : ramp_chunks st m d v (suc i) (map (chunk_of b) (up_from (suc i) n)) ≡ table frame_number (off b i + g) (frames b - (off b i + g)) =
      chunks-are (suc i) n (omega arith) ∙ ap (λ (o : ℕ). table frame_number o (frames b - o)) (next-off b i) in
      let after : table frame_number (off b i + g) (frames b - (off b i + g)) ≡ table frame_number (off b i + len) (frames b - off b i - len) =
      table_same frame_number (step_left (frames b) (off b i) g) (step-place (frames b) (off b i) g) in
      rw (chunk-is i, rest, after)
      (table-append frame_number (off b i) len (frames b - off b i - len) ∙ ap (table frame_number (off b i)) (step-all (frames b) (off b i) g))

  ramp-is : ramp_chunks st m d v 0 (chunk_list b) ≡ table frame_number 0 (ramp_length st)
  unfolding chunk_list
  ramp-is =
      let n : frames b - off b 0 ≡ ramp_length st = omega arith in
      let z : off b 0 ≡ 0 = omega arith in
      chunks-are 0 (chunk_total b) (omega arith) ∙ table_same frame_number n (inr z)

  -- the memory once a number a frame is written
  pub written : (out : List Float) → ramp_length st ≤ length out
      → fill out frame_number (ramp_length st) ≡ on_part out 0 (ramp_length st) (ramp_chunks st m d v 0 (chunk_list b))
  written out h =
      fill-front out (table frame_number 0 (ramp_length st)) frame_number (ramp_length st) h (table-length frame_number 0 (ramp_length st))
      (λ k x g. ap frame_number (omega arith) ∙ sym (table_at frame_number 0 (ramp_length st) k x g))
      ∙ ap (on_part out 0 (ramp_length st)) (sym ramp-is)

-- ---- the call

or-false : (a b : Bool) → (a || b) ≡ false → b ≡ false
or-false true b h = absurd (true≢false h)
or-false false b h = h

accepted-short : (a s : Bool) → judged (2 when a ∷ 14 when s ∷ []) ≡ 0 → s ≡ false
unfolding judged
accepted-short true s h = absurd (omega arith)
accepted-short false true h = absurd (omega arith)
accepted-short false false h = refl

module _ (st : State) (m : List Float) (d v : ℕ) (out : List Float) {code : ℕ}
    (e : code ≡ judged (voice_row st v ∷ 14 when (values_short st m || ltb (length out) (ramp_length st)) ∷ [])) where
  pub ramp-refused : (code ≡ 0 → ⊥) → ◌≡◌ {A = RampWritten} (record { answer = M.Refused code; out = out }) (ramp_of st m d v out)
  unfolding ramp_of
  ramp-refused h =
      let ne : judged (voice_row st v ∷ 14 when (values_short st m || ltb (length out) (ramp_length st)) ∷ []) ≡ 0 → ⊥ = λ z. h (e ∙ z) in
      simp (ne_eqb _ 0 ne, e)

  pub ramp-room : code ≡ 0 → ramp_length st ≤ length out
  ramp-room z =
      ltb-false (length out) (ramp_length st)
      (or-false (values_short st m) (ltb (length out) (ramp_length st)) (accepted-short (leb (voice_count st) v) (values_short st m || ltb (length out) (ramp_length st)) (sym e ∙ z)))

  module _ (z : code ≡ 0) (s : Spot) (q : s ≡ spot_of st d) where
    none : judged (voice_row st v ∷ 14 when (values_short st m || ltb (length out) (ramp_length st)) ∷ []) ≡ 0
    none = sym e ∙ z

    pub ramp-none : s.control ≡ false → ◌≡◌ {A = RampWritten} (record { answer = M.Nothing; out = out }) (ramp_of st m d v out)
    unfolding ramp_of
    ramp-none a =
        let no : is_control_plan st d ≡ false = sym (control-is st d s q) ∙ a in
        rw (none, no)

    pub ramp-filled : s.control ≡ true → ramp_length st ≤ length out
        → ◌≡◌ {A = RampWritten} (record { answer = M.Filled (ramp_length st); out = fill out (frame_number st m d v s q) (ramp_length st) }) (ramp_of st m d v out)
    unfolding ramp_of
    ramp-filled a h =
        let yes : is_control_plan st d ≡ true = sym (control-is st d s q) ∙ a in
        rw (none, yes, written st m d v s q out h)
