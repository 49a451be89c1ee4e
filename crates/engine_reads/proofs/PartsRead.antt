-- The parts that are read of a destination, each with its number. Assumes nothing.
use mathlib.Core.Path.{◌≡◌, sym, ◌∙◌, ap}
use mathlib.Core.Bool.{true, false}
use mathlib.Core.List.{List, []}
use Prim.Native.Nat.{ℕ, ◌+◌, ◌*◌, ◌<◌, ◌≤◌}
use borrow.Author.Tests.{lt-ltb, le-ltb}
use lib.Ieee.{Float}
use Rattle.refusal.specs.Judge.{judged}
use Rattle.list.specs.Part.{part}
use Rattle.state.specs.declared.State.{State}
use Rattle.model.specs.Counts.{frame_count}
use Rattle.model.specs.Chunks.{chunk_total}
use Rattle.model.specs.Outputs.{Parted, values_short, audio_short, is_audio_plan, is_control_plan, audio_part, frame_part, from_part, to_part, width_of, audio_start, from_place, to_place}
use Rattle.engine_reads.specs.Spot.{spot_of}
use Rattle.engine_reads.specs.declared.Spot.{Spot}
use Rattle.engine_reads.proofs.Spots.{audio-is, control-is, width_is, rows-start-is, from-start-is, to-start-is}

same-part : (m : List Float) {a b n k : ℕ} → a ≡ b → n ≡ k → part m a (a + n) ≡ part m b (b + k)
same-part m p q = rw (p, q)

abbrev pub parted : ℕ → List Float → Parted
parted n xs = record { code = n; numbers = xs }

-- a part and a number, by what they are
pub both : {n : ℕ} {xs ys : List Float} {p : Parted} → xs ≡ ys → p ≡ parted n ys → (xs ≡ p.numbers) × (n ≡ p.code)
both q e = (q ∙ sym (ap (λ (z : Parted). z.numbers) e), sym (ap (λ (z : Parted). z.code) e))

-- a part that is handed out, by what it is
pub said : {xs ys : List Float} {p : Parted} → xs ≡ ys → p ≡ parted 0 ys → parted 0 xs ≡ p
said q e = ap (parted 0) q ∙ sym e

module _ (st : State) (m : List Float) (d : ℕ) where
  -- ---- of the audio memory

  module _ (h : audio_short st m ≡ true) where
    pub no-audio-short : audio_part st m d ≡ parted 14 []
    unfolding audio_part judged
    no-audio-short = simp h

    pub no-frame-short : (k : ℕ) → frame_part st m d k ≡ parted 14 []
    unfolding frame_part judged
    no-frame-short k = simp h

  module _ (h : audio_short st m ≡ false) (s : Spot) (e : s ≡ spot_of st d) where
    module _ (a : s.audio ≡ false) where
      not-audio : is_audio_plan st d ≡ false
      not-audio = sym (audio-is st d s e) ∙ a

      pub no-audio : audio_part st m d ≡ parted 0 []
      unfolding audio_part judged
      no-audio = simp (h, not-audio)

      pub no-frame : (k : ℕ) → frame_part st m d k ≡ parted 0 []
      unfolding frame_part judged
      no-frame k = simp (h, not-audio)

    module _ (a : s.audio ≡ true) where
      is-audio : is_audio_plan st d ≡ true
      is-audio = sym (audio-is st d s e) ∙ a

      pub audio-part-is : {f : ℕ} → f ≡ frame_count st → audio_part st m d ≡ parted 0 (part m s.rows (s.rows + f * s.width))
      unfolding audio_part judged
      audio-part-is {f} q =
          let long : f * s.width ≡ frame_count st * width_of st d = rw (q, width_is st d s e) in
          let whole : audio_part st m d ≡ parted 0 (part m (audio_start st d 0) (audio_start st d 0 + frame_count st * width_of st d)) = simp (h, is-audio) in
          whole ∙ sym (ap (parted 0) (same-part m (rows-start-is st d s e) long))

      pub frame_past : (k : ℕ) → frame_count st ≤ k → frame_part st m d k ≡ parted 0 []
      unfolding frame_part judged
      frame_past k b = simp (h, is-audio, le-ltb k (frame_count st) b)

      pub frame_is : (k : ℕ) → k < frame_count st → frame_part st m d k ≡ parted 0 (part m (s.rows + k * s.width) (s.rows + k * s.width + s.width))
      unfolding frame_part judged spot_of
      frame_is k b = simp (h, is-audio, lt-ltb k (frame_count st) b, e)

  -- ---- of the values

  module _ (h : values_short st m ≡ true) where
    pub no-from-short : from_part st m d ≡ parted 14 []
    unfolding from_part judged
    no-from-short = simp h

    pub no-to-short : to_part st m d ≡ parted 14 []
    unfolding to_part judged
    no-to-short = simp h

  module _ (h : values_short st m ≡ false) (s : Spot) (e : s ≡ spot_of st d) where
    module _ (a : s.control ≡ false) where
      not-control : is_control_plan st d ≡ false
      not-control = sym (control-is st d s e) ∙ a

      pub no-from : from_part st m d ≡ parted 0 []
      unfolding from_part judged
      no-from = simp (h, not-control)

      pub no-to : to_part st m d ≡ parted 0 []
      unfolding to_part judged
      no-to = simp (h, not-control)

    module _ (a : s.control ≡ true) {n : ℕ} (q : n ≡ chunk_total st.block) where
      is_control : is_control_plan st d ≡ true
      is_control = sym (control-is st d s e) ∙ a

      long : n * s.width ≡ chunk_total st.block * width_of st d
      long = rw (q, width_is st d s e)

      pub from-part-is : from_part st m d ≡ parted 0 (part m s.from (s.from + n * s.width))
      unfolding from_part judged
      from-part-is =
          let whole : from_part st m d ≡ parted 0 (part m (from_place st d 0) (from_place st d 0 + chunk_total st.block * width_of st d)) = simp (h, is_control) in
          whole ∙ sym (ap (parted 0) (same-part m (from-start-is st d s e) long))

      pub to-part-is : to_part st m d ≡ parted 0 (part m s.to (s.to + n * s.width))
      unfolding to_part judged
      to-part-is =
          let whole : to_part st m d ≡ parted 0 (part m (to_place st d 0) (to_place st d 0 + chunk_total st.block * width_of st d)) = simp (h, is_control) in
          whole ∙ sym (ap (parted 0) (same-part m (to-start-is st d s e) long))
