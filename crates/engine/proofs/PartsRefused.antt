-- A REFUSED PART IS EMPTY: where the number is not 0, nothing of the memory is handed out; and the number is that of the call's rows. Assumes nothing.
use mathlib.Core.Path.{◌≡◌, refl}
use mathlib.Core.Logic.{◌≢◌}
use mathlib.Core.List.{List, []}
use Prim.Native.Nat.{ℕ}
use lib.Ieee.{Float}
use borrow.Author.Tests.{ne_eqb}
use Rattle.refusal.specs.Judge.{judged}
use Rattle.state.specs.declared.State.{State}
use Rattle.model.specs.Outputs.{audio_part_rows, values_part_rows, audio_part, frame_part, from_part, to_part}

module _ (st : State) (m : List Float) (d : ℕ) where
  pub audio-part-refused : (audio_part st m d).code ≢ 0 → (audio_part st m d).numbers ≡ []
  unfolding audio_part
  audio-part-refused h = simp (ne_eqb (judged (audio_part_rows st m)) 0 h)

  pub frame_refused : (k : ℕ) → (frame_part st m d k).code ≢ 0 → (frame_part st m d k).numbers ≡ []
  unfolding frame_part
  frame_refused k h = simp (ne_eqb (judged (audio_part_rows st m)) 0 h)

  pub from-part-refused : (from_part st m d).code ≢ 0 → (from_part st m d).numbers ≡ []
  unfolding from_part
  from-part-refused h = simp (ne_eqb (judged (values_part_rows st m)) 0 h)

  pub to-part-refused : (to_part st m d).code ≢ 0 → (to_part st m d).numbers ≡ []
  unfolding to_part
  to-part-refused h = simp (ne_eqb (judged (values_part_rows st m)) 0 h)

  pub parts-judged : (k : ℕ)
      → ((audio_part st m d).code ≡ judged (audio_part_rows st m)) × ((frame_part st m d k).code ≡ judged (audio_part_rows st m))
      × ((from_part st m d).code ≡ judged (values_part_rows st m)) × ((to_part st m d).code ≡ judged (values_part_rows st m))
  unfolding audio_part frame_part from_part to_part
  parts-judged k = (refl, refl, refl, refl)
