-- A part that lies inside the samples reads as the signal of its own numbers. Assumes nothing.
use mathlib.Core.Path.{◌≡◌, ◌∙◌}
use mathlib.Core.Bool.{Bool, true, false}
use mathlib.Core.Logic.{⊎_elim}
use mathlib.Core.List.{List}
use Prim.Native.Nat.{ℕ, ◌+◌, ◌*◌, ◌≤◌}
use native.Mathlib.Nat.{zero-add}
use native.Mathlib.Omega.{arith}
use lib.Dec.{ltb}
use lib.Ieee.{Float, nan}
use lib.ListN.{length}
use borrow.Author.Tests.{ltb-true}
use Rattle.list.specs.Part.{part}
use Rattle.list.proofs.Parts.{part_length, part_at}
use Rattle.state.specs.declared.SignalPart.{SignalPart}
use Rattle.model.specs.Env.{part_stride, in_part, sample_in}
use Rattle.lane_input.specs.Signal.{whole_of, signal_in}
use Rattle.lane_input.proofs.Numbers.{which}

module _ (samples : List Float) (p : SignalPart) (fits : p.at + p.len ≤ length samples) where
  -- the numbers of the part
  abbrev own : List Float
  own = part samples p.at (p.at + p.len)

  own-length : length own ≡ p.len
  own-length = part_length samples p.at (p.at + p.len) fits ∙ omega arith

  own-number : (n : ℕ) → in_part own (whole_of own p.stride) n ≡ in_part samples p n
  own-number n = rw own-length
      (⊎_elim
      (λ (h : ltb n p.len ≡ true). rw h (rw (zero-add, part_at samples p.at (p.at + p.len) n nan (let k = ltb-true n p.len h in omega arith))))
      (λ (h : ltb n p.len ≡ false). rw h)
      (which (ltb n p.len)))

  own-signal : (frame : ℕ) (voice : Bool) (lane : ℕ) → signal_in own p.stride frame voice lane ≡ sample_in samples p frame voice lane
  unfolding sample_in
  own-signal frame true lane = rw (own-number (frame * part_stride p + lane))
  own-signal frame false lane = own-number (frame * part_stride p)

  -- what a part's own numbers answer, the part answers
  pub of-own : (frame : ℕ) (voice : Bool) (lane : ℕ) {r : Float} → r ≡ signal_in own p.stride frame voice lane → r ≡ sample_in samples p frame voice lane
  of-own frame voice lane e = e ∙ own-signal frame voice lane
