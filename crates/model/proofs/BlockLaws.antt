-- LAWS OF A BLOCK without a place: by destination, chunk, frame and lane. Frames outside the range stay, the audio rows of a control destination stay, the chunk rows of an
-- audio destination stay, and so do the numbers beyond the needs. Assumes nothing.
use mathlib.Core.Path.{◌≡◌, ap, ◌∙◌}
use mathlib.Core.Logic.{◌≢◌, ◌⊎◌, inl, inr, ⊎_elim}
use mathlib.Core.Bool.{true≢false}
use mathlib.Core.List.{List}
use Prim.Native.Nat.{ℕ, ◌+◌, ◌≤◌, ◌<◌}
use native.Mathlib.Omega.{arith}
use lib.ListN.{length}
use lib.Ieee.{Float}
use Rattle.config.specs.Sizes.{slots}
use Rattle.state.specs.declared.Signals.{Signals}
use Rattle.state.specs.declared.Wiring.{Wiring}
use Rattle.model.specs.Plans.{compiled}
use Rattle.model.specs.Counts.{voice_count, frame_count, chunks_most, control_total, plan_total, at}
use Rattle.model.specs.Layout.{Sizes, Memory, Part, PlanPart, of_plan, of_route, of_frame, ValidOfPlan, row_width, start, width, Apart}
use Rattle.model.specs.World.{World}
use Rattle.model.specs.Process.{values_of, audio_need_of, process}
use Rattle.model.proofs.LayoutHolds.{parts-inside, parts-apart}
use Rattle.model.proofs.ProgramLayout.{stride-least}
use Rattle.model.proofs.NamedHolds.{block-stays}
use Rattle.model.proofs.ShownRows.{sizes_at}
use Rattle.model.proofs.BlockShows.{sizes-same}
use Rattle.model.proofs.BlockLeaves.{Clear}
use Rattle.model.proofs.BlockUntouched.{block-values, block-audio}

-- lane l of the row of plan i at frame f, and of its rows of chunk c, by the sizes
abbrev pub frame_spot : Sizes → ℕ → ℕ → ℕ → ℕ
frame_spot z i f l = start z (of_frame i f) + l

abbrev pub part_spot : Sizes → ℕ → PlanPart → ℕ → ℕ
part_spot z i q l = start z (of_plan i q) + l

-- a place inside a row is clear of a row apart
pub clear-of : (z : Sizes) {m : Memory} (p q : Part m) (l : ℕ) → l < width z q → Apart z p q → Clear (start z p) (width z p) (start z q + l)
clear-of z p q l h (inl e) = inr (omega arith)
clear-of z p q l h (inr e) = inl (omega arith)

pub frames-differ : (d i f g : ℕ) → g ≢ f → of_frame d g ≢ of_frame i f
frames-differ d i f g ne e = ne (cc (e))

pub plans-differ : (d i f g : ℕ) → d ≢ i → of_frame d g ≢ of_frame i f
plans-differ d i f g ne e = ne (cc (e))

parts-differ : (d i : ℕ) (q r : PlanPart) → d ≢ i → of_plan d q ≢ of_plan i r
parts-differ d i q r ne e = ne (cc (e))

module _ (w : Wiring) (slotted : length w.matrix.slot ≡ slots) (samples : List Float) (signals : Signals) (from to : ℕ) (u : World) (is : u.state.program ≡ compiled w) where
  abbrev v : World
  v = (process u samples signals from to).world

  abbrev z : Sizes
  z = sizes_at u.state

  least : 1 ≤ z.stride
  least = stride-least (voice_count u.state)

  same-sizes : sizes_at v.state ≡ z
  same-sizes = let s = block-stays u samples signals from to in sizes-same u v s.config s.program

  -- FRAMES OUTSIDE THE RANGE STAY, of every plan
  pub frames-outside : (i f l : ℕ) → i < plan_total u.state.program → f < frame_count u.state → (f < from) ⊎ (to ≤ f) → l < row_width z i
      → at v.audio (frame_spot (sizes_at v.state) i f l) ≡ at u.audio (frame_spot z i f l)
  frames-outside i f l h k outside lane =
      ap (λ (x : Sizes). at v.audio (frame_spot x i f l)) same-sizes
      ∙ block-audio w slotted samples signals from to u is (frame_spot z i f l) (λ fits d g a b s e.
      let other : g ≢ f = λ q. ⊎_elim (λ p. omega arith) (λ p. omega arith) outside in
      clear-of z (of_frame d g) (of_frame i f) l lane (parts-apart z least (of_frame d g) (of_frame i f) (b, omega arith) (h, k) (frames-differ d i f g other)))

  -- THE AUDIO ROWS OF A CONTROL PLAN STAY
  pub control-frames : (i f l : ℕ) → i < control_total u.state.program → f < frame_count u.state → l < row_width z i
      → at v.audio (frame_spot (sizes_at v.state) i f l) ≡ at u.audio (frame_spot z i f l)
  control-frames i f l h k lane =
      ap (λ (x : Sizes). at v.audio (frame_spot x i f l)) same-sizes
      ∙ block-audio w slotted samples signals from to u is (frame_spot z i f l) (λ fits d g a b s e.
      let other : d ≢ i = λ q. omega arith in
      clear-of z (of_frame d g) (of_frame i f) l lane (parts-apart z least (of_frame d g) (of_frame i f) (b, omega arith) (omega arith, k) (plans-differ d i f g other)))

  -- THE ROWS OF AN AUDIO PLAN IN THE VALUES STAY
  pub audio-parts : (i : ℕ) (q : PlanPart) (l : ℕ) → control_total u.state.program ≤ i → i < plan_total u.state.program → ValidOfPlan (chunks_most u.state) q → l < row_width z i
      → at v.values (part_spot (sizes_at v.state) i q l) ≡ at u.values (part_spot z i q l)
  audio-parts i q l a h valid lane =
      ap (λ (x : Sizes). at v.values (part_spot x i q l)) same-sizes
      ∙ block-values w slotted samples signals from to u is (part_spot z i q l)
      (record {
        plans = λ d r b x.
            let other : d ≢ i = λ e. omega arith in
            clear-of z (of_plan d r) (of_plan i q) l lane (parts-apart z least (of_plan d r) (of_plan i q) (omega arith, x) (h, valid) (parts-differ d i r q other));
        routes = λ r p b x. clear-of z (of_route r p) (of_plan i q) l lane (parts-apart z least (of_route r p) (of_plan i q) (b, x) (h, valid) (λ e. true≢false (cc (e))));
      })

  -- NUMBERS BEYOND THE NEEDS STAY
  pub values-beyond : (k : ℕ) → values_of u.state ≤ k → at v.values k ≡ at u.values k
  values-beyond k h =
      block-values w slotted samples signals from to u is k
      (record {
        plans = λ d q b x. inr (omega (arith, parts-inside z least (of_plan d q) (omega arith, x)));
        routes = λ r p b x. inr (omega (arith, parts-inside z least (of_route r p) (b, x)));
      })

  pub audio-beyond : (k : ℕ) → audio_need_of u.state ≤ k → at v.audio k ≡ at u.audio k
  audio-beyond k h = block-audio w slotted samples signals from to u is k (λ fits d g a b s e. inr (omega (arith, parts-inside z least (of_frame d g) (b, omega arith))))
