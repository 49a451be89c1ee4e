-- The memories of a program: its parts end inside its needs and stand apart, and the needs of a compiled program are together within document 01's bound.
-- Assumes nothing.
use mathlib.Core.Path.{◌≡◌}
use mathlib.Core.Logic.{◌≢◌}
use Prim.Native.Nat.{ℕ, ◌+◌, ◌≤◌}
use native.Mathlib.Omega.{arith}
use lib.ListN.{length}
use Rattle.config.specs.Sizes.{slots, lane_stride}
use Rattle.config.specs.Configuration.{config_code}
use Rattle.config.proofs.Accepted.{accepted}
use Rattle.state.specs.declared.Program.{Program}
use Rattle.state.specs.declared.Wiring.{Wiring}
use Rattle.model.specs.Need.{need_bound}
use Rattle.model.specs.Layout.{sizes_of, Memory, values, audio, Part, start, width, Valid, Apart}
use Rattle.model.specs.Wiring.{candidates}
use Rattle.model.specs.Feeds.{plan_order}
use Rattle.model.specs.Plans.{compiled}
use Rattle.model.specs.Compile.{program_values, program_audio}
use Rattle.model.proofs.Candidates.{candidates-most}
use Rattle.model.proofs.InUse.{in-use-most}
use Rattle.model.proofs.Ordered.{plan-order-length}
use Rattle.model.proofs.NeedBound.{need-bound-routed}
use Rattle.model.proofs.LayoutHolds.{parts-inside, parts-apart}

pub stride-least : (v : ℕ) → 1 ≤ lane_stride v
stride-least v = omega arith

module _ (p : Program) where
  pub values-inside : (q : Part values) → Valid (sizes_of p) q → start (sizes_of p) q + width (sizes_of p) q ≤ program_values p
  values-inside q v = parts-inside (sizes_of p) (stride-least p.config.voices) q v

  pub audio-inside : (q : Part audio) → Valid (sizes_of p) q → start (sizes_of p) q + width (sizes_of p) q ≤ program_audio p
  audio-inside q v = parts-inside (sizes_of p) (stride-least p.config.voices) q v

  pub program-apart : {m : Memory} (q r : Part m) → Valid (sizes_of p) q → Valid (sizes_of p) r → q ≢ r → Apart (sizes_of p) q r
  program-apart q r v u n = parts-apart (sizes_of p) (stride-least p.config.voices) q r v u n

-- ---- of a compiled program

-- at most a plan a route
pub plans-routes : (w : Wiring) → length (plan_order w) ≤ length (candidates w)
plans-routes w = omega (arith, plan-order-length w, in-use-most w)

pub plans-most : (w : Wiring) → length w.matrix.slot ≡ slots → length (plan_order w) ≤ slots
plans-most w e = omega (arith, plans-routes w, candidates-most w e)

-- THE NEEDS OF A COMPILED PROGRAM ARE WITHIN THE BOUND, the matrix having its slots and the configuration being accepted
pub compiled-bound : (w : Wiring) → length w.matrix.slot ≡ slots
    → config_code w.config.sample_rate w.config.max_frames w.config.voices ≡ 0
    → program_values (compiled w) + program_audio (compiled w) ≤ need_bound w.config.voices w.config.max_frames (compiled w).plans (compiled w).routes
unfolding compiled
compiled-bound w e h =
    let a = accepted w.config.sample_rate w.config.max_frames w.config.voices h in
    let few : length (plan_order w) ≤ slots = plans-most w e in
    need-bound-routed w.config.voices w.config.max_frames (compiled w).plans (compiled w).routes a.frames_most (omega arith) (plans-routes w)
