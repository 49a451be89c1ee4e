-- WHAT A BLOCK SHOWS OF ITS TICKS, over every list of calls (stated in specs/Shown.antt).
-- Assumes nothing.
use mathlib.Core.Path.{◌≡◌, sym, subst}
use mathlib.Core.List.{List, [], ◌∷◌}
use Prim.Native.Nat.{ℕ, zero, suc, ◌-◌, ◌≤◌, min}
use native.Mathlib.Omega.{arith}
use lib.ListN.{length}
use lib.Ieee.{Float}
use Rattle.config.specs.Sizes.{slots, most_frames}
use Rattle.config.specs.declared.Config.{Config}
use Rattle.state.specs.declared.Block.{Block}
use Rattle.state.specs.declared.Signals.{Signals}
use Rattle.state.specs.declared.Wiring.{Wiring}
use Rattle.model.specs.Plans.{compiled}
use Rattle.model.specs.Counts.{frame_count}
use Rattle.model.specs.Chunks.{chunk_total, chunk_of}
use Rattle.model.specs.World.{World}
use Rattle.model.specs.Process.{env_of, snap_at, block_of, loaded, drawn, chunk_steps, closed, process}
use Rattle.model.specs.Calls.{Call, block, other, Runner, called}
use Rattle.model.specs.Model.{walks}
use Rattle.model.specs.Claim.{Moment, tick_at, chunk_ticks, block_ticks, Named, Each}
use Rattle.model.specs.Shown.{Shown, call_shows, ShownClaim}
use Rattle.model.proofs.Frames.{frame_on, loaded-frame, drawn-frame}
use Rattle.model.proofs.ModelRuns.{Good, walks-good, walks-chunks}
use Rattle.model.proofs.NamedHolds.{called-named}
use Rattle.model.proofs.BlockShows.{tick-shown, walks-fits}
use Rattle.model.proofs.Claim.{both, either}

module _ (w : Wiring) (slotted : length w.matrix.slot ≡ slots) (samples : List Float) (signals : Signals) where
  chunks-shown : (b : Block) (len : ℕ) (u : World) → Good w u → b.end ≤ frame_count u.state → (n : ℕ) → n ≤ chunk_total b
      → Each (λ x. Shown x (closed b len (chunk_steps samples signals b (chunk_total b) u))) (chunk_ticks w samples signals b n u)
  unfolding chunk_ticks
  chunks-shown b len u g fits zero h = tt
  chunks-shown b len u g fits (suc n) h =
      let P : Moment → Type 0 = λ x. Shown x (closed b len (chunk_steps samples signals b (chunk_total b) u)) in
      let y = chunk_steps samples signals b n u in
      both P (chunk_ticks w samples signals b n u) (tick_at w samples signals b n y) (chunks-shown b len u g fits n (omega arith))
      (either P (chunk_of b n).tick (moment y n ∷ []) (λ e. (tick-shown w slotted samples signals b len u g fits n (omega arith) e, tt)))
    where
      moment : World → ℕ → Moment
      moment y n =
          record {
            wiring = w;
            state = y.state;
            env = env_of y samples signals (chunk_of b n) (snap_at n y);
            phase = (chunk_of b n).phase;
            values = y.values;
          }

  block-shown : (start end : ℕ) (u : World) → u.state.program ≡ compiled w
      → Each (λ x. Shown x (process u samples signals start end).world) (block_ticks w samples signals start end u)
  block-shown start end u is =
      let b = block_of u.state start end in
      let d = drawn (loaded u) in
      let P : World → Moment → Type 0 = λ v x. Shown x v in
      either (P (process u samples signals start end).world) (walks u samples signals start end) (chunk_ticks w samples signals b (chunk_total b) d)
      (λ e.
      let fits : end ≤ frame_count d.state =
      subst (λ (c : Config). end ≤ min c.max_frames most_frames) (sym (frame_on (loaded-frame u) (drawn-frame (loaded u))).config) (walks-fits u samples signals start end e) in
      subst (λ (v : World). Each (P v) (chunk_ticks w samples signals b (chunk_total b) d)) (sym (walks-chunks u samples signals start end e))
      (chunks-shown b (end - start) d (walks-good u samples signals start end is e) fits (chunk_total b) (omega arith)))

call-shown : (names : ℕ → Wiring) (c : Call) (r : Runner) → Named names r → call_shows names c r
call-shown names (block samples signals start end) r h =
    block-shown (names r.installed) (h.slotted r.installed) samples signals start end r.world h.installed
call-shown names (other o) r h = tt

-- EVERY BLOCK SHOWS ITS TICKS
pub shown-claim : ShownClaim
shown-claim names [] r h = tt
shown-claim names (c ∷ cs) r h = (call-shown names c r h, shown-claim names cs (called c r) (called-named names r h c))
