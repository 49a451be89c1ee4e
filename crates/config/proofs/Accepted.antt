-- What is known of a configuration that is accepted.
use mathlib.Core.Path.{◌≡◌, refl}
use mathlib.Core.Bool.{Bool, true, false, not, ◌||◌, cond}
use Prim.Native.Nat.{ℕ, ◌≤◌}
use native.Mathlib.Omega.{arith}
use lib.Dec.{ltb}
use lib.Ieee.{Float, le}
use borrow.Author.Tests.{ltb-false}
use Rattle.number.specs.Number.{zero32, finite}
use Rattle.config.specs.Sizes.{most_frames, most_voices}
use Rattle.config.specs.Configuration.{config_code}

pub record Accepted (rate : Float) (frames voices : ℕ) : Type 0 where
  pub rate_finite : finite rate ≡ true
  pub rate_above : le rate zero32 ≡ false
  pub frames_most : frames ≤ most_frames
  pub voices_most : voices ≤ most_voices

none-applies : (p a b c : Bool) → ◌≡◌ {A = ℕ} (cond (not p) 6 (cond (a || (b || c)) 13 0)) 0 → (p ≡ true) × (a ≡ false) × (b ≡ false) × (c ≡ false)
none-applies true false false false h = (refl, refl, refl, refl)
none-applies true false false true h = absurd (omega arith)
none-applies true false true c h = absurd (omega arith)
none-applies true true b c h = absurd (omega arith)
none-applies false a b c h = absurd (omega arith)

pub accepted : (rate : Float) (frames voices : ℕ) → config_code rate frames voices ≡ 0 → Accepted rate frames voices
unfolding config_code
accepted rate frames voices h =
    let f = none-applies (finite rate) (le rate zero32) (ltb most_frames frames) (ltb most_voices voices) h in
    record {
      rate_finite = f.0;
      rate_above = f.1;
      frames_most = ltb-false most_frames frames f.2;
      voices_most = ltb-false most_voices voices f.3;
    }
