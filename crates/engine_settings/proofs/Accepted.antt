-- What is known where no row of a setting applies: the lent memories hold what is written. Assumes nothing.
use mathlib.Core.Path.{◌≡◌, refl, sym, ◌∙◌}
use mathlib.Core.Bool.{Bool, true, false, cond, not, ◌||◌}
use Prim.Native.Nat.{ℕ, suc, ◌+◌, ◌*◌, ◌≤◌, ◌<◌, min}
use native.Mathlib.Nat.{mul_comm}
use native.Mathlib.Omega.{arith}
use lib.Dec.{leb, ltb}
use lib.Ieee.{Float, le}
use borrow.Author.Tests.{ltb-false, leb-false}
use Rattle.config.specs.Sizes.{most_sources, most_destinations, most_voices, most_frames, lane_stride}
use Rattle.config.specs.declared.Config.{Config}
use Rattle.refusal.specs.Judge.{judged}
use Rattle.list.proofs.Rows.{row_inside}
use Rattle.number.specs.Number.{finite, zero32}
use Rattle.engine_settings.specs.Codes.{held_need, new_short, new_code, held_code, voice_held_code, base_code}

-- no row of three applies
none-of-3 : (a b s : Bool) (k l m : ℕ) → cond a (suc k) (cond b (suc l) (cond s (suc m) 0)) ≡ 0 → (a ≡ false) × (b ≡ false) × (s ≡ false)
none-of-3 false false false k l m h = (refl, refl, refl)
none-of-3 false false true k l m h = absurd (omega arith)
none-of-3 false true s k l m h = absurd (omega arith)
none-of-3 true b s k l m h = absurd (omega arith)

-- the last of them is two tests
neither : (a b : Bool) → a || b ≡ false → (a ≡ false) × (b ≡ false)
neither false false h = (refl, refl)
neither false true h = (refl, h)
neither true b h = (h, (cc))

-- row i of n lies inside
room : (s n i m : ℕ) → i < n → s * n ≤ m → i * s + s ≤ m
room s n i m h k = omega (arith, row_inside s {r = i} {n = n} h, mul_comm s n)

module _ (c : Config) (n code : ℕ) (z : code ≡ 0) where
  -- what `new` writes
  pub new-room : (d held globals bases : ℕ) → code ≡ new_code c n d held globals bases → (held_need c n ≤ held) × (min n most_sources ≤ globals) × (min d most_destinations ≤ bases)
  unfolding new_code judged
  new-room d held globals bases e =
      let f = none-of-3 (not (finite c.sample_rate)) (le c.sample_rate zero32 || (ltb most_frames c.max_frames || ltb most_voices c.voices)) (new_short c n d held globals bases) 5 12 13 (sym e ∙ z) in
      let g = neither (ltb held (held_need c n)) (ltb globals (min n most_sources) || ltb bases (min d most_destinations)) f.2 in
      let h = neither (ltb globals (min n most_sources)) (ltb bases (min d most_destinations)) g.1 in
      (ltb-false held (held_need c n) g.0, ltb-false globals (min n most_sources) h.0, ltb-false bases (min d most_destinations) h.1)

  module _ (s : ℕ) (w : s ≡ lane_stride (min c.voices most_voices)) where
    -- what `set_held` writes
    pub held-room : (held globals i : ℕ) (x : Float) → code ≡ held_code c n held globals i x → (i * s + s ≤ held) × (i < globals)
    unfolding held_code judged
    held-room held globals i x e =
        let f = none-of-3 (leb (min n most_sources) i) (not (finite x)) (ltb held (held_need c n) || ltb globals (min n most_sources)) 2 5 13 (sym e ∙ z) in
        let g = neither (ltb held (held_need c n)) (ltb globals (min n most_sources)) f.2 in
        let below = leb-false (min n most_sources) i f.0 in
        (rw w (room (lane_stride (min c.voices most_voices)) (min n most_sources) i held below (ltb-false held (held_need c n) g.0)), omega (arith, ltb-false globals (min n most_sources) g.1))

    -- what `set_voice_held` writes
    pub voice-held-room : (held i v : ℕ) (x : Float) → code ≡ voice_held_code c n held i v x → i * s + v < held
    unfolding voice_held_code judged
    voice-held-room held i v x e =
        let f = none-of-4 (leb (lane_stride (min c.voices most_voices)) v) (leb (min n most_sources) i) (not (finite x)) (ltb held (held_need c n)) (sym e ∙ z) in
        let below = leb-false (min n most_sources) i f.1 in
        let lane = leb-false (lane_stride (min c.voices most_voices)) v f.0 in
        rw w (omega (arith, room (lane_stride (min c.voices most_voices)) (min n most_sources) i held below (ltb-false held (held_need c n) f.2)))
      where
        none-of-4 : (a b d s : Bool) → ◌≡◌ {A = ℕ} (cond a 2 (cond b 3 (cond d 6 (cond s 14 0)))) 0 → (a ≡ false) × (b ≡ false) × (s ≡ false)
        none-of-4 false b d s h = let f = none-of-3 b d s 2 5 13 h in (refl, f.0, f.2)
        none-of-4 true b d s h = absurd (omega arith)

-- what `set_base` writes
pub base-room : (n bases d : ℕ) (x : Float) (code : ℕ) → code ≡ base_code n bases d x → code ≡ 0 → d < bases
unfolding base_code judged
base-room n bases d x code e z =
    let f = none-of-3 (leb (min n most_destinations) d) (not (finite x)) (ltb bases (min n most_destinations)) 3 5 13 (sym e ∙ z) in
    omega (arith, leb-false (min n most_destinations) d f.0, ltb-false bases (min n most_destinations) f.2)
