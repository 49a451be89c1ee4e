-- Marks of voices: fresh lanes start at their new values, renoted ones take new random numbers (document 01, Chunk and
-- value). Beside them stand the two any-marks, which outlive the voice that set them (case 10). Definitions only.
use Rattle.std.specs.Prelude.{◌≡◌, Bool, true, false, cond, not, ◌||◌, List, [], ◌∷◌, ℕ, ltb, length, get_or, set}
use Rattle.std.specs.Prelude.{replicate}
use Rattle.config.specs.Sizes.{most_voices}
use Rattle.voice.specs.Joined.{joined}
use Rattle.voice.specs.declared.Marks.{Marks}

-- whether any is true
abbrev pub any_of : List Bool → Bool
any_of [] = false
any_of (b ∷ bs) = b || any_of bs

-- engine.rs 292-295
unfoldable pub no_marks : Marks
no_marks =
    record {
      fresh = replicate most_voices false;
      any_fresh = false;
      renoted = replicate most_voices false;
      any_renoted = false;
    }

-- a note on v renotes it, and makes it fresh unless the note is legato (engine.rs 460-465)
unfoldable pub marks_on : Marks → ℕ → Bool → Marks
marks_on m v legato =
    cond (ltb v most_voices)
    (record {
      fresh = cond legato m.fresh (set m.fresh v true);
      any_fresh = not legato || m.any_fresh;
      renoted = set m.renoted v true;
      any_renoted = true;
    })
    m

-- v has ended: its own marks go (engine.rs 507-508)
unfoldable pub marks_ended : Marks → ℕ → Marks
marks_ended m v =
    cond (ltb v most_voices)
    (record {
      fresh = set m.fresh v false;
      any_fresh = m.any_fresh;
      renoted = set m.renoted v false;
      any_renoted = m.any_renoted;
    })
    m

-- a swap marks every active voice (engine.rs 366-373)
unfoldable pub marks_swapped : Marks → List Bool → Marks
marks_swapped m active =
    record {
      fresh = joined ◌||◌ m.fresh active;
      any_fresh = m.any_fresh || any_of active;
      renoted = joined ◌||◌ m.renoted active;
      any_renoted = m.any_renoted || any_of active;
    }

-- a nonempty block is over (engine.rs 603-610)
unfoldable pub marks_cleared : Marks → Marks
marks_cleared m = no_marks

-- ---- what the calls keep

-- a voice is marked only while the any-mark is set. So it is the same whether a block clears the marks always or, as
-- the Rust, where the any-mark is set (proofs/Covered.antt)
pub record Covered (m : Marks) : Type 0 where
  pub fresh_long : length m.fresh ≡ most_voices
  pub renoted_long : length m.renoted ≡ most_voices
  pub fresh_covered : (v : ℕ) → get_or m.fresh v false ≡ true → m.any_fresh ≡ true
  pub renoted_covered : (v : ℕ) → get_or m.renoted v false ≡ true → m.any_renoted ≡ true

-- the marks where the any-mark is set cleared (engine.rs 603-610)
abbrev pub cleared_where : Bool → List Bool → List Bool
cleared_where any marks = cond any (replicate most_voices false) marks
