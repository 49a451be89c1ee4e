-- The values that a note curve gave the voices, one a voice, and how they glide (engine.rs 193-200, 466-473, 509-514,
-- 701-754). Definitions only. A note value is apart from the held numbers of its sources, which change only where a
-- value is set at once or glides (`setLane`, `movedLane`).
use Rattle.std.specs.Prelude.{Bool, false, cond, not, ◌&&◌, ◌||◌, List, [], ◌∷◌, ℕ, ltb, get_or, set, replicate, Float}
use Rattle.std.specs.Float.{nan}
use Rattle.std.specs.Float.Ieee.{lt, le, ne}
use Rattle.number.specs.Number.{zero32, plus, less, times, over, abs_of, nearest32}
use Rattle.config.specs.Sizes.{most_voices}
use Rattle.voice.specs.Joined.{joined}
use Rattle.voice.specs.declared.Glide.{Glide}
use Rattle.voice.specs.declared.Legato.{Legato}
use Rattle.voice.specs.declared.Legato.TheVariants as L
use Rattle.voice.specs.declared.Notes.{Notes}

-- ---- one voice

-- the glide ended, wherever it was going
abbrev pub stopped : Glide → Glide
stopped g = record { target = g.target; step = zero32 }

-- a note glides if it is legato, the program glides and the seconds are above 0 (engine.rs 466-467)
unfoldable pub legato_time : Bool → Bool → Float → Legato
legato_time legato glide seconds = cond (legato && (glide && lt zero32 seconds)) (L.Glide seconds) L.NoGlide

-- whether a value set to the target glides there (engine.rs 705)
abbrev pub glides_to : Float → Float → Legato → Bool
glides_to x target L.NoGlide = false
glides_to x target (L.Glide seconds) = ne target x

-- the step per sample: the whole way over the seconds' samples. 0 where that product overflows, infinite where it is 0
-- (engine.rs 707-708)
abbrev pub step_of : Float → Float → Legato → Float → Float
step_of x target L.NoGlide rate = zero32
step_of x target (L.Glide seconds) rate = over (abs_of (less target x)) (times seconds rate)

-- the glide and the value, once a value is set (engine.rs 701-721)
unfoldable pub set_glide : Glide → Float → Float → Legato → Float → Glide
set_glide g x target legato rate =
    cond (glides_to x target legato) (record { target = target; step = step_of x target legato rate }) (stopped g)

unfoldable pub set_value : Float → Float → Legato → Float
set_value x target legato = cond (glides_to x target legato) x target

-- a glide moves unless its step is 0 (engine.rs 737)
unfoldable pub moving : Glide → Bool
moving g = not (le g.step zero32)

-- what is left is at most what the glide moves (engine.rs 742)
unfoldable pub arrives : Float → Glide → Float → Bool
arrives x g delta = le (abs_of (less g.target x)) delta

-- towards the target by delta, and exactly to it where it arrives (engine.rs 742-750)
unfoldable pub moved : Float → Glide → Float → Float
moved x g delta = cond (arrives x g delta) g.target (cond (lt x g.target) (plus x delta) (less x delta))

-- the value and the glide after so many frames (engine.rs 733-751)
unfoldable pub moved_value : Float → Float → Glide → Float
moved_value frames x g = cond (moving g) (moved x g (times g.step frames)) x

unfoldable pub moved_glide : Float → Float → Glide → Glide
moved_glide frames x g = cond (moving g && arrives x g (times g.step frames)) (stopped g) g

-- the number in the voice's lane of a source that holds the value: it becomes the value where it is set at once, and
-- where a glide moved. `g` is the glide before the frames passed, `x` the value after (engine.rs 718-719, 751)
unfoldable pub set_lane : Float → Float → Legato → Float → Float
set_lane x target legato lane = cond (glides_to x target legato) lane target

unfoldable pub moved_lane : Glide → Float → Float → Float
moved_lane g x lane = cond (moving g) x lane

-- ---- every voice

-- whether any glide moves; where none does, nothing is to be done
unfoldable pub any_moving : List Glide → Bool
any_moving [] = false
any_moving (g ∷ gs) = moving g || any_moving gs

-- what stands where nothing glides
abbrev pub no_glide : Glide
no_glide = record { target = zero32; step = zero32 }

-- every value 0, and no glide (engine.rs 299-303)
unfoldable pub no_notes : Notes
no_notes = record { value = replicate most_voices zero32; glide = replicate most_voices no_glide }

-- value and glide of voice v; a read past the last stands for a NaN
abbrev pub value_of : Notes → ℕ → Float
value_of s v = get_or s.value v nan

abbrev pub unread : Glide
unread = record { target = nan; step = nan }

abbrev pub glide_of : Notes → ℕ → Glide
glide_of s v = get_or s.glide v unread

-- a value set for v, with a legato time, at a sample rate (engine.rs 701-721)
unfoldable pub set_note : Notes → ℕ → Float → Legato → Float → Notes
set_note s v target legato rate =
    cond (ltb v most_voices)
    (record {
      value = set s.value v (set_value (value_of s v) target legato);
      glide = set s.glide v (set_glide (glide_of s v) (value_of s v) target legato rate);
    })
    s

-- v has ended: its glide ends, and the value stays where it is (engine.rs 509-514)
unfoldable pub ended_note : Notes → ℕ → Notes
ended_note s v =
    cond (ltb v most_voices) (record { value = s.value; glide = set s.glide v (stopped (glide_of s v)) }) s

-- so many frames pass (engine.rs 733-754)
unfoldable pub advanced : Notes → ℕ → Notes
advanced s frames =
    record {
      value = joined (moved_value (nearest32 frames)) s.value s.glide;
      glide = joined (moved_glide (nearest32 frames)) s.value s.glide;
    }

-- whether any value is on its way
unfoldable pub gliding : Notes → Bool
gliding s = any_moving s.glide
