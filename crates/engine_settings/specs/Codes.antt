-- The rows of an engine's making, its settings and its swap by numbers: counts as they are kept, lent memories by their
-- lengths. Definitions only.
use Rattle.std.specs.Prelude.{Bool, not, ◌&&◌, ◌||◌, [], ◌∷◌, ◌++◌, ℕ, ◌*◌, min, eqb, leb, ltb, Float}
use Rattle.config.specs.Sizes.{slots, most_sources, most_destinations, most_voices, lane_stride}
use Rattle.config.specs.Configuration.{config_rows}
use Rattle.config.specs.declared.Config.{Config}
use Rattle.refusal.specs.Judge.{judged, ◌when◌}
use Rattle.number.specs.Number.{finite}
use Rattle.model.specs.Settings.{same_config}

-- what the held numbers of n sources take
abbrev pub held_need : Config → ℕ → ℕ
held_need c n = lane_stride (min c.voices most_voices) * min n most_sources

-- row 14 of `new`
abbrev pub new_short : Config → ℕ → ℕ → ℕ → ℕ → ℕ → Bool
new_short c n d held globals bases =
    ltb held (held_need c n) || (ltb globals (min n most_sources) || ltb bases (min d most_destinations))

unfoldable pub new_code : Config → ℕ → ℕ → ℕ → ℕ → ℕ → ℕ
unfolding judged
new_code c n d held globals bases =
    judged (config_rows c.sample_rate c.max_frames c.voices ++
    (14 when new_short c n d held globals bases ∷ []))

unfoldable pub held_code : Config → ℕ → ℕ → ℕ → ℕ → Float → ℕ
unfolding judged
held_code c n held globals i x =
    judged (3 when leb (min n most_sources) i ∷ 6 when not (finite x)
    ∷ 14 when (ltb held (held_need c n) || ltb globals (min n most_sources)) ∷ [])

unfoldable pub voice_held_code : Config → ℕ → ℕ → ℕ → ℕ → Float → ℕ
unfolding judged
voice_held_code c n held i v x =
    judged
    (2 when leb (lane_stride (min c.voices most_voices)) v ∷ 3 when leb (min n most_sources) i ∷ 6 when not (finite x)
    ∷ 14 when ltb held (held_need c n) ∷ [])

unfoldable pub base_code : ℕ → ℕ → ℕ → Float → ℕ
unfolding judged
base_code n bases d x =
    judged (4 when leb (min n most_destinations) d ∷ 6 when not (finite x) ∷ 14 when ltb bases (min n most_destinations)
    ∷ [])

unfoldable pub gain_code : ℕ → Float → ℕ
unfolding judged
gain_code n x = judged (5 when leb slots n ∷ 6 when not (finite x) ∷ [])

-- whether the program's gains are finite; then of the engine's configuration and counts, and of the program's with its
-- routes
unfoldable pub swap_code : Bool → Config → ℕ → ℕ → Config → ℕ → ℕ → ℕ → ℕ
unfolding judged
swap_code gains c n d c' n' d' routes =
    judged
    (6 when not gains
    ∷ 7 when not (same_config c c')
    ∷ 8 when (not (eqb (min routes slots) 0) && (ltb (min n most_sources) n' || ltb (min d most_destinations) d'))
    ∷ [])
