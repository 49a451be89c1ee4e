-- The steps of compiling that the code takes one by one. Definitions only.
use Rattle.std.specs.Prelude.{Bool, cond, not, ◌&&◌, ◌||◌, List, [], ◌∷◌, ℕ, min, ltb, length, Float}
use Rattle.config.specs.Sizes.{slots, most_voices, most_frames}
use Rattle.config.specs.Configuration.{config_code}
use Rattle.config.specs.declared.Config.{Config}
use Rattle.refusal.specs.Judge.{first_of, judged, ◌when◌}
use Rattle.state.specs.declared.Matrix.{Matrix}
use Rattle.state.specs.declared.Program.{Program}
use Rattle.slots_tables.specs.Tables.{tables_need, with_tables}
use Rattle.model.specs.Need.{values_need, audio_need}
use Rattle.model.specs.Compile.{numbers_allowed}

-- rows 6 and 13
unfoldable pub early_code : Matrix → List Float → Config → ℕ
unfolding judged first_of config_code
early_code m tables c =
    first_of (judged (6 when not (numbers_allowed m tables) ∷ []))
    (config_code c.sample_rate c.max_frames c.voices)

-- a program's need, its counts held to their limits
unfoldable pub held_values : Program → ℕ
held_values p =
    values_need (min p.config.voices most_voices) (min p.config.max_frames most_frames) (min p.plans slots)
    (min p.routes slots)

unfoldable pub held_audio : Program → ℕ
held_audio p =
    audio_need (min p.config.voices most_voices) (min p.config.max_frames most_frames) (min p.plans slots)

-- the tables replaced, where one is named and there is room
unfoldable pub copied : Bool → List Float → List Float → List Float
copied named to from =
    cond (named && not (ltb (length to) tables_need || ltb (length from) tables_need)) (with_tables to from) to
