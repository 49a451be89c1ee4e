-- The sizes that a configuration gives (program.rs 22-35; document 01, Constants). Definitions only.
use Rattle.std.specs.Prelude.{◌≡◌, refl, ℕ, zero, suc}
use Rattle.std.specs.Float.Ieee.{le}
use Rattle.number.specs.Number.{one32, finite}
use Rattle.config.specs.declared.Config.{Config}
use Rattle.config.specs.Sizes.{lane_stride, most_chunks}
use Rattle.config.specs.Configuration.{config_code}
use Rattle.program.specs.Answers.{Count}

-- the number where the configuration is accepted; a refusal carries its row and 0
abbrev pub counted : ℕ → ℕ → Count
counted zero n = record { code = 0; n = n }
counted (suc c) n = record { code = suc c; n = 0 }

unfoldable pub stride_call : Config → Count
stride_call c = counted (config_code c.sample_rate c.max_frames c.voices) (lane_stride c.voices)

unfoldable pub max_chunks_call : Config → Count
max_chunks_call c = counted (config_code c.sample_rate c.max_frames c.voices) (most_chunks c.max_frames)

-- 17 voices and 64 frames: rows of 32 numbers, and 4 chunks at most; 65 voices are refused
example : (stride_call (record { sample_rate = one32; max_frames = 64; voices = 17 }) ≡ record { code = 0; n = 32 })
    × (max_chunks_call (record { sample_rate = one32; max_frames = 64; voices = 17 }) ≡ record { code = 0; n = 4 })
    × (stride_call (record { sample_rate = one32; max_frames = 64; voices = 65 }) ≡ record { code = 13; n = 0 })
unfolding stride_call max_chunks_call config_code finite le
example = (refl, refl, refl)
