-- Document 01, Constants. Definitions only; src/lib.rt has the same numbers under the same names.
use Rattle.std.specs.Prelude.{◌≡◌, refl, ℕ, ◌+◌, ◌-◌, ◌*◌, ◌/◌, max}

abbrev pub slots : ℕ
slots = 64

abbrev pub most_sources : ℕ
most_sources = 128

abbrev pub most_destinations : ℕ
most_destinations = 1024

-- samples from one control tick to the next
abbrev pub period : ℕ
period = 32

abbrev pub lanes : ℕ
lanes = 16

abbrev pub most_voices : ℕ
most_voices = 64

abbrev pub most_frames : ℕ
most_frames = 4096

abbrev pub most_signal_stride : ℕ
most_signal_stride = 256

-- "Lane stride is voices rounded up to a multiple of 16, at least 16" (program.rs 25-27)
abbrev pub lane_stride : ℕ → ℕ
lane_stride voices = max lanes ((voices + (lanes - 1)) / lanes * lanes)

-- that of the most voices
abbrev pub most_stride : ℕ
most_stride = lane_stride most_voices

-- "A block has at most frames / 32 + 2 chunks" (program.rs 32-34)
abbrev pub most_chunks : ℕ → ℕ
most_chunks frames = frames / period + 2

strides : (lane_stride 0 ≡ 16) × (lane_stride 1 ≡ 16) × (lane_stride 16 ≡ 16) × (lane_stride 17 ≡ 32)
    × (lane_stride 64 ≡ 64)
strides = (refl, refl, refl, refl, refl)

chunks : (most_chunks 0 ≡ 2) × (most_chunks 31 ≡ 2) × (most_chunks 64 ≡ 4) × (most_chunks 4096 ≡ 130)
chunks = (refl, refl, refl, refl)
