-- How much memory a program needs (document 01, row 14; docs/CALLS.md, Memories): two memories, over plans, routes and
-- configuration. Definitions only.
use Rattle.std.specs.Prelude.{◌≡◌, refl, ℕ, ◌+◌, ◌*◌}
use Rattle.config.specs.Sizes.{lane_stride, most_chunks}

-- from and to, the chunks' from and to, and four spare rows a plan; two slews, two randoms and four spare rows a route
abbrev pub values_rows : ℕ → ℕ → ℕ → ℕ
values_rows chunks plans routes = plans * (2 * chunks + 6) + 8 * routes

abbrev pub values_need : ℕ → ℕ → ℕ → ℕ → ℕ
values_need voices frames plans routes = lane_stride voices * values_rows (most_chunks frames) plans routes

-- a row a frame and plan
abbrev pub audio_need : ℕ → ℕ → ℕ → ℕ
audio_need voices frames plans = lane_stride voices * (plans * frames)

-- document 01: "at most stride × ((plans + 4) × (frames + 64) + 32 × routes + 512) numbers"
abbrev pub need_bound : ℕ → ℕ → ℕ → ℕ → ℕ
need_bound voices frames plans routes = lane_stride voices * ((plans + 4) * (frames + 64) + 32 * routes + 512)

-- one plan and one route, 64 frames, one voice: 16 × (14 + 8) and 16 × 64 numbers, of 16 × 1,184; no plans need nothing
example : (values_need 1 64 1 1 ≡ 352) × (audio_need 1 64 1 ≡ 1024) × (need_bound 1 64 1 1 ≡ 18944)
    × (values_need 64 4096 0 0 ≡ 0) × (audio_need 64 4096 0 ≡ 0)
example = (refl, refl, refl, refl, refl)
