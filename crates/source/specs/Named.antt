-- The keys of the standard sources, as bytes (source.rs 231-314). Definitions only.
use Rattle.std.specs.Prelude.{List, [], ◌∷◌, ℕ}

-- "env", "lfo", "_y", "macro", "seq_value"
abbrev pub env_word : List ℕ
env_word = 101 ∷ 110 ∷ 118 ∷ []

abbrev pub lfo_word : List ℕ
lfo_word = 108 ∷ 102 ∷ 111 ∷ []

abbrev pub after_y : List ℕ
after_y = 95 ∷ 121 ∷ []

abbrev pub macro_word : List ℕ
macro_word = 109 ∷ 97 ∷ 99 ∷ 114 ∷ 111 ∷ []

abbrev pub seq_word : List ℕ
seq_word = 115 ∷ 101 ∷ 113 ∷ 95 ∷ 118 ∷ 97 ∷ 108 ∷ 117 ∷ 101 ∷ []

-- "velocity"
abbrev pub velocity_key : List ℕ
velocity_key = 118 ∷ 101 ∷ 108 ∷ 111 ∷ 99 ∷ 105 ∷ 116 ∷ 121 ∷ []

-- "key"
abbrev pub key_key : List ℕ
key_key = 107 ∷ 101 ∷ 121 ∷ []

-- "channel_pressure"
abbrev pub channel_pressure_key : List ℕ
channel_pressure_key = 99 ∷ 104 ∷ 97 ∷ 110 ∷ 110 ∷ 101 ∷ 108 ∷ 95 ∷ 112 ∷ 114 ∷ 101 ∷ 115 ∷ 115 ∷ 117 ∷ 114 ∷ 101 ∷ []

-- "poly_pressure"
abbrev pub poly_pressure_key : List ℕ
poly_pressure_key = 112 ∷ 111 ∷ 108 ∷ 121 ∷ 95 ∷ 112 ∷ 114 ∷ 101 ∷ 115 ∷ 115 ∷ 117 ∷ 114 ∷ 101 ∷ []

-- "random1"
abbrev pub random1_key : List ℕ
random1_key = 114 ∷ 97 ∷ 110 ∷ 100 ∷ 111 ∷ 109 ∷ 49 ∷ []

-- "random2"
abbrev pub random2_key : List ℕ
random2_key = 114 ∷ 97 ∷ 110 ∷ 100 ∷ 111 ∷ 109 ∷ 50 ∷ []

-- "alternate1"
abbrev pub alternate1_key : List ℕ
alternate1_key = 97 ∷ 108 ∷ 116 ∷ 101 ∷ 114 ∷ 110 ∷ 97 ∷ 116 ∷ 101 ∷ 49 ∷ []

-- "alternate2"
abbrev pub alternate2_key : List ℕ
alternate2_key = 97 ∷ 108 ∷ 116 ∷ 101 ∷ 114 ∷ 110 ∷ 97 ∷ 116 ∷ 101 ∷ 50 ∷ []

-- "mod_wheel"
abbrev pub mod_wheel_key : List ℕ
mod_wheel_key = 109 ∷ 111 ∷ 100 ∷ 95 ∷ 119 ∷ 104 ∷ 101 ∷ 101 ∷ 108 ∷ []

-- "pitch_bend"
abbrev pub pitch_bend_key : List ℕ
pitch_bend_key = 112 ∷ 105 ∷ 116 ∷ 99 ∷ 104 ∷ 95 ∷ 98 ∷ 101 ∷ 110 ∷ 100 ∷ []

-- "mpe_x"
abbrev pub mpe_xKey : List ℕ
mpe_xKey = 109 ∷ 112 ∷ 101 ∷ 95 ∷ 120 ∷ []

-- "mpe_y"
abbrev pub mpe_yKey : List ℕ
mpe_yKey = 109 ∷ 112 ∷ 101 ∷ 95 ∷ 121 ∷ []

-- "mpe_z"
abbrev pub mpe_zKey : List ℕ
mpe_zKey = 109 ∷ 112 ∷ 101 ∷ 95 ∷ 122 ∷ []

-- "release_velocity"
abbrev pub release_velocity_key : List ℕ
release_velocity_key = 114 ∷ 101 ∷ 108 ∷ 101 ∷ 97 ∷ 115 ∷ 101 ∷ 95 ∷ 118 ∷ 101 ∷ 108 ∷ 111 ∷ 99 ∷ 105 ∷ 116 ∷ 121 ∷ []

-- "constant"
abbrev pub constant_key : List ℕ
constant_key = 99 ∷ 111 ∷ 110 ∷ 115 ∷ 116 ∷ 97 ∷ 110 ∷ 116 ∷ []

-- "voice_load"
abbrev pub voice_load_key : List ℕ
voice_load_key = 118 ∷ 111 ∷ 105 ∷ 99 ∷ 101 ∷ 95 ∷ 108 ∷ 111 ∷ 97 ∷ 100 ∷ []

-- "seq_index"
abbrev pub seq_index_key : List ℕ
seq_index_key = 115 ∷ 101 ∷ 113 ∷ 95 ∷ 105 ∷ 110 ∷ 100 ∷ 101 ∷ 120 ∷ []

-- "random_route"
abbrev pub random_route_key : List ℕ
random_route_key = 114 ∷ 97 ∷ 110 ∷ 100 ∷ 111 ∷ 109 ∷ 95 ∷ 114 ∷ 111 ∷ 117 ∷ 116 ∷ 101 ∷ []
