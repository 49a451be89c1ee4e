-- The standard sources, computed.
use Rattle.std.specs.Prelude.{◌≡◌, refl, true, false, List, [], ◌∷◌, ℕ, replicate, Option, Some}
use Rattle.source_key.specs.Text.{decimal}
use Rattle.refusal.specs.Judge.{judged}
use Rattle.state.specs.declared.Kind.TheVariants as K
use Rattle.state.specs.declared.Scope.TheVariants as S
use Rattle.state.specs.declared.Range.TheVariants as R
use Rattle.state.specs.declared.Source.{Source}
use Rattle.source.specs.declared.Counts.{Counts}
use Rattle.source.specs.Keys.{key_of, key_is, key_array}
use Rattle.source_key.specs.Bytes.{same_bytes}
use Rattle.source.specs.Registry.{no_sources, registered, find_key, new_entry, with_entry}
use Rattle.source.specs.Named.{env_word, lfo_word, after_y, macro_word, seq_word, velocity_key, key_key, seq_index_key}
use Rattle.source.specs.Named.{random_route_key}
use Rattle.source_key.specs.Numbered.{numbered_key, read_on, number_then, is_numbered}
use Rattle.source.specs.Standard.{with_source, counted, with_numbered, lfo_pair, with_lfos, with_note_sources}
use Rattle.source.specs.Standard.{with_controllers, with_audio, with_sequence, all_sources, audio_keys, total, any_long}
use Rattle.source.specs.Standard.{any_same, has, fixed_sources, sequence_key, standard_key, clashes, standard_count}
use Rattle.source.specs.Standard.{standard_sources}

abbrev none : Counts
none = record { envelopes = 0; lfos = 0; macros = 0; sequence_values = 0 }

abbrev ones : Counts
ones = record { envelopes = 1; lfos = 1; macros = 1; sequence_values = 1 }

-- "osc"
abbrev osc : List ℕ
osc = 111 ∷ 115 ∷ 99 ∷ []

abbrev at : List ℕ → Option ℕ
at key = find_key 0 key (registered (all_sources ones (osc ∷ [])))

-- one of each and one audio key are 24 entries, in the order of the Rust
order : ((all_sources ones (osc ∷ [])).count ≡ 24) × (at (numbered_key env_word [] 1) ≡ Some 0)
    × (at (numbered_key lfo_word [] 1) ≡ Some 1) × (at (numbered_key lfo_word after_y 1) ≡ Some 2)
    × (at velocity_key ≡ Some 3) × (at osc ≡ Some 19) × (at seq_index_key ≡ Some 22) × (at random_route_key ≡ Some 23)
unfolding all_sources with_sequence with_audio with_controllers with_note_sources with_lfos lfo_pair with_numbered
    counted with_source with_entry new_entry key_array decimal no_sources find_key registered key_is key_of same_bytes
order = (refl, refl, refl, refl, refl, refl, refl, refl)

abbrev code : Counts → List ℕ → List ℕ → ℕ
code n bytes lengths = (standard_sources n bytes lengths).code

-- 17 entries where nothing is counted, and no index
fewest : ((standard_sources none [] []).sources.count ≡ 17) × (code none [] [] ≡ 0)
unfolding standard_sources judged clashes audio_keys standard_count total any_long all_sources with_sequence with_audio
    with_controllers with_note_sources with_lfos with_numbered counted with_source with_entry new_entry key_array
    no_sources
fewest = (refl, refl)

-- an audio key that is "key", or stands twice, is 9, also above 32 bytes; 111 envelopes fit and 112 are 12; short bytes
-- are 14, a length above 32 is 15
codes : (code none key_key (3 ∷ []) ≡ 9) × (code none (97 ∷ 97 ∷ []) (1 ∷ 1 ∷ []) ≡ 9)
    × (code none (replicate 66 97) (33 ∷ 33 ∷ []) ≡ 9) ×
    (code (record { envelopes = 112; lfos = 0; macros = 0; sequence_values = 0 }) [] [] ≡ 12)
    × (code (record { envelopes = 111; lfos = 0; macros = 0; sequence_values = 0 }) [] [] ≡ 0)
    × (code none (97 ∷ []) (1 ∷ 1 ∷ []) ≡ 14) × (code none (replicate 33 97) (33 ∷ []) ≡ 15)
unfolding standard_sources judged clashes standard_key sequence_key is_numbered number_then read_on has fixed_sources
    any_same audio_keys standard_count total any_long with_sequence with_controllers with_note_sources with_numbered
    counted with_source with_entry new_entry key_array no_sources find_key registered key_is key_of same_bytes
codes = (refl, refl, refl, refl, refl, refl, refl)

abbrev envelopes : ℕ → Counts
envelopes n = record { envelopes = n; lfos = 0; macros = 0; sequence_values = 0 }

-- "env150" and "env0150"
abbrev env150 : List ℕ
env150 = numbered_key env_word [] 150

abbrev env0150 : List ℕ
env0150 = 101 ∷ 110 ∷ 118 ∷ 48 ∷ 49 ∷ 53 ∷ 48 ∷ []

-- too many entries and an audio key that equals a standard one: 9, the lower number; with a key of its own, 12
both : (code (envelopes 200) env150 (6 ∷ []) ≡ 9) × (code (envelopes 150) env150 (6 ∷ []) ≡ 9)
    × (code (envelopes 149) env150 (6 ∷ []) ≡ 12) × (code (envelopes 200) env0150 (7 ∷ []) ≡ 12)
    × (code (envelopes 110) env150 (6 ∷ []) ≡ 0)
unfolding standard_sources judged clashes standard_key sequence_key is_numbered number_then read_on has fixed_sources
    any_same audio_keys standard_count total any_long with_sequence with_controllers with_note_sources with_numbered
    counted with_source with_entry new_entry key_array no_sources find_key registered key_is key_of same_bytes decimal
both = (refl, refl, refl, refl, refl)

-- which keys are numbered ones: "lfo12_y" up to 12 only, "lfo_y", "lfo1_z" and "env1_y" never
numbered : (is_numbered lfo_word after_y 12 (numbered_key lfo_word after_y 12) ≡ true)
    × (is_numbered lfo_word after_y 11 (numbered_key lfo_word after_y 12) ≡ false)
    × (is_numbered lfo_word after_y 12 (108 ∷ 102 ∷ 111 ∷ 95 ∷ 121 ∷ []) ≡ false)
    × (is_numbered lfo_word after_y 12 (108 ∷ 102 ∷ 111 ∷ 49 ∷ 95 ∷ 122 ∷ []) ≡ false)
    × (is_numbered env_word [] 12 (numbered_key env_word after_y 1) ≡ false)
    × (is_numbered env_word [] 12 env_word ≡ false)
    × (is_numbered seq_word [] 7 (numbered_key seq_word [] 7) ≡ true)
    × (is_numbered macro_word [] 7 (numbered_key macro_word [] 0) ≡ false)
unfolding is_numbered number_then read_on same_bytes decimal
numbered = (refl, refl, refl, refl, refl, refl, refl, refl)

-- a sequence's index is a standard key where there are values
index : (sequence_key 0 seq_index_key ≡ false) × (sequence_key 1 seq_index_key ≡ true)
unfolding sequence_key is_numbered number_then read_on same_bytes
index = (refl, refl)

-- ---- as the Rust ran: the oracle's lines `standard 1 1 1 1 osc ~` and `standard 10 2 0 0`, entry by entry

abbrev one-of-each : List Source
one-of-each =
    new_entry (101 ∷ 110 ∷ 118 ∷ 49 ∷ []) K.Signal S.Voice R.Unipolar
    ∷ new_entry (108 ∷ 102 ∷ 111 ∷ 49 ∷ []) K.Signal S.Voice R.Unipolar
    ∷ new_entry (108 ∷ 102 ∷ 111 ∷ 49 ∷ 95 ∷ 121 ∷ []) K.Signal S.Voice R.Unipolar
    ∷ new_entry (118 ∷ 101 ∷ 108 ∷ 111 ∷ 99 ∷ 105 ∷ 116 ∷ 121 ∷ []) K.Velocity S.Voice R.Unipolar
    ∷ new_entry (107 ∷ 101 ∷ 121 ∷ []) K.Key S.Voice R.Unipolar
    ∷ new_entry (99 ∷ 104 ∷ 97 ∷ 110 ∷ 110 ∷ 101 ∷ 108 ∷ 95 ∷ 112 ∷ 114 ∷ 101 ∷ 115 ∷ 115 ∷ 117 ∷ 114 ∷ 101
    ∷ []) K.Held S.Global R.Unipolar
    ∷ new_entry (112 ∷ 111 ∷ 108 ∷ 121 ∷ 95 ∷ 112 ∷ 114 ∷ 101 ∷ 115 ∷ 115 ∷ 117 ∷ 114 ∷ 101
    ∷ []) K.Held S.Voice R.Unipolar
    ∷ new_entry (114 ∷ 97 ∷ 110 ∷ 100 ∷ 111 ∷ 109 ∷ 49 ∷ []) K.Random S.Voice R.Unipolar
    ∷ new_entry (114 ∷ 97 ∷ 110 ∷ 100 ∷ 111 ∷ 109 ∷ 50 ∷ []) K.Random S.Voice R.Unipolar
    ∷ new_entry (97 ∷ 108 ∷ 116 ∷ 101 ∷ 114 ∷ 110 ∷ 97 ∷ 116 ∷ 101 ∷ 49 ∷ []) (K.Alternate false) S.Voice R.Unipolar
    ∷ new_entry (97 ∷ 108 ∷ 116 ∷ 101 ∷ 114 ∷ 110 ∷ 97 ∷ 116 ∷ 101 ∷ 50 ∷ []) (K.Alternate true) S.Voice R.Unipolar
    ∷ new_entry (109 ∷ 97 ∷ 99 ∷ 114 ∷ 111 ∷ 49 ∷ []) K.Held S.Global R.Unipolar
    ∷ new_entry (109 ∷ 111 ∷ 100 ∷ 95 ∷ 119 ∷ 104 ∷ 101 ∷ 101 ∷ 108 ∷ []) K.Held S.Global R.Unipolar
    ∷ new_entry (112 ∷ 105 ∷ 116 ∷ 99 ∷ 104 ∷ 95 ∷ 98 ∷ 101 ∷ 110 ∷ 100 ∷ []) K.Held S.Global R.Bipolar
    ∷ new_entry (109 ∷ 112 ∷ 101 ∷ 95 ∷ 120 ∷ []) K.Held S.Voice R.Bipolar
    ∷ new_entry (109 ∷ 112 ∷ 101 ∷ 95 ∷ 121 ∷ []) K.Held S.Voice R.Unipolar
    ∷ new_entry (109 ∷ 112 ∷ 101 ∷ 95 ∷ 122 ∷ []) K.Held S.Voice R.Unipolar
    ∷ new_entry (114 ∷ 101 ∷ 108 ∷ 101 ∷ 97 ∷ 115 ∷ 101 ∷ 95 ∷ 118 ∷ 101 ∷ 108 ∷ 111 ∷ 99 ∷ 105 ∷ 116 ∷ 121
    ∷ []) K.ReleaseVelocity S.Voice R.Unipolar
    ∷ new_entry (99 ∷ 111 ∷ 110 ∷ 115 ∷ 116 ∷ 97 ∷ 110 ∷ 116 ∷ []) K.Constant S.Global R.Unipolar
    ∷ new_entry (111 ∷ 115 ∷ 99 ∷ []) K.Audio S.Voice R.Bipolar
    ∷ new_entry [] K.Audio S.Voice R.Bipolar
    ∷ new_entry (118 ∷ 111 ∷ 105 ∷ 99 ∷ 101 ∷ 95 ∷ 108 ∷ 111 ∷ 97 ∷ 100 ∷ []) K.VoiceLoad S.Global R.Unipolar
    ∷ new_entry (115 ∷ 101 ∷ 113 ∷ 95 ∷ 118 ∷ 97 ∷ 108 ∷ 117 ∷ 101 ∷ 49 ∷ []) K.Held S.Voice R.Unipolar
    ∷ new_entry (115 ∷ 101 ∷ 113 ∷ 95 ∷ 105 ∷ 110 ∷ 100 ∷ 101 ∷ 120 ∷ []) K.Held S.Voice R.Unipolar
    ∷ new_entry (114 ∷ 97 ∷ 110 ∷ 100 ∷ 111 ∷ 109 ∷ 95 ∷ 114 ∷ 111 ∷ 117 ∷ 116 ∷ 101
    ∷ []) K.RandomPerRoute S.Voice R.Unipolar
    ∷ []

ran-one-of-each : registered (all_sources ones (osc ∷ [] ∷ [])) ≡ one-of-each
unfolding all_sources with_sequence with_audio with_controllers with_note_sources with_lfos lfo_pair with_numbered
    counted with_source with_entry new_entry key_array decimal no_sources registered
ran-one-of-each = refl

abbrev ten-and-two : List Source
ten-and-two =
    new_entry (101 ∷ 110 ∷ 118 ∷ 49 ∷ []) K.Signal S.Voice R.Unipolar
    ∷ new_entry (101 ∷ 110 ∷ 118 ∷ 50 ∷ []) K.Signal S.Voice R.Unipolar
    ∷ new_entry (101 ∷ 110 ∷ 118 ∷ 51 ∷ []) K.Signal S.Voice R.Unipolar
    ∷ new_entry (101 ∷ 110 ∷ 118 ∷ 52 ∷ []) K.Signal S.Voice R.Unipolar
    ∷ new_entry (101 ∷ 110 ∷ 118 ∷ 53 ∷ []) K.Signal S.Voice R.Unipolar
    ∷ new_entry (101 ∷ 110 ∷ 118 ∷ 54 ∷ []) K.Signal S.Voice R.Unipolar
    ∷ new_entry (101 ∷ 110 ∷ 118 ∷ 55 ∷ []) K.Signal S.Voice R.Unipolar
    ∷ new_entry (101 ∷ 110 ∷ 118 ∷ 56 ∷ []) K.Signal S.Voice R.Unipolar
    ∷ new_entry (101 ∷ 110 ∷ 118 ∷ 57 ∷ []) K.Signal S.Voice R.Unipolar
    ∷ new_entry (101 ∷ 110 ∷ 118 ∷ 49 ∷ 48 ∷ []) K.Signal S.Voice R.Unipolar
    ∷ new_entry (108 ∷ 102 ∷ 111 ∷ 49 ∷ []) K.Signal S.Voice R.Unipolar
    ∷ new_entry (108 ∷ 102 ∷ 111 ∷ 49 ∷ 95 ∷ 121 ∷ []) K.Signal S.Voice R.Unipolar
    ∷ new_entry (108 ∷ 102 ∷ 111 ∷ 50 ∷ []) K.Signal S.Voice R.Unipolar
    ∷ new_entry (108 ∷ 102 ∷ 111 ∷ 50 ∷ 95 ∷ 121 ∷ []) K.Signal S.Voice R.Unipolar
    ∷ new_entry (118 ∷ 101 ∷ 108 ∷ 111 ∷ 99 ∷ 105 ∷ 116 ∷ 121 ∷ []) K.Velocity S.Voice R.Unipolar
    ∷ new_entry (107 ∷ 101 ∷ 121 ∷ []) K.Key S.Voice R.Unipolar
    ∷ new_entry (99 ∷ 104 ∷ 97 ∷ 110 ∷ 110 ∷ 101 ∷ 108 ∷ 95 ∷ 112 ∷ 114 ∷ 101 ∷ 115 ∷ 115 ∷ 117 ∷ 114 ∷ 101
    ∷ []) K.Held S.Global R.Unipolar
    ∷ new_entry (112 ∷ 111 ∷ 108 ∷ 121 ∷ 95 ∷ 112 ∷ 114 ∷ 101 ∷ 115 ∷ 115 ∷ 117 ∷ 114 ∷ 101
    ∷ []) K.Held S.Voice R.Unipolar
    ∷ new_entry (114 ∷ 97 ∷ 110 ∷ 100 ∷ 111 ∷ 109 ∷ 49 ∷ []) K.Random S.Voice R.Unipolar
    ∷ new_entry (114 ∷ 97 ∷ 110 ∷ 100 ∷ 111 ∷ 109 ∷ 50 ∷ []) K.Random S.Voice R.Unipolar
    ∷ new_entry (97 ∷ 108 ∷ 116 ∷ 101 ∷ 114 ∷ 110 ∷ 97 ∷ 116 ∷ 101 ∷ 49 ∷ []) (K.Alternate false) S.Voice R.Unipolar
    ∷ new_entry (97 ∷ 108 ∷ 116 ∷ 101 ∷ 114 ∷ 110 ∷ 97 ∷ 116 ∷ 101 ∷ 50 ∷ []) (K.Alternate true) S.Voice R.Unipolar
    ∷ new_entry (109 ∷ 111 ∷ 100 ∷ 95 ∷ 119 ∷ 104 ∷ 101 ∷ 101 ∷ 108 ∷ []) K.Held S.Global R.Unipolar
    ∷ new_entry (112 ∷ 105 ∷ 116 ∷ 99 ∷ 104 ∷ 95 ∷ 98 ∷ 101 ∷ 110 ∷ 100 ∷ []) K.Held S.Global R.Bipolar
    ∷ new_entry (109 ∷ 112 ∷ 101 ∷ 95 ∷ 120 ∷ []) K.Held S.Voice R.Bipolar
    ∷ new_entry (109 ∷ 112 ∷ 101 ∷ 95 ∷ 121 ∷ []) K.Held S.Voice R.Unipolar
    ∷ new_entry (109 ∷ 112 ∷ 101 ∷ 95 ∷ 122 ∷ []) K.Held S.Voice R.Unipolar
    ∷ new_entry (114 ∷ 101 ∷ 108 ∷ 101 ∷ 97 ∷ 115 ∷ 101 ∷ 95 ∷ 118 ∷ 101 ∷ 108 ∷ 111 ∷ 99 ∷ 105 ∷ 116 ∷ 121
    ∷ []) K.ReleaseVelocity S.Voice R.Unipolar
    ∷ new_entry (99 ∷ 111 ∷ 110 ∷ 115 ∷ 116 ∷ 97 ∷ 110 ∷ 116 ∷ []) K.Constant S.Global R.Unipolar
    ∷ new_entry (118 ∷ 111 ∷ 105 ∷ 99 ∷ 101 ∷ 95 ∷ 108 ∷ 111 ∷ 97 ∷ 100 ∷ []) K.VoiceLoad S.Global R.Unipolar
    ∷ new_entry (114 ∷ 97 ∷ 110 ∷ 100 ∷ 111 ∷ 109 ∷ 95 ∷ 114 ∷ 111 ∷ 117 ∷ 116 ∷ 101
    ∷ []) K.RandomPerRoute S.Voice R.Unipolar
    ∷ []

ran-ten-and-two : registered (all_sources (record { envelopes = 10; lfos = 2; macros = 0; sequence_values = 0 }) [])
    ≡ ten-and-two
unfolding all_sources with_sequence with_audio with_controllers with_note_sources with_lfos lfo_pair with_numbered
    counted with_source with_entry new_entry key_array decimal no_sources registered
ran-ten-and-two = refl
