-- The standard sources: which entries, in which order, and what refuses them (source.rs 146-160, 216-322;
-- docs/CALLS.md). Definitions only.
use Rattle.std.specs.Prelude.{Bool, true, false, cond, ◌&&◌, ◌||◌, List, [], ◌∷◌, ℕ, zero, suc, ◌+◌, ◌*◌, eqb, ltb, leb}
use Rattle.std.specs.Prelude.{length, take, drop, is_some, Result, Ok, Err}
use Rattle.refusal.specs.Judge.{Row, ◌when◌, judged}
use Rattle.refusal.specs.Refusal.{number_of}
use Rattle.refusal.specs.declared.Refusal.{Refusal}
use Rattle.config.specs.Sizes.{most_sources}
use Rattle.state.specs.declared.Kind.TheVariants as K
use Rattle.state.specs.declared.Sources.{Sources}
use Rattle.source.specs.declared.SourceInfo.{SourceInfo}
use Rattle.source.specs.declared.Counts.{Counts}
use Rattle.source.specs.Keys.{most_key_bytes}
use Rattle.source_key.specs.Bytes.{same_bytes}
use Rattle.source.specs.Info.{usual_info, info_voice, info_bipolar}
use Rattle.source.specs.Registry.{no_sources, registered, find_key, new_entry, with_entry}
use Rattle.source.specs.Named.{env_word, lfo_word, after_y, macro_word, seq_word, velocity_key, key_key}
use Rattle.source.specs.Named.{channel_pressure_key, poly_pressure_key, random1_key, random2_key, alternate1_key}
use Rattle.source.specs.Named.{alternate2_key, mod_wheel_key, pitch_bend_key, mpe_xKey, mpe_yKey, mpe_zKey}
use Rattle.source.specs.Named.{release_velocity_key, constant_key, voice_load_key, seq_index_key, random_route_key}
use Rattle.source_key.specs.Numbered.{numbered_key, is_numbered}

-- ---- the entries, each after those before it

abbrev pub held_info : SourceInfo
held_info = info_voice (usual_info K.Held)

abbrev pub audio_info : SourceInfo
audio_info = usual_info K.Audio

unfoldable pub with_source : List ℕ → SourceInfo → Sources → Sources
with_source key info s = with_entry s (new_entry key info.kind info.scope info.range)

-- the numbers from 1 to n, each with its step
unfoldable pub counted : (ℕ → Sources → Sources) → ℕ → Sources → Sources
counted step zero s = s
counted step (suc n) s = step (suc n) (counted step n s)

-- word 1, word 2, .. word n
unfoldable pub with_numbered : List ℕ → List ℕ → SourceInfo → ℕ → Sources → Sources
with_numbered word after info n s = counted (λ k. with_source (numbered_key word after k) info) n s

-- lfo1, lfo1_y, lfo2, lfo2_y, .. (source.rs 241-252)
unfoldable pub lfo_pair : ℕ → Sources → Sources
lfo_pair k s =
    with_source (numbered_key lfo_word after_y k) (usual_info K.Signal)
    (with_source (numbered_key lfo_word [] k) (usual_info K.Signal) s)

unfoldable pub with_lfos : ℕ → Sources → Sources
with_lfos n s = counted lfo_pair n s

-- source.rs 253-280
unfoldable pub with_note_sources : Sources → Sources
with_note_sources s =
    with_source alternate2_key (usual_info (K.Alternate true))
    (with_source alternate1_key (usual_info (K.Alternate false))
    (with_source random2_key (usual_info K.Random)
    (with_source random1_key (usual_info K.Random)
    (with_source poly_pressure_key held_info
    (with_source channel_pressure_key (usual_info K.Held)
    (with_source key_key (usual_info K.Key)
    (with_source velocity_key (usual_info K.Velocity) s)))))))

-- source.rs 288-298
unfoldable pub with_controllers : Sources → Sources
with_controllers s =
    with_source constant_key (usual_info K.Constant)
    (with_source release_velocity_key (usual_info K.ReleaseVelocity)
    (with_source mpe_zKey held_info
    (with_source mpe_yKey held_info
    (with_source mpe_xKey (info_bipolar held_info)
    (with_source pitch_bend_key (info_bipolar (usual_info K.Held))
    (with_source mod_wheel_key (usual_info K.Held) s))))))

-- source.rs 299-301
unfoldable pub with_audio : List (List ℕ) → Sources → Sources
with_audio [] s = s
with_audio (k ∷ ks) s = with_audio ks (with_source k audio_info s)

-- the values and, where there are any, the index (source.rs 303-315)
unfoldable pub with_sequence : ℕ → Sources → Sources
with_sequence zero s = s
with_sequence (suc n) s =
    with_source seq_index_key held_info (with_numbered seq_word [] held_info (suc n) s)

-- source.rs 231-320
unfoldable pub all_sources : Counts → List (List ℕ) → Sources
all_sources n audio =
    with_source random_route_key (usual_info K.RandomPerRoute)
    (with_sequence n.sequence_values
    (with_source voice_load_key (usual_info K.VoiceLoad)
    (with_audio audio
    (with_controllers
    (with_numbered macro_word [] (usual_info K.Held) n.macros
    (with_note_sources
    (with_lfos n.lfos
    (with_numbered env_word [] (usual_info K.Signal) n.envelopes no_sources))))))))

-- ---- the audio keys, one after the other

-- those that lie whole inside the bytes
unfoldable pub audio_keys : List ℕ → List ℕ → List (List ℕ)
audio_keys bytes [] = []
audio_keys bytes (n ∷ ns) = cond (leb n (length bytes)) (take n bytes ∷ audio_keys (drop n bytes) ns) []

unfoldable pub total : List ℕ → ℕ
total [] = 0
total (n ∷ ns) = n + total ns

unfoldable pub any_long : List ℕ → Bool
any_long [] = false
any_long (n ∷ ns) = ltb most_key_bytes n || any_long ns

unfoldable pub any_same : List ℕ → List (List ℕ) → Bool
any_same key [] = false
any_same key (k ∷ ks) = same_bytes key k || any_same key ks

-- ---- rows

unfoldable pub has : List ℕ → Sources → Bool
has key s = is_some (find_key 0 key (registered s))

-- the keys without a number
unfoldable pub fixed_sources : Sources
fixed_sources =
    with_source random_route_key (usual_info K.RandomPerRoute)
    (with_source voice_load_key (usual_info K.VoiceLoad) (with_controllers (with_note_sources no_sources)))

-- whether it is a sequence value's key or, where there are any, the index's
unfoldable pub sequence_key : ℕ → List ℕ → Bool
sequence_key n key = is_numbered seq_word [] n key || (ltb 0 n && same_bytes key seq_index_key)

-- whether it is a standard key for these counts, however large they are
unfoldable pub standard_key : Counts → List ℕ → Bool
standard_key n key =
    is_numbered env_word [] n.envelopes key
    || (is_numbered lfo_word [] n.lfos key
    || (is_numbered lfo_word after_y n.lfos key
    || (is_numbered macro_word [] n.macros key || (sequence_key n.sequence_values key || has key fixed_sources))))

-- an audio key equals another one, or a standard key
unfoldable pub clashes : Counts → List (List ℕ) → Bool
clashes n [] = false
clashes n (k ∷ ks) = standard_key n k || (any_same k ks || clashes n ks)

-- how many entries there would be
unfoldable pub standard_count : Counts → ℕ → ℕ
standard_count n audio =
    17 + n.envelopes + 2 * n.lfos + n.macros + audio + n.sequence_values + cond (eqb n.sequence_values 0) 0 1

abbrev pub standard_rows : Counts → List ℕ → List ℕ → List Row
standard_rows n bytes lengths =
    9 when clashes n (audio_keys bytes lengths)
    ∷ 12 when ltb most_sources (standard_count n (length lengths))
    ∷ 14 when ltb (length bytes) (total lengths)
    ∷ 15 when any_long lengths
    ∷ []

-- a number by which the call is refused, or 0, and a registry
pub record StandardMade : Type 0 where
  pub code : ℕ
  pub sources : Sources

-- what an answer says: a refusal gives the empty registry
abbrev pub made_said : Result Sources Refusal → StandardMade
made_said (Ok s) = record { code = 0; sources = s }
made_said (Err r) = record { code = number_of r; sources = no_sources }

-- accepted, the registry of all; refused, the empty one
unfoldable pub standard_sources : Counts → List ℕ → List ℕ → StandardMade
standard_sources n bytes lengths =
    cond (eqb (judged (standard_rows n bytes lengths)) 0)
    (record { code = 0; sources = all_sources n (audio_keys bytes lengths) })
    (record { code = judged (standard_rows n bytes lengths); sources = no_sources })
