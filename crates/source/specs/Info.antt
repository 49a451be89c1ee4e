-- What a kind says of its source (source.rs 75-145). Definitions only.
use Rattle.std.specs.Prelude.{Bool, true, false, cond}
use Rattle.state.specs.declared.Kind.{Kind}
use Rattle.state.specs.declared.Kind.TheVariants as K
use Rattle.state.specs.declared.Scope.{Scope}
use Rattle.state.specs.declared.Scope.TheVariants as S
use Rattle.state.specs.declared.Range.{Range}
use Rattle.state.specs.declared.Range.TheVariants as R
use Rattle.source.specs.declared.SourceInfo.{SourceInfo}

-- whether the engine makes the value itself (source.rs 78)
abbrev pub engine_owned : Kind → Bool
engine_owned K.Signal = false
engine_owned K.Audio = false
engine_owned K.Held = false
engine_owned K.Velocity = true
engine_owned K.Key = true
engine_owned K.ReleaseVelocity = true
engine_owned K.Random = true
engine_owned (K.Alternate inverse) = true
engine_owned K.RandomPerRoute = true
engine_owned K.VoiceLoad = true
engine_owned K.Constant = true

-- Global for Held, VoiceLoad and Constant (source.rs 104-107)
abbrev pub usual_scope : Kind → Scope
usual_scope K.Signal = S.Voice
usual_scope K.Audio = S.Voice
usual_scope K.Held = S.Global
usual_scope K.Velocity = S.Voice
usual_scope K.Key = S.Voice
usual_scope K.ReleaseVelocity = S.Voice
usual_scope K.Random = S.Voice
usual_scope (K.Alternate inverse) = S.Voice
usual_scope K.RandomPerRoute = S.Voice
usual_scope K.VoiceLoad = S.Global
usual_scope K.Constant = S.Global

-- Bipolar for Audio (source.rs 108-111)
abbrev pub usual_range : Kind → Range
usual_range K.Signal = R.Unipolar
usual_range K.Audio = R.Bipolar
usual_range K.Held = R.Unipolar
usual_range K.Velocity = R.Unipolar
usual_range K.Key = R.Unipolar
usual_range K.ReleaseVelocity = R.Unipolar
usual_range K.Random = R.Unipolar
usual_range (K.Alternate inverse) = R.Unipolar
usual_range K.RandomPerRoute = R.Unipolar
usual_range K.VoiceLoad = R.Unipolar
usual_range K.Constant = R.Unipolar

-- source.rs 103-119
abbrev pub usual_info : Kind → SourceInfo
usual_info kind = record { kind = kind; scope = usual_scope kind; range = usual_range kind }

-- that scope, unless the engine makes the kind
abbrev pub info_scope : Scope → SourceInfo → SourceInfo
info_scope scope info =
    record { kind = info.kind; scope = cond (engine_owned info.kind) info.scope scope; range = info.range }

-- source.rs 123
abbrev pub info_voice : SourceInfo → SourceInfo
info_voice info = info_scope S.Voice info

-- source.rs 132
abbrev pub info_global : SourceInfo → SourceInfo
info_global info = info_scope S.Global info

-- source.rs 141
abbrev pub info_bipolar : SourceInfo → SourceInfo
info_bipolar info = record { kind = info.kind; scope = info.scope; range = R.Bipolar }
