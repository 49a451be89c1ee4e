-- What a note writes, from the parts of a state that it reads (model's specs/NoteCalls; proofs/Whole.antt has that the
-- two agree). Definitions only.
use Rattle.std.specs.Prelude.{Bool, true, not, cond, List, ℕ, zero, suc, ◌+◌, ◌*◌, ◌≤◌, ◌<◌, eqb, leb, get_or, set}
use Rattle.std.specs.Prelude.{Float}
use Rattle.config.specs.Sizes.{most_sources, most_voices}
use Rattle.draw.specs.Xorshift.{step, draw_of}
use Rattle.number.specs.Number.{zero32, one32}
use Rattle.voice.specs.declared.Legato.{Legato}
use Rattle.voice.specs.declared.Notes.{Notes}
use Rattle.voice.specs.Voices.{sounded_on, ended_of}
use Rattle.voice.specs.Marks.{marks_on, marks_ended}
use Rattle.voice.specs.Notes.{glides_to, value_of, set_note, ended_note}
use Rattle.state.specs.declared.Kind.{Kind}
use Rattle.state.specs.declared.Kind.TheVariants as K
use Rattle.state.specs.declared.SourceMark.{SourceMark}
use Rattle.model.specs.World.{no_mark}
use Rattle.engine_notes.specs.declared.Lane.{Lane}
use Rattle.engine_notes.specs.declared.Sounding.{Sounding}
use Rattle.engine_notes.specs.declared.Setting.{Setting}

-- the kinds that a note writes, by number; any other is 0
abbrev pub note_kind : Kind → ℕ
note_kind K.Signal = 0
note_kind K.Audio = 0
note_kind K.Held = 0
note_kind K.Velocity = 1
note_kind K.Key = 2
note_kind K.ReleaseVelocity = 3
note_kind K.Random = 4
note_kind (K.Alternate inverse) = cond inverse 6 5
note_kind K.RandomPerRoute = 0
note_kind K.VoiceLoad = 0
note_kind K.Constant = 0

abbrev pub kind_at : List SourceMark → ℕ → ℕ
kind_at marks i = note_kind (get_or marks i no_mark).kind

-- a lane that stands inside an engine's held numbers
pub record Inside (lane : Lane) : Type 0 where
  pub few : lane.sources ≤ most_sources
  pub narrow : lane.stride ≤ most_voices
  pub voiced : lane.voice < most_voices

-- the lane's number of source i
abbrev pub place_in : Lane → ℕ → ℕ
place_in lane i = i * lane.stride + lane.voice

-- of the first n sources, those of a kind take x
unfoldable pub held_in : List SourceMark → Lane → ℕ → Float → ℕ → List Float → List Float
held_in marks lane kind x zero m = m
held_in marks lane kind x (suc n) m =
    let before = held_in marks lane kind x n m in
    cond (eqb (kind_at marks n) kind) (set before (place_in lane n) x) before

-- the draws after the first n sources, one for each that is random
unfoldable pub draws_in : List SourceMark → ℕ → ℕ → ℕ
draws_in marks draw zero = draw
draws_in marks draw (suc n) = let before = draws_in marks draw n in cond (eqb (kind_at marks n) 4) (step before) before

unfoldable pub randoms_in : List SourceMark → Lane → ℕ → ℕ → List Float → List Float
unfolding draws_in
randoms_in marks lane draw zero m = m
randoms_in marks lane draw (suc n) m =
    let before = randoms_in marks lane draw n m in
    cond (eqb (kind_at marks n) 4) (set before (place_in lane n) (draw_of (step (draws_in marks draw n)))) before

-- 1 where alternate is on, the inverse one where it is not
abbrev pub alternate_by : ℕ → Bool → Float
alternate_by kind on = cond (cond (eqb kind 6) (not on) on) one32 zero32

unfoldable pub alternates_in : List SourceMark → Lane → Bool → ℕ → List Float → List Float
alternates_in marks lane on zero m = m
alternates_in marks lane on (suc n) m =
    let before = alternates_in marks lane on n m in
    cond (leb 5 (kind_at marks n)) (set before (place_in lane n) (alternate_by (kind_at marks n) on)) before

-- a value that a note takes, and that does not glide, is written to the sources of its kind
unfoldable pub value_in : List SourceMark → Lane → ℕ → Bool → Notes → Float → Legato → List Float → List Float
unfolding held_in
value_in marks lane kind takes notes target time m =
    cond takes (cond (glides_to (value_of notes lane.voice) target time) m
    (held_in marks lane kind target lane.sources m)) m

unfoldable pub notes_with : Notes → ℕ → Bool → Float → Legato → Float → Notes
notes_with notes v takes target time rate = cond takes (set_note notes v target time rate) notes

-- what a note leaves of what sounds, and of the held numbers
unfoldable pub sound_on : List SourceMark → Lane → Sounding → Setting → Sounding
unfolding notes_with draws_in
sound_on marks lane s x =
    record {
      voices = sounded_on s.voices lane.voice;
      marks = marks_on s.marks lane.voice x.legato;
      velocity = notes_with s.velocity lane.voice x.takes x.velocity x.time x.rate;
      key = notes_with s.key lane.voice true x.key x.time x.rate;
      alternate = not s.alternate;
      draw = draws_in marks s.draw lane.sources;
    }

unfoldable pub held_on : List SourceMark → Lane → Sounding → Setting → List Float → List Float
unfolding held_in randoms_in alternates_in value_in
held_on marks lane s x m =
    held_in marks lane 3 zero32 lane.sources
    (alternates_in marks lane (not s.alternate) lane.sources
    (randoms_in marks lane s.draw lane.sources
    (value_in marks lane 2 true s.key x.key x.time
    (value_in marks lane 1 x.takes s.velocity x.velocity x.time m))))

-- what sounds once a voice has stopped
unfoldable pub sound_ended : Sounding → ℕ → Sounding
sound_ended s v =
    record {
      voices = ended_of s.voices v;
      marks = marks_ended s.marks v;
      velocity = ended_note s.velocity v;
      key = ended_note s.key v;
      alternate = s.alternate;
      draw = s.draw;
    }
