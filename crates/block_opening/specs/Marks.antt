-- What opens a block, over the parts of a state that it reads (model's World and Process). Definitions only.
use Rattle.std.specs.Prelude.{Bool, cond, List, ℕ, zero, suc, ◌+◌, ◌*◌, min, get_or, set, Float}
use Rattle.std.specs.Float.{nan}
use Rattle.config.specs.Sizes.{most_voices}
use Rattle.number.specs.Number.{one32, over, min32, nearest32}
use Rattle.voice.specs.declared.Voices.{Voices}
use Rattle.voice.specs.declared.Glide.{Glide}
use Rattle.voice.specs.Voices.{active_count}
use Rattle.voice.specs.Notes.{moving, unread}
use Rattle.state.specs.declared.SourceMark.{SourceMark}
use Rattle.state.specs.declared.Kind.{Kind}
use Rattle.model.specs.World.{no_mark, is_velocity, is_key, is_load}
use Rattle.block_opening.specs.declared.NoteValue.{NoteValue}
use Rattle.block_opening.specs.declared.NoteValue.TheVariants as N

-- the active voices of the first n over the limit, at most 1
unfoldable pub load_in : Voices → ℕ → ℕ → Float
load_in voices n limit = min32 (over (nearest32 (active_count voices (min n most_voices))) (nearest32 limit)) one32

-- source i's kind
abbrev pub kind_in : List SourceMark → ℕ → Kind
kind_in mark i = (get_or mark i no_mark).kind

-- a number that a load source takes
abbrev pub load_lane : Kind → Float → Float → Float
load_lane kind x old = cond (is_load kind) x old

-- every load source among the first n takes x
unfoldable pub load_if : List SourceMark → Float → ℕ → List Float → List Float
load_if mark x zero m = m
load_if mark x (suc n) m = let before = load_if mark x n m in cond (is_load (kind_in mark n)) (set before n x) before

-- of the first n sources, those whose kind passes take x in the lane
unfoldable pub held_if : List SourceMark → (Kind → Bool) → ℕ → ℕ → Float → ℕ → List Float → List Float
held_if mark p stride lane x zero m = m
held_if mark p stride lane x (suc n) m =
    let before = held_if mark p stride lane x n m in
    cond (p (kind_in mark n)) (set before (n * stride + lane) x) before

-- of the first n voices, those whose value moved are written to the sources whose kind passes: glides before, values after
unfoldable pub moved_if : List SourceMark → (Kind → Bool) → ℕ → ℕ → List Glide → List Float → ℕ → List Float → List Float
unfolding held_if
moved_if mark p stride sources glide value zero m = m
moved_if mark p stride sources glide value (suc n) m =
    let before = moved_if mark p stride sources glide value n m in
    cond (moving (get_or glide n unread)) (held_if mark p stride n (get_or value n nan) sources before) before

-- the sources of a note value
abbrev pub passes : NoteValue → Kind → Bool
passes N.Velocity = is_velocity
passes N.Key = is_key
