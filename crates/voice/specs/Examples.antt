-- The definitions, computed.
use Rattle.std.specs.Prelude.{◌≡◌, refl, true, false, [], ◌∷◌, pos, negsuc, Float, take, Some, None}
use Rattle.std.specs.Float.{nan, inf, fin}
use Rattle.std.specs.Float.Ieee.{lt, le, eq, ne, add, sub, mul, div, of_int}
use Rattle.number.specs.Number.{zero32, half32, one32, two32, abs_of}
use Rattle.voice.specs.declared.Legato.TheVariants as L
use Rattle.voice.specs.declared.Voices.{Voices}
use Rattle.voice.specs.declared.Marks.{Marks}
use Rattle.voice.specs.declared.Notes.{Notes}
use Rattle.voice.specs.Joined.{joined}
use Rattle.voice.specs.Voices.{rank_of, no_voices, ranks_on, sounded_on, released_of, newest_after, ended_of}
use Rattle.voice.specs.Voices.{is_sounding}
use Rattle.voice.specs.Voices.{active_count}
use Rattle.voice.specs.Marks.{no_marks, marks_on, marks_ended, marks_swapped, marks_cleared}
use Rattle.voice.specs.Notes.{legato_time, set_glide, set_value, set_lane, moving, arrives, moved, moved_value}
use Rattle.voice.specs.Notes.{moved_glide, moved_lane, no_notes, value_of, glide_of, set_note, ended_note, any_moving}
use Rattle.voice.specs.Notes.{advanced, gliding}
use Rattle.voice.specs.Sounded.{stamp, since}

-- ---- voices

-- notes on voices 5, 2, 5 and 7: the four that sounded last rank 7, 5, 2, and then those that have not sounded, by
-- number
sounded : Voices
sounded = sounded_on (sounded_on (sounded_on (sounded_on no_voices 5) 2) 5) 7

ranked : take 9 sounded.rank ≡ 3 ∷ 4 ∷ 2 ∷ 5 ∷ 6 ∷ 1 ∷ 7 ∷ 0 ∷ 8 ∷ []
unfolding sounded sounded_on ranks_on no_voices
ranked = refl

-- the Rust's numbers of the same notes, and how many sounded since voice 2 did
numbered : (stamp (7 ∷ 5 ∷ 2 ∷ 5 ∷ []) 7 ≡ 4) × (stamp (7 ∷ 5 ∷ 2 ∷ 5 ∷ []) 5 ≡ 3) × (stamp (7 ∷ 5 ∷ 2 ∷ 5 ∷ []) 2 ≡ 2)
    × (stamp (7 ∷ 5 ∷ 2 ∷ 5 ∷ []) 0 ≡ 0) × (since (7 ∷ 5 ∷ 2 ∷ 5 ∷ []) 2 64 ≡ 2)
unfolding since
numbered = (refl, refl, refl, refl, refl)

-- the newest ends: the one that sounded before it, not the lowest active; another ends: the newest stays; all end:
-- nobody
newest : ((ended_of sounded 7).newest ≡ Some 5) × ((ended_of sounded 5).newest ≡ Some 7)
    × ((ended_of (ended_of sounded 5) 7).newest ≡ Some 2)
    × ((ended_of (ended_of (ended_of sounded 5) 7) 2).newest ≡ None)
    × ((released_of sounded 7).newest ≡ Some 7)
unfolding ended_of newest_after released_of sounded sounded_on ranks_on no_voices
newest = (refl, refl, refl, refl, refl)

-- a voice that ended, and then another sounds, keeps its rank behind it
ended-ranks : (rank_of (sounded_on (ended_of sounded 7) 2).rank 7 ≡ 1)
    × (rank_of (sounded_on (ended_of sounded 7) 2).rank 5 ≡ 2)
unfolding ended_of newest_after sounded sounded_on ranks_on no_voices
ended-ranks = (refl, refl)

-- active among the first 6 voices and among all; a voice that there is not changes nothing
counts : (active_count sounded 6 ≡ 2) × (active_count sounded 1000 ≡ 3) × (is_sounding sounded 7 ≡ true)
    × (is_sounding sounded 64 ≡ false) × (sounded_on sounded 64 ≡ sounded) × (ended_of sounded 64 ≡ sounded)
unfolding active_count is_sounding ended_of sounded sounded_on ranks_on no_voices
counts = (refl, refl, refl, refl, refl, refl)

-- ---- marks

-- document 01, case 10: note on, voice ended. No lane is fresh, and the mark that makes the next block tick is there;
-- without the note it is not
ended-note : Marks
ended-note = marks_ended (marks_on no_marks 3 false) 3

case-10 : (ended-note.fresh ≡ no_marks.fresh) × (ended-note.renoted ≡ no_marks.renoted)
    × (ended-note.any_fresh ≡ true) × (ended-note.any_renoted ≡ true) × (no_marks.any_fresh ≡ false)
unfolding ended-note marks_ended marks_on no_marks
case-10 = (refl, refl, refl, refl, refl)

-- and a swap with no voice active marks nothing, and keeps that mark until a block is over
case-10-swapped : (marks_swapped ended-note no_voices.active ≡ ended-note) × (marks_cleared ended-note ≡ no_marks)
    × (marks_swapped no_marks no_voices.active ≡ no_marks)
unfolding marks_swapped marks_cleared ended-note marks_ended marks_on no_marks no_voices joined
case-10-swapped = (refl, refl, refl)

-- a legato note renotes and is not fresh; a swap makes every active voice both
legato-note : (take 4 (marks_on no_marks 2 true).fresh ≡ false ∷ false ∷ false ∷ false ∷ [])
    × ((marks_on no_marks 2 true).any_fresh ≡ false)
    × (take 4 (marks_on no_marks 2 true).renoted ≡ false ∷ false ∷ true ∷ false ∷ [])
    × ((marks_on no_marks 2 true).any_renoted ≡ true)
unfolding marks_on no_marks
legato-note = (refl, refl, refl, refl)

swapped : (take 4 (marks_swapped (marks_on no_marks 0 true) (sounded_on no_voices 3).active).fresh
    ≡ false ∷ false ∷ false ∷ true ∷ [])
    × (take 4 (marks_swapped (marks_on no_marks 0 true) (sounded_on no_voices 3).active).renoted
    ≡ true ∷ false ∷ false ∷ true ∷ []) × ((marks_swapped no_marks (sounded_on no_voices 3).active).any_fresh ≡ true)
unfolding marks_swapped marks_on no_marks sounded_on no_voices joined
swapped = (refl, refl, refl)

-- ---- note values

-- 1/64, 64, 2 ^ 127 and 2 ^ -149
sixty-fourth : Float
sixty-fourth = fin false 1 (negsuc 5)

rate64 : Float
rate64 = fin false 1 (pos 6)

longest : Float
longest = fin false 1 (pos 127)

least : Float
least = fin false 1 (negsuc 148)

-- document 01, case 8: a glide from 0 to 1 in 1 second at 64 samples a second: 0.5 after 32 frames, then 1, ended
to_one : Notes
to_one = set_note no_notes 3 one32 (L.Glide one32) rate64

case-8 : (value_of to_one 3 ≡ zero32) × (glide_of to_one 3 ≡ record { target = one32; step = sixty-fourth })
    × (value_of (advanced to_one 32) 3 ≡ half32) × (moving (glide_of (advanced to_one 32) 3) ≡ true)
    × (value_of (advanced (advanced to_one 32) 32) 3 ≡ one32)
    × (glide_of (advanced (advanced to_one 32) 32) 3 ≡ record { target = one32; step = zero32 })
unfolding to_one set_note set_value set_glide no_notes advanced joined moved_value moved_glide moved arrives moving
    sixty-fourth rate64 abs_of lt le eq ne add sub mul div of_int
case-8 = (refl, refl, refl, refl, refl, refl)

-- more frames than are left end at the target too; downwards alike; nobody else moves
other-ways : (value_of (advanced to_one 1000) 3 ≡ one32)
    × (value_of (advanced (set_note (set_note no_notes 3 one32 L.NoGlide rate64) 3 zero32 (L.Glide one32) rate64) 32) 3
    ≡ half32) × (value_of (advanced to_one 32) 4 ≡ zero32) × (gliding to_one ≡ true) × (gliding no_notes ≡ false)
unfolding gliding any_moving to_one set_note set_value set_glide no_notes advanced joined moved_value moved_glide moved
    arrives moving rate64 abs_of lt le eq ne add sub mul div of_int
other-ways = (refl, refl, refl, refl, refl)

-- seconds times rate overflows: the step is 0, and the value neither moves nor arrives. It underflows to 0: the step is
-- infinite, and the value is there at once
never : Notes
never = set_note no_notes 0 one32 (L.Glide longest) rate64

at_once : Notes
at_once = set_note no_notes 0 one32 (L.Glide least) half32

traps : (glide_of never 0 ≡ record { target = one32; step = zero32 }) × (value_of (advanced never 4096) 0 ≡ zero32)
    × (glide_of at_once 0 ≡ record { target = one32; step = inf false }) × (value_of at_once 0 ≡ zero32)
    × (value_of (advanced at_once 1) 0 ≡ one32) × (gliding (advanced at_once 1) ≡ false)
unfolding gliding any_moving never at_once set_note set_value set_glide no_notes advanced joined moved_value moved_glide
    moved arrives moving longest least rate64 abs_of lt le eq ne add sub mul div of_int
traps = (refl, refl, refl, refl, refl, refl)

-- no glide to the value that is there already, and none without a legato time; a voice that ends stays where it is
no-glides : (gliding (set_note no_notes 0 zero32 (L.Glide one32) rate64) ≡ false)
    × (value_of (set_note to_one 3 two32 L.NoGlide rate64) 3 ≡ two32)
    × (gliding (set_note to_one 3 two32 L.NoGlide rate64) ≡ false)
    × (value_of (advanced (ended_note (advanced to_one 32) 3) 32) 3 ≡ half32)
unfolding gliding any_moving to_one ended_note set_note set_value set_glide no_notes advanced joined moved_value
    moved_glide moved arrives moving rate64 abs_of lt le eq ne add sub mul div of_int
no-glides = (refl, refl, refl, refl)

-- a legato note glides if the program does and the seconds are above 0
times-of : (legato_time true true one32 ≡ L.Glide one32) × (legato_time false true one32 ≡ L.NoGlide)
    × (legato_time true false one32 ≡ L.NoGlide) × (legato_time true true zero32 ≡ L.NoGlide)
    × (legato_time true true nan ≡ L.NoGlide)
unfolding legato_time lt
times-of = (refl, refl, refl, refl, refl)

-- a held lane: taken at once, kept at the start of a glide, taken as the glide moves, kept where it stands
lanes : (set_lane zero32 one32 L.NoGlide half32 ≡ one32) × (set_lane zero32 one32 (L.Glide one32) half32 ≡ half32)
    × (moved_lane (glide_of to_one 3) one32 half32 ≡ one32) × (moved_lane (glide_of to_one 4) one32 half32 ≡ half32)
unfolding set_lane moved_lane to_one set_note set_value set_glide no_notes moving rate64 abs_of lt le eq ne add sub mul
    div
lanes = (refl, refl, refl, refl)
