-- Which voices sound, and in which order they sounded last (engine.rs 291-298, 456-459, 501-519). Definitions only. The
-- Rust gives each voice the number of its last note-on, counted from the engine's start. Here a voice has a rank, the
-- number of voices that sounded since: such ranks never run out, and order the voices as the Rust's numbers do
-- (proofs/Ranks.antt).
use Rattle.std.specs.Prelude.{Bool, true, false, cond, List, [], ◌∷◌, map, ℕ, zero, suc, ◌+◌, eqb, ltb, get_or, set}
use Rattle.std.specs.Prelude.{Option, Some, None}
use Rattle.std.specs.Prelude.{take, replicate}
use Rattle.config.specs.Sizes.{most_voices}
use Rattle.voice.specs.declared.Voices.{Voices}

-- ---- before any note

-- k, k + 1, .., k + n - 1
abbrev pub up_from : ℕ → ℕ → List ℕ
up_from k zero = []
up_from k (suc n) = k ∷ up_from (suc k) n

-- nobody sounds; voices that have not sounded rank by their numbers (engine.rs 291, 296-298)
unfoldable pub no_voices : Voices
no_voices = record { active = replicate most_voices false; rank = up_from 0 most_voices; newest = None }

-- ---- a note starts

-- a rank below the limit goes up by one
abbrev pub raised : ℕ → ℕ → ℕ
raised limit x = cond (ltb x limit) (x + 1) x

abbrev pub rank_of : List ℕ → ℕ → ℕ
rank_of rank v = get_or rank v 0

-- the ranks once v has sounded: v has rank 0, and those that had sounded since v did are one further back
unfoldable pub ranks_on : List ℕ → ℕ → List ℕ
ranks_on rank v = set (map (raised (rank_of rank v)) rank) v 0

-- v is active and the newest (engine.rs 456-459)
unfoldable pub sounded_on : Voices → ℕ → Voices
sounded_on s v =
    cond (ltb v most_voices)
    (record { active = set s.active v true; rank = ranks_on s.rank v; newest = Some v })
    s

-- ---- a note is released: active marks, ranks and newest stay (engine.rs 490-498)

unfoldable pub released_of : Voices → ℕ → Voices
released_of s v = s

-- ---- a voice has ended

-- of v and the newest of those looked at before it, the one of lower rank
abbrev pub later : List ℕ → ℕ → Option ℕ → Option ℕ
later rank v None = Some v
later rank v (Some w) = cond (ltb (rank_of rank v) (rank_of rank w)) (Some v) (Some w)

-- of the first n voices the active one of the lowest rank, or nobody
abbrev pub latest : List Bool → List ℕ → ℕ → Option ℕ
latest active rank zero = None
latest active rank (suc n) =
    let before = latest active rank n in cond (get_or active n false) (later rank n before) before

abbrev pub is_voice : Option ℕ → ℕ → Bool
is_voice None v = false
is_voice (Some w) v = eqb w v

-- where v was the newest, the active voice that sounded last is; else the newest stays (engine.rs 515-519)
unfoldable pub newest_after : Option ℕ → ℕ → List Bool → List ℕ → Option ℕ
newest_after newest v active rank = cond (is_voice newest v) (latest active rank most_voices) newest

-- v is not active, and ranks stay (engine.rs 506, 515-519)
unfoldable pub ended_of : Voices → ℕ → Voices
ended_of s v =
    let active = set s.active v false in
    cond (ltb v most_voices)
    (record { active = active; rank = s.rank; newest = newest_after s.newest v active s.rank })
    s

-- ---- reading

-- engine.rs 524-526
unfoldable pub is_sounding : Voices → ℕ → Bool
is_sounding s v = get_or s.active v false

-- how many are true
abbrev pub count_on : List Bool → ℕ
count_on [] = 0
count_on (b ∷ bs) = cond b 1 0 + count_on bs

-- how many of the first n voices are active (engine.rs 580)
unfoldable pub active_count : Voices → ℕ → ℕ
active_count s n = count_on (take n s.active)
