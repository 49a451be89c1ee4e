-- What ranks say: in which order the voices sounded last, as the Rust's numbers have it (engine.rs 457-458, 515-519).
-- Definitions only; proofs/Ranks.antt, Since.antt, Right.antt and After.antt have the theorems.
use Rattle.std.specs.Prelude.{◌≡◌, Bool, true, false, cond, ◌⊎◌, List, [], ◌∷◌, ℕ, zero, suc, ◌+◌, ◌≤◌, ◌<◌, eqb, ltb}
use Rattle.std.specs.Prelude.{Option, Some, None}
use Rattle.std.specs.Prelude.{length, get_or}
use Rattle.config.specs.Sizes.{most_voices}
use Rattle.voice.specs.declared.Voices.{Voices}
use Rattle.voice.specs.Voices.{rank_of, no_voices, ranks_on, sounded_on, released_of, ended_of}

-- ---- the Rust's numbers. Lists have the latest note-on first

-- the number of a voice's last note-on: they are counted from 1, and a voice that has not sounded has 0 (engine.rs
-- 296-297, 457-458)
abbrev pub stamp : List ℕ → ℕ → ℕ
stamp [] a = 0
stamp (v ∷ earlier) a = cond (eqb a v) (length earlier + 1) (stamp earlier a)

-- the ranks after these note-ons
unfoldable pub ranks_after : List ℕ → List ℕ
ranks_after [] = no_voices.rank
ranks_after (v ∷ earlier) = ranks_on (ranks_after earlier) v

-- a sounded later than b, or neither has sounded and a is the lower number
abbrev pub Later : List ℕ → ℕ → ℕ → Type 0
Later l a b = (stamp l b < stamp l a) ⊎ ((stamp l a ≡ stamp l b) × (a < b))

-- 1 where b sounded since a did, else 0
abbrev pub newer : List ℕ → ℕ → ℕ → ℕ
newer l a b = cond (ltb (stamp l a) (stamp l b)) 1 0

-- how many of the first n voices sounded since a did
unfoldable pub since : List ℕ → ℕ → ℕ → ℕ
since l a zero = 0
since l a (suc n) = newer l a n + since l a n

-- ---- ranks

-- which voice has rank k
pub record Has (rank : List ℕ) (k : ℕ) : Type 0 where
  pub voice : ℕ
  pub inside : voice < most_voices
  pub is : rank_of rank voice ≡ k

-- a rank a voice: each number below their number once
pub record Ranks (rank : List ℕ) : Type 0 where
  pub long : length rank ≡ most_voices
  pub below : (a : ℕ) → a < most_voices → rank_of rank a < most_voices
  pub apart : (a b : ℕ) → a < most_voices → b < most_voices → rank_of rank a ≡ rank_of rank b → a ≡ b
  pub each : (k : ℕ) → k < most_voices → Has rank k

-- ---- the newest

-- of the first n voices the active one of the lowest rank, or nobody where none is active
pub data Latest (active : List Bool) (rank : List ℕ) (n : ℕ) : Option ℕ → Type 0 where
  none : ((u : ℕ) → u < n → get_or active u false ≡ false) → Latest active rank n None
  one : {w : ℕ} → w < n → get_or active w false ≡ true
      → ((u : ℕ) → u < n → get_or active u false ≡ true → rank_of rank w ≤ rank_of rank u)
      → Latest active rank n (Some w)

-- ---- calls

pub data Note : Type 0 where
  on : ℕ → Note
  off : ℕ → Note
  ended : ℕ → Note

abbrev pub noted : Voices → Note → Voices
noted s (on v) = sounded_on s v
noted s (off v) = released_of s v
noted s (ended v) = ended_of s v

-- the voices after these calls
unfoldable pub voices_after : List Note → Voices
voices_after [] = no_voices
voices_after (n ∷ earlier) = noted (voices_after earlier) n

-- the note-ons among them that are not refused
abbrev pub note_ons : List Note → List ℕ
note_ons [] = []
note_ons (on v ∷ earlier) = let rest = note_ons earlier in cond (ltb v most_voices) (v ∷ rest) rest
note_ons (off v ∷ earlier) = note_ons earlier
note_ons (ended v ∷ earlier) = note_ons earlier

-- what every call keeps: a rank a voice, and the newest is the active voice that sounded last
pub record Right (s : Voices) : Type 0 where
  pub long : length s.active ≡ most_voices
  pub ranks : Ranks s.rank
  pub newest : Latest s.active s.rank most_voices s.newest
