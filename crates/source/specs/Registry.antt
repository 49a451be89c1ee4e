-- The registry of sources: its entries, "numbered from 0 in order of adding" (document 01, Source entry; source.rs
-- 171-213, 326-346). Definitions only.
use Rattle.std.specs.Prelude.{Bool, cond, List, [], ◌∷◌, ℕ, zero, suc, ◌+◌, eqb, ltb, leb, length, take}
use Rattle.std.specs.Prelude.{get_or, set, replicate, Option, Some, None, is_some, Result, Ok, Err}
use Rattle.refusal.specs.Judge.{Row, ◌when◌, judged}
use Rattle.refusal.specs.Refusal.{number_of}
use Rattle.refusal.specs.declared.Refusal.{Refusal}
use Rattle.refusal.specs.declared.Refusal.TheVariants as R
use Rattle.reply.specs.Reply.{Reply, accepts, refuses, by_rows}
use Rattle.config.specs.Sizes.{most_sources}
use Rattle.state.specs.Registry.{source_count, no_source as blankEntry}
use Rattle.state.specs.declared.Kind.{Kind}
use Rattle.state.specs.declared.Scope.{Scope}
use Rattle.state.specs.declared.Range.{Range}
use Rattle.state.specs.declared.Source.{Source}
use Rattle.state.specs.declared.Sources.{Sources}
use Rattle.source.specs.declared.Added.{Added}
use Rattle.source.specs.Keys.{most_key_bytes, key_is, key_array}

-- ---- entries

-- source.rs 193
unfoldable pub no_sources : Sources
no_sources = record { count = 0; entry = replicate most_sources blankEntry }

-- source.rs 332
abbrev pub sources_empty : Sources → Bool
sources_empty s = eqb (source_count s) 0

-- the registered entries, each at its number
unfoldable pub registered : Sources → List Source
registered s = take (source_count s) s.entry

-- source.rs 338
unfoldable pub get_source : Sources → ℕ → Option Source
get_source s id = cond (ltb id (source_count s)) (Some (get_or (registered s) id blankEntry)) None

-- ---- finding (source.rs 344)

-- the first of the entries that has the key, the first entry's number being n
unfoldable pub find_key : ℕ → List ℕ → List Source → Option ℕ
find_key n key [] = None
find_key n key (e ∷ es) = cond (key_is key e) (Some n) (find_key (suc n) key es)

-- what the answer says: number and values of each case (document 01, The form to use in each place)
abbrev pub found_reply : Result (Option ℕ) Refusal → Reply ℕ
found_reply (Err r) = refuses (number_of r)
found_reply (Ok None) = accepts []
found_reply (Ok (Some n)) = accepts (n ∷ [])

-- row 15: a key above 32 bytes
abbrev pub find_rows : List ℕ → List Row
find_rows key = 15 when ltb most_key_bytes (length key) ∷ []

-- refused by that row, or what is found
abbrev pub found_or : ℕ → Option ℕ → Result (Option ℕ) Refusal
found_or zero found = Ok found
found_or (suc n) found = Err R.Length

unfoldable pub find_source : Sources → List ℕ → Result (Option ℕ) Refusal
find_source s key = found_or (judged (find_rows key)) (find_key 0 key (registered s))

-- the numbers of the entries that have the key, the first entry's being n
abbrev pub places_of : ℕ → List ℕ → List Source → List ℕ
places_of n key [] = []
places_of n key (e ∷ es) = cond (key_is key e) (n ∷ places_of (suc n) key es) (places_of (suc n) key es)

-- what `find` says: the number by its row, else the first of the registered entries that have the key, if there is one
unfoldable pub found_says : Sources → List ℕ → Reply ℕ
unfolding by_rows
found_says s key = by_rows (find_rows key) (take 1 (places_of 0 key (registered s)))

-- ---- adding (source.rs 202-213)

-- row 9: an entry has the key; row 12: 128 are registered; row 15: a key above 32 bytes
abbrev pub add_rows : Sources → List ℕ → List Row
add_rows s key =
    9 when is_some (find_key 0 key (registered s))
    ∷ 12 when leb most_sources (source_count s)
    ∷ 15 when ltb most_key_bytes (length key)
    ∷ []

unfoldable pub new_entry : List ℕ → Kind → Scope → Range → Source
new_entry key kind scope range =
    record { key = key_array key; len = length key; kind = kind; scope = scope; range = range }

-- one entry more, after those registered
unfoldable pub with_entry : Sources → Source → Sources
with_entry s e = record { count = source_count s + 1; entry = set s.entry (source_count s) e }

-- a number by which the call is refused, or 0, the entry's number and the registry
pub record SourceAdded : Type 0 where
  pub code : ℕ
  pub id : ℕ
  pub sources : Sources

-- what an answer says: a refusal leaves the registry as it came, and gives the number 0
abbrev pub added_said : Sources → Result Added Refusal → SourceAdded
added_said s (Ok a) = record { code = 0; id = a.id; sources = a.sources }
added_said s (Err r) = record { code = number_of r; id = 0; sources = s }

-- accepted, the new entry's number is the old count; refused, the registry is as it came and the number 0
abbrev pub added_or : ℕ → Sources → Source → SourceAdded
added_or zero s e = record { code = 0; id = source_count s; sources = with_entry s e }
added_or (suc n) s e = record { code = suc n; id = 0; sources = s }

unfoldable pub add_source : Sources → List ℕ → Kind → Scope → Range → SourceAdded
add_source s key kind scope range = added_or (judged (add_rows s key)) s (new_entry key kind scope range)
