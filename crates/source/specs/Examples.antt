-- The definitions on small examples. The registries here have 4 places, whatever their count.
use Rattle.std.specs.Prelude.{◌≡◌, refl, true, false, List, [], ◌∷◌, ℕ, replicate, Some, None, Ok, Err}
use Rattle.refusal.specs.Judge.{judged}
use Rattle.refusal.specs.declared.Refusal.TheVariants.{Length}
use Rattle.state.specs.declared.Kind.TheVariants as K
use Rattle.state.specs.declared.Scope.TheVariants as S
use Rattle.state.specs.declared.Range.TheVariants as R
use Rattle.state.specs.declared.Source.{Source}
use Rattle.state.specs.declared.Sources.{Sources}
use Rattle.source.specs.Keys.{key_of, key_is, key_array}
use Rattle.source_key.specs.Bytes.{same_bytes}
use Rattle.state.specs.Registry.{no_source as blankEntry, source_count}
use Rattle.source.specs.Registry.{sources_empty, registered, get_source, find_key, find_source, new_entry, with_entry}
use Rattle.source.specs.Registry.{SourceAdded, add_source}
use Rattle.source.specs.Info.{engine_owned, usual_info, info_voice, info_global, info_bipolar}

-- "lfo", "lf", "lf1", and a key of n times "a"
abbrev lfo : List ℕ
lfo = 108 ∷ 102 ∷ 111 ∷ []

abbrev lf : List ℕ
lf = 108 ∷ 102 ∷ []

abbrev lf1 : List ℕ
lf1 = 108 ∷ 102 ∷ 49 ∷ []

abbrev times-a : ℕ → List ℕ
times-a n = replicate n 97

-- ---- keys

abbrev a-new-entry : Source
a-new-entry = new_entry lfo K.Signal S.Voice R.Unipolar

key-of-a-new-entry : key_of a-new-entry ≡ lfo
unfolding key_of new_entry key_array
key-of-a-new-entry = refl

-- the length counts, and every byte
compared : (key_is lfo a-new-entry ≡ true) × (key_is lf a-new-entry ≡ false) × (key_is lf1 a-new-entry ≡ false)
    × (key_is [] a-new-entry ≡ false) × (key_is [] blankEntry ≡ true)
unfolding key_is key_of same_bytes new_entry key_array
compared = (refl, refl, refl, refl, refl)

-- an entry that states 77 bytes has 32
abbrev long-entry : Source
long-entry = record { key = times-a 32; len = 77; kind = K.Held; scope = S.Global; range = R.Bipolar }

stated-too-long : (key_is (times-a 32) long-entry ≡ true) × (key_is (times-a 31) long-entry ≡ false)
    × (key_is (times-a 33) long-entry ≡ false)
unfolding key_is key_of same_bytes
stated-too-long = (refl, refl, refl)

-- ---- the registry: "lfo" and the empty key are registered, the third entry is not

abbrev with-count : ℕ → Sources
with-count n = record { count = n; entry = a-new-entry ∷ blankEntry ∷ long-entry ∷ blankEntry ∷ [] }

counts : (source_count (with-count 2) ≡ 2) × (source_count (with-count 128) ≡ 128)
    × (source_count (with-count 900) ≡ 128)
    × (sources_empty (with-count 0) ≡ true) × (sources_empty (with-count 900) ≡ false)
counts = (refl, refl, refl, refl, refl)

got : (get_source (with-count 2) 0 ≡ Some a-new-entry)
    × (get_source (with-count 2) 2 ≡ None)
unfolding get_source registered
got = (refl, refl)

found : (find_source (with-count 2) lfo ≡ Ok (Some 0)) × (find_source (with-count 2) [] ≡ Ok (Some 1))
    × (find_source (with-count 2) (times-a 32) ≡ Ok None) × (find_source (with-count 3) (times-a 32) ≡ Ok (Some 2))
    × (find_source (with-count 4) [] ≡ Ok (Some 1)) × (find_source (with-count 3) (times-a 33) ≡ Err Length)
unfolding find_source find_key registered judged key_is key_of same_bytes new_entry key_array
found = (refl, refl, refl, refl, refl, refl)

-- ---- adding

abbrev add-to : ℕ → List ℕ → SourceAdded
add-to n key = add_source (with-count n) key K.Audio S.Global R.Bipolar

-- the number is the old count, and the entry stands there
accepted : add-to 2 lf1 ≡ record {
  code = 0;
  id = 2;
  sources = record {
    count = 3;
    entry = a-new-entry ∷ blankEntry ∷ new_entry lf1 K.Audio S.Global R.Bipolar
        ∷ blankEntry ∷ [];
  };
}
unfolding add_source with_entry find_key registered judged key_is key_of same_bytes new_entry key_array
accepted = refl

-- a registered key is 9; one of 33 bytes is 15, and one of 32 accepted
refused : (add-to 2 lfo ≡ record { code = 9; id = 0; sources = with-count 2 }) × ((add-to 2 []).code ≡ 9)
    × (add-to 2 (times-a 33) ≡ record { code = 15; id = 0; sources = with-count 2 })
    × ((add-to 2 (times-a 32)).code ≡ 0)
unfolding add_source with_entry find_key registered judged key_is key_of same_bytes new_entry key_array
refused = (refl, refl, refl, refl)

-- the empty key is accepted once
empty-once : ((add-to 1 []).code ≡ 0) × ((add-to 1 []).id ≡ 1)
    × ((add_source (add-to 1 []).sources [] K.Held S.Voice R.Unipolar).code ≡ 9)
unfolding add_source with_entry find_key registered judged key_is key_of same_bytes new_entry key_array
empty-once = (refl, refl, refl)

-- "the 128th source accepted, the 129th is 12"; at a full registry a registered key is 9, and one of 33 bytes is 12
at-the-most : ((add-to 127 lf1).code ≡ 0) × ((add-to 127 lf1).id ≡ 127) × ((add-to 128 lf1).code ≡ 12)
    × ((add-to 900 lf1).code ≡ 12) × ((add-to 128 lfo).code ≡ 9) × ((add-to 128 (times-a 33)).code ≡ 12)
    × ((add-to 127 (times-a 33)).code ≡ 15)
unfolding add_source with_entry find_key registered judged key_is key_of same_bytes new_entry key_array
at-the-most = (refl, refl, refl, refl, refl, refl, refl)

-- ---- kinds

owned : (engine_owned K.Signal ≡ false) × (engine_owned K.Held ≡ false) × (engine_owned (K.Alternate true) ≡ true)
    × (engine_owned K.Constant ≡ true)
owned = (refl, refl, refl, refl)

usual : (usual_info K.Held ≡ record { kind = K.Held; scope = S.Global; range = R.Unipolar })
    × (usual_info K.Audio ≡ record { kind = K.Audio; scope = S.Voice; range = R.Bipolar })
usual = (refl, refl)

-- a Held source takes the scope, a Constant one keeps its own
scopes : ((info_voice (usual_info K.Held)).scope ≡ S.Voice) × ((info_voice (usual_info K.Constant)).scope ≡ S.Global)
    × ((info_global (usual_info K.Signal)).scope ≡ S.Global) × ((info_global (usual_info K.Key)).scope ≡ S.Voice)
scopes = (refl, refl, refl, refl)

-- the range is taken by every kind
ranges : info_bipolar (usual_info K.Constant) ≡ record { kind = K.Constant; scope = S.Global; range = R.Bipolar }
ranges = refl
