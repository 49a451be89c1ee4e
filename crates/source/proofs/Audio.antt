-- The audio keys, one after the other, and their lengths, as a loop goes along them. Assumes nothing.
use mathlib.Core.Path.{◌≡◌, refl, sym, ap, ◌∙◌}
use mathlib.Core.Bool.{Bool, true, false, ◌||◌}
use mathlib.Core.List.{List, [], ◌∷◌}
use Prim.Native.Nat.{ℕ, ◌+◌, ◌-◌, ◌≤◌, ◌<◌}
use native.Mathlib.Decide.{dec_lt}
use native.Mathlib.Numerals.{add-one}
use native.Mathlib.Omega.{arith}
use lib.Dec.{ltb}
use lib.ListN.{length, get_or, drop, length-drop, drop_of_length-le}
use lib.Seq.{drop-cons, drop-drop}
use borrow.Author.Tests.{ltb-false, lt-ltb, le-ltb, le-leb, lt-leb}
use Rattle.std.specs.List.{list_any}
use Rattle.list.specs.Part.{part}
use Rattle.state.specs.declared.Sources.{Sources}
use Rattle.source.specs.declared.Counts.{Counts}
use Rattle.source.specs.Keys.{most_key_bytes}
use Rattle.source_key.specs.Bytes.{same_bytes}
use Rattle.source.specs.Standard.{audio_info, with_source, with_audio, audio_keys, total, any_long, any_same, standard_key, clashes}

-- ---- tests one after the other

or_left : (a b : Bool) → a ≡ true → (a || b) ≡ true
or_left true b h = refl
or_left false b h = let z : ◌≡◌ {A = ℕ} 0 1 = cc in absurd (omega arith)

or_right : (a b : Bool) → a ≡ false → (a || b) ≡ b
or_right true b h = let z : ◌≡◌ {A = ℕ} 0 1 = cc in absurd (omega arith)
or_right false b h = refl

or_assoc : (a b c : Bool) → (a || (b || c)) ≡ ((a || b) || c)
or_assoc true b c = refl
or_assoc false b c = refl

-- ---- the keys from number i on, which start at byte `at`

module _ (bytes lengths : List ℕ) (at i : ℕ) where
  -- one key more, where it lies inside the bytes
  pub keys-next : i < length lengths → at + get_or lengths i 0 ≤ length bytes
      → audio_keys (drop at bytes) (drop i lengths) ≡ part bytes at (at + get_or lengths i 0) ∷ audio_keys (drop (at + get_or lengths i 0) bytes) (drop (i + 1) lengths)
  unfolding audio_keys part
  keys-next h l =
      let n = get_or lengths i 0 in
      let inside : n ≤ length (drop at bytes) = simp length-drop (omega arith) in
      let long : at + n - at ≡ n = omega arith in
      rw (add-one, drop-cons lengths i 0 h, le-leb n (length (drop at bytes)) inside, long, drop-drop n at bytes)

  -- none, where it does not
  pub keys_none : i < length lengths → length bytes - at < get_or lengths i 0 → audio_keys (drop at bytes) (drop i lengths) ≡ []
  unfolding audio_keys
  keys_none h l =
      let n = get_or lengths i 0 in
      let outside : length (drop at bytes) < n = simp length-drop (omega arith) in
      rw (drop-cons lengths i 0 h, lt-leb n (length (drop at bytes)) outside)

  pub keys-past : length lengths ≤ i → audio_keys (drop at bytes) (drop i lengths) ≡ []
  unfolding audio_keys
  keys-past h = rw (drop_of_length-le lengths h)

  -- ---- what is done with them

  pub audio-next : (s : Sources) → i < length lengths → at + get_or lengths i 0 ≤ length bytes
      → with_audio (audio_keys (drop at bytes) (drop i lengths)) s
      ≡ with_audio (audio_keys (drop (at + get_or lengths i 0) bytes) (drop (i + 1) lengths)) (with_source (part bytes at (at + get_or lengths i 0)) audio_info s)
  unfolding with_audio
  audio-next s h l = rw (keys-next h l)

  pub audio-past : (s : Sources) → length lengths ≤ i → with_audio (audio_keys (drop at bytes) (drop i lengths)) s ≡ s
  unfolding with_audio
  audio-past s h = rw (keys-past h)

  -- the next is the key; it is not
  pub same-hit : (key : List ℕ) → i < length lengths → at + get_or lengths i 0 ≤ length bytes → same_bytes key (part bytes at (at + get_or lengths i 0)) ≡ true
      → any_same key (audio_keys (drop at bytes) (drop i lengths)) ≡ true
  unfolding any_same
  same-hit key h l q = rw (keys-next h l) (or_left (same_bytes key (part bytes at (at + get_or lengths i 0))) (any_same key (audio_keys (drop (at + get_or lengths i 0) bytes) (drop (i + 1) lengths))) q)

  pub same-miss : (key : List ℕ) → i < length lengths → at + get_or lengths i 0 ≤ length bytes → same_bytes key (part bytes at (at + get_or lengths i 0)) ≡ false
      → any_same key (audio_keys (drop at bytes) (drop i lengths)) ≡ any_same key (audio_keys (drop (at + get_or lengths i 0) bytes) (drop (i + 1) lengths))
  unfolding any_same
  same-miss key h l q = rw (keys-next h l) (or_right (same_bytes key (part bytes at (at + get_or lengths i 0))) (any_same key (audio_keys (drop (at + get_or lengths i 0) bytes) (drop (i + 1) lengths))) q)

  pub same_none : (key : List ℕ) → i < length lengths → length bytes - at < get_or lengths i 0 → any_same key (audio_keys (drop at bytes) (drop i lengths)) ≡ false
  unfolding any_same
  same_none key h l = rw (keys_none h l)

  pub same_end : (key : List ℕ) → length lengths ≤ i → any_same key (audio_keys (drop at bytes) (drop i lengths)) ≡ false
  unfolding any_same
  same_end key h = rw (keys-past h)

  -- the next one clashes; it does not
  pub clash-hit : (n : Counts) → i < length lengths → at + get_or lengths i 0 ≤ length bytes
      → (standard_key n (part bytes at (at + get_or lengths i 0))
      || any_same (part bytes at (at + get_or lengths i 0)) (audio_keys (drop (at + get_or lengths i 0) bytes) (drop (i + 1) lengths))) ≡ true
      → clashes n (audio_keys (drop at bytes) (drop i lengths)) ≡ true
  unfolding clashes
  clash-hit n h l q =
      let k = part bytes at (at + get_or lengths i 0) in
      let ks = audio_keys (drop (at + get_or lengths i 0) bytes) (drop (i + 1) lengths) in
      rw (keys-next h l) (or_assoc (standard_key n k) (any_same k ks) (clashes n ks) ∙ or_left (standard_key n k || any_same k ks) (clashes n ks) q)

  pub clash-miss : (n : Counts) → i < length lengths → at + get_or lengths i 0 ≤ length bytes
      → (standard_key n (part bytes at (at + get_or lengths i 0))
      || any_same (part bytes at (at + get_or lengths i 0)) (audio_keys (drop (at + get_or lengths i 0) bytes) (drop (i + 1) lengths))) ≡ false
      → clashes n (audio_keys (drop at bytes) (drop i lengths)) ≡ clashes n (audio_keys (drop (at + get_or lengths i 0) bytes) (drop (i + 1) lengths))
  unfolding clashes
  clash-miss n h l q =
      let k = part bytes at (at + get_or lengths i 0) in
      let ks = audio_keys (drop (at + get_or lengths i 0) bytes) (drop (i + 1) lengths) in
      rw (keys-next h l) (or_assoc (standard_key n k) (any_same k ks) (clashes n ks) ∙ or_right (standard_key n k || any_same k ks) (clashes n ks) q)

  pub clash-none : (n : Counts) → i < length lengths → length bytes - at < get_or lengths i 0 → clashes n (audio_keys (drop at bytes) (drop i lengths)) ≡ false
  unfolding clashes
  clash-none n h l = rw (keys_none h l)

  pub clash-end : (n : Counts) → length lengths ≤ i → clashes n (audio_keys (drop at bytes) (drop i lengths)) ≡ false
  unfolding clashes
  clash-end n h = rw (keys-past h)

-- ---- the lengths from number i on

module _ (lengths : List ℕ) (i : ℕ) where
  pub total-next : i < length lengths → total (drop i lengths) ≡ get_or lengths i 0 + total (drop (i + 1) lengths)
  unfolding total
  total-next h = rw (add-one, drop-cons lengths i 0 h)

  pub total-past : length lengths ≤ i → total (drop i lengths) ≡ 0
  unfolding total
  total-past h = rw (drop_of_length-le lengths h)

  pub long-next : i < length lengths → any_long (drop i lengths) ≡ (ltb most_key_bytes (get_or lengths i 0) || any_long (drop (i + 1) lengths))
  unfolding any_long
  long-next h = rw (add-one, drop-cons lengths i 0 h)

-- the library's search for a length above 32
pub long-any : (ns : List ℕ) → list_any (ltb most_key_bytes) ns ≡ any_long ns
unfolding any_long
long-any [] = refl
long-any (n ∷ ns) = ap (λ (t : Bool). ltb most_key_bytes n || t) (long-any ns)

none : (a b : Bool) → (a || b) ≡ false → (a ≡ false) × (b ≡ false)
none true b h = let z : ◌≡◌ {A = ℕ} 0 1 = cc in absurd (omega arith)
none false b h = (refl, h)

-- where none is long, the next is short and none of the others is long
pub short-next : (lengths : List ℕ) (i : ℕ) → i < length lengths → any_long (drop i lengths) ≡ false → (get_or lengths i 0 ≤ most_key_bytes) × (any_long (drop (i + 1) lengths) ≡ false)
short-next lengths i h s =
    let f = none (ltb most_key_bytes (get_or lengths i 0)) (any_long (drop (i + 1) lengths)) (sym (long-next lengths i h) ∙ s) in
    (ltb-false most_key_bytes (get_or lengths i 0) f.0, f.1)

-- what is left after n of it
pub left_after : (left n rest : ℕ) → n ≤ left → ltb left (n + rest) ≡ ltb (left - n) rest
left_after left n rest h =
    elim (dec_lt left (n + rest)) [
      | yes b ↦ lt-ltb _ _ b ∙ sym (lt-ltb (left - n) rest (omega arith))
      | no b ↦ le-ltb left (n + rest) (omega arith) ∙ sym (le-ltb (left - n) rest (omega arith))
    ]
