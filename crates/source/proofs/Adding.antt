-- What `add_source` does: a refusal leaves the registry; an accepted entry stands after the others, and its key is found there.
-- Assumes nothing.
use mathlib.Core.Path.{◌≡◌, refl, sym, ap, ◌∙◌}
use mathlib.Core.Bool.{Bool, true, false, cond}
use mathlib.Core.List.{List, [], ◌∷◌, ◌++◌}
use Prim.Native.Nat.{ℕ, zero, suc, ◌+◌, ◌-◌, ◌≤◌, ◌<◌, min}
use native.Mathlib.Omega.{arith}
use Rattle.std.specs.Prelude.{Option, Some, is_some, Ok, Err}
use lib.Dec.{leb, ltb}
use lib.ListN.{length, replicate}
use lib.Seq.{take-suc-set, take-append_seam}
use borrow.Author.Tests.{ltb-false, leb-false, le-ltb, lt-leb}
use Rattle.refusal.specs.Judge.{judged}
use Rattle.refusal.specs.Refusal.{number_of}
use Rattle.refusal.specs.declared.Refusal.{Refusal}
use Rattle.refusal.proofs.Laws.{number-above}
use Rattle.config.specs.Sizes.{most_sources}
use Rattle.state.specs.declared.Kind.{Kind}
use Rattle.state.specs.declared.Scope.{Scope}
use Rattle.state.specs.declared.Range.{Range}
use Rattle.state.specs.declared.Source.{Source}
use Rattle.state.specs.declared.Sources.{Sources}
use Rattle.source.specs.Keys.{most_key_bytes, key_of, key_is, key_array}
use Rattle.source_key.specs.Bytes.{same_bytes}
use Rattle.state.specs.Registry.{source_count}
use Rattle.source.specs.Registry.{registered, find_key, find_source, add_rows, new_entry, with_entry, added_or, added_said, add_source}
use Rattle.source_key.proofs.Bytes.{same_self}
use Rattle.source.proofs.Registry.{registered-length, find-after, find-others}

-- a key that may be added: no entry has it, there is room for an entry, and the entry has room for it
pub record Addable (s : Sources) (key : List ℕ) : Type 0 where
  pub fresh : is_some (find_key 0 key (registered s)) ≡ false
  pub room : source_count s < most_sources
  pub short : length key ≤ most_key_bytes

none-applies : (a b c : Bool) → ◌≡◌ {A = ℕ} (cond a 9 (cond b 12 (cond c 15 0))) 0 → (a ≡ false) × (b ≡ false) × (c ≡ false)
none-applies false false false h = (refl, refl, refl)
none-applies false false true h = absurd (omega arith)
none-applies false true c h = absurd (omega arith)
none-applies true b c h = absurd (omega arith)

pub addable : (s : Sources) (key : List ℕ) → judged (add_rows s key) ≡ 0 → Addable s key
unfolding judged
addable s key h =
    let f = none-applies (is_some (find_key 0 key (registered s))) (leb most_sources (source_count s)) (ltb most_key_bytes (length key)) h in
    record {
      fresh = f.0;
      room = leb-false most_sources (source_count s) f.1;
      short = ltb-false most_key_bytes (length key) f.2;
    }

-- and such a key is accepted
pub addable-accepted : (s : Sources) (key : List ℕ) → Addable s key → judged (add_rows s key) ≡ 0
unfolding judged
addable-accepted s key a =
    rw (a.fresh, lt-leb most_sources (source_count s) a.room, le-ltb most_key_bytes (length key) a.short)

added-refused : (n : ℕ) (s : Sources) (e : Source) → (n ≡ 0 → ⊥) → added_or n s e ≡ record { code = n; id = 0; sources = s }
added-refused zero s e h = absurd (h refl)
added-refused (suc n) s e h = refl

module _ (s : Sources) (key : List ℕ) (kind : Kind) (scope : Scope) (range : Range) where
  pub add-refuses : (judged (add_rows s key) ≡ 0 → ⊥) → add_source s key kind scope range ≡ record { code = judged (add_rows s key); id = 0; sources = s }
  unfolding add_source
  add-refuses h = added-refused (judged (add_rows s key)) s (new_entry key kind scope range) h

  -- as a Result says it
  pub add-refuses-by : (r : Refusal) → number_of r ≡ judged (add_rows s key) → add_source s key kind scope range ≡ added_said s (Err r)
  add-refuses-by r h =
      let pos : 0 < number_of r = number-above r in
      add-refuses (λ z. omega arith) ∙ rw (sym h) refl

  pub add-accepts : judged (add_rows s key) ≡ 0
      → add_source s key kind scope range ≡ record { code = 0; id = source_count s; sources = with_entry s (new_entry key kind scope range) }
  unfolding add_source
  add-accepts h = rw h

  -- the new entry has the key
  pub new-key : length key ≤ most_key_bytes → key_of (new_entry key kind scope range) ≡ key
  unfolding key_of new_entry key_array
  new-key h =
      let n : min (length key) most_key_bytes ≡ length key = omega arith in
      rw n (take-append_seam key (replicate (most_key_bytes - length key) 0))

-- the entries below are as before, and the new one stands after them
pub registered-with : (s : Sources) (e : Source) → length s.entry ≡ most_sources → source_count s < most_sources → registered (with_entry s e) ≡ registered s ++ (e ∷ [])
unfolding registered with_entry
registered-with s e l r =
    let n : min (source_count s + 1) most_sources ≡ suc (source_count s) = omega arith in
    rw n (take-suc-set s.entry (source_count s) e (omega arith))

found-short : (s : Sources) (key : List ℕ) → length key ≤ most_key_bytes → find_source s key ≡ Ok (find_key 0 key (registered s))
unfolding find_source judged
found-short s key h = rw (le-ltb most_key_bytes (length key) h)

module _ (s : Sources) (key : List ℕ) (kind : Kind) (scope : Scope) (range : Range) (full-length : length s.entry ≡ most_sources) (accepted : judged (add_rows s key) ≡ 0) where
  -- an accepted key is found at the old count
  pub add-found : find_source (add_source s key kind scope range).sources key ≡ Ok (Some (source_count s))
  unfolding find_key key_is
  add-found =
      let e = new_entry key kind scope range in
      let ok = addable s key accepted in
      let has : key_is key e ≡ true = rw (new-key s key kind scope range ok.short) (same_self key) in
      let at : 0 + length (registered s) ≡ source_count s = omega (arith, registered-length s full-length) in
      rw (add-accepts s key kind scope range accepted)
      (found-short (with_entry s e) key ok.short
      ∙ ap (λ (es : List Source). Ok (find_key 0 key es)) (registered-with s e full-length ok.room)
      ∙ ap (λ (f : Option ℕ). Ok f) (find-after 0 key (registered s) (e ∷ []) ok.fresh)
      ∙ rw (at, has))

  -- every other key is found where it was, or not at all
  pub add-others : (other : List ℕ) → same_bytes other key ≡ false → find_source (add_source s key kind scope range).sources other ≡ find_source s other
  unfolding find_source key_is
  add-others other h =
      let e = new_entry key kind scope range in
      let ok = addable s key accepted in
      let hasnt : key_is other e ≡ false = rw (new-key s key kind scope range ok.short) h in
      rw (add-accepts s key kind scope range accepted, registered-with s e full-length ok.room, find-others 0 other (registered s) e hasnt)
