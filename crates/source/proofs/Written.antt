-- A key that is written word by word is the key's array. Assumes nothing.
use mathlib.Core.Path.{◌≡◌, refl, sym, ap, ◌∙◌}
use mathlib.Core.Bool.{Bool, true, false, cond}
use mathlib.Core.List.{List, [], ◌∷◌, ◌++◌, append_assoc, append-nil}
use Prim.Native.Nat.{ℕ, zero, suc, ◌+◌, ◌-◌, ◌/◌, ◌%◌, ◌≤◌, ◌<◌}
use native.Mathlib.Omega.{arith}
use lib.Dec.{ltb}
use lib.ListN.{length, set, replicate, length-append}
use lib.Seq.{set_at, set_out}
use borrow.Author.Tests.{lt-ltb}
use Rattle.config.specs.Sizes.{most_sources}
use Rattle.source_key.specs.declared.Text.{Text}
use Rattle.source_key.specs.Text.{blank_text, put_byte, put_all, decimal}
use Rattle.state.specs.Registry.{source_count}
use Rattle.state.specs.declared.Source.{Source}
use Rattle.state.specs.declared.Sources.{Sources}
use Rattle.source.specs.Keys.{most_key_bytes, key_array}
use Rattle.source.specs.Named.{seq_word, seq_index_key}
use Rattle.source_key.specs.Numbered.{numbered_key}
use Rattle.source.specs.declared.SourceInfo.{SourceInfo}
use Rattle.source.specs.Registry.{new_entry, with_entry}
use Rattle.source.specs.Standard.{held_info, with_source, counted, with_numbered, with_sequence}

-- a registry that is full
pub push-full : (s : Sources) (e : Source) (n : ℕ) → length s.entry ≡ most_sources → n ≡ source_count s → most_sources ≤ n
    → ◌≡◌ {A = Sources} (record { count = n + 1; entry = s.entry }) (with_entry s e)
unfolding with_entry
push-full s e n l q h = rw (← q, set_out s.entry n e (omega arith))

-- what is written when the key is
abbrev pub text_of : List ℕ → Text
text_of k = record { bytes = key_array k; len = length k }

longer : (k : List ℕ) (b : ℕ) → length k < most_key_bytes → set (key_array k) (length k) b ≡ key_array (k ++ (b ∷ []))
unfolding key_array
longer k b h =
    let left : most_key_bytes - length k ≡ suc (most_key_bytes - suc (length k)) = omega arith in
    let more : most_key_bytes - length (k ++ (b ∷ [])) ≡ most_key_bytes - suc (length k) = omega (arith, length-append k (b ∷ [])) in
    ap (λ (n : ℕ). set (k ++ replicate n 0) (length k) b) left
    ∙ set_at k 0 (replicate (most_key_bytes - suc (length k)) 0) b (length k) refl
    ∙ sym (append_assoc k (b ∷ []) (replicate (most_key_bytes - suc (length k)) 0))
    ∙ ap (λ (n : ℕ). (k ++ (b ∷ [])) ++ replicate n 0) (sym more)

put_one : (k : List ℕ) (b : ℕ) → length k < most_key_bytes → put_byte (text_of k) b ≡ text_of (k ++ (b ∷ []))
unfolding put_byte
put_one k b h = rw (lt-ltb (length k) most_key_bytes h, longer k b h, length-append)

pub put-all : (k key : List ℕ) → length k + length key ≤ most_key_bytes → put_all (text_of k) key ≡ text_of (k ++ key)
unfolding put_all
put-all k [] h = ap text_of (sym (append-nil k))
put-all k (b ∷ bs) h =
    ap (λ (t : Text). put_all t bs) (put_one k b (omega arith))
    ∙ put-all (k ++ (b ∷ [])) bs (omega (arith, length-append k (b ∷ [])))
    ∙ ap text_of (append_assoc k (b ∷ []) bs)

nothing : blank_text ≡ text_of []
unfolding blank_text key_array
nothing = refl

short : (a b : Bool) (n : ℕ) → length (cond a ((48 + n) ∷ []) (cond b ((48 + n / 10) ∷ (48 + n % 10) ∷ []) ((48 + n / 100) ∷ (48 + n / 10 % 10) ∷ (48 + n % 10) ∷ []))) ≤ 3
short true b n = omega arith
short false true n = omega arith
short false false n = omega arith

pub decimal-short : (n : ℕ) → length (decimal n) ≤ 3
unfolding decimal
decimal-short n = short (ltb n 10) (ltb n 100) n

-- a word, a number and what follows it
pub written-key : (word after : List ℕ) (n : ℕ) → length word + length after ≤ 29
    → put_all (put_all (put_all blank_text word) (decimal n)) after ≡ text_of (numbered_key word after n)
written-key word after n h =
    let d = decimal-short n in
    ap (λ (t : Text). put_all (put_all (put_all t word) (decimal n)) after) nothing
    ∙ ap (λ (t : Text). put_all (put_all t (decimal n)) after) (put-all [] word (omega arith))
    ∙ ap (λ (t : Text). put_all t after) (put-all word (decimal n) (omega arith))
    ∙ put-all (word ++ decimal n) after (omega (arith, length-append word (decimal n)))
    ∙ ap text_of (append_assoc word (decimal n) after)

-- ---- one number more

pub counted_none : (step : ℕ → Sources → Sources) (s : Sources) → counted step 0 s ≡ s
unfolding counted
counted_none step s = refl

pub counted-more : (step : ℕ → Sources → Sources) (n : ℕ) (s : Sources) → counted step (suc n) s ≡ step (suc n) (counted step n s)
unfolding counted
counted-more step n s = refl

-- ---- an entry whose key is written so

pub with-written : (s r : Sources) (info : SourceInfo) (word after : List ℕ) (n : ℕ) (t0 t1 t2 t3 : Text) → length word + length after ≤ 29
    → t0 ≡ blank_text → t1 ≡ put_all t0 word → t2 ≡ put_all t1 (decimal n) → t3 ≡ put_all t2 after
    → r ≡ with_entry s (record { key = t3.bytes; len = t3.len; kind = info.kind; scope = info.scope; range = info.range })
    → r ≡ with_source (numbered_key word after n) info s
unfolding with_source new_entry
with-written s r info word after n t0 t1 t2 t3 h q0 q1 q2 q3 q =
    let whole : t3 ≡ text_of (numbered_key word after n) = q3 ∙ ap (λ (t : Text). put_all t after) (q2 ∙ ap (λ (t : Text). put_all t (decimal n)) (q1 ∙ ap (λ (t : Text). put_all t word) q0)) ∙ written-key word after n h in
    q ∙ ap (λ (t : Text). with_entry s (record { key = t.bytes; len = t.len; kind = info.kind; scope = info.scope; range = info.range })) whole

-- ---- a sequence with values

pub sequence-some : (n : ℕ) (s : Sources) → (n ≡ 0 → ⊥) → with_sequence n s ≡ with_source seq_index_key held_info (with_numbered seq_word [] held_info n s)
unfolding with_sequence
sequence-some zero s h = absurd (h refl)
sequence-some (suc n) s h = refl
