-- What `standard_sources` does: refused by a row, or all entries since none applies. Assumes nothing.
use mathlib.Core.Path.{◌≡◌, refl}
use mathlib.Core.Bool.{Bool, true, false, cond}
use mathlib.Core.List.{List}
use Prim.Native.Nat.{ℕ, ◌≤◌}
use native.Mathlib.Omega.{arith}
use lib.Dec.{ltb}
use lib.ListN.{length}
use borrow.Author.Tests.{ltb-false, ne_eqb}
use Rattle.std.specs.Prelude.{Err}
use Rattle.refusal.specs.Judge.{judged}
use Rattle.refusal.specs.Refusal.{number_of}
use Rattle.refusal.specs.declared.Refusal.{Refusal}
use Rattle.refusal.proofs.Laws.{number-above}
use Rattle.config.specs.Sizes.{most_sources}
use Rattle.source.specs.declared.Counts.{Counts}
use Rattle.source.specs.Registry.{no_sources}
use Rattle.source.specs.Standard.{all_sources, audio_keys, total, any_long, clashes, standard_count, standard_rows, made_said, standard_sources}

-- what the rows leave: few enough entries, and keys that lie inside the bytes and are short
pub record Standing (n : Counts) (bytes lengths : List ℕ) : Type 0 where
  pub envelopes : n.envelopes ≤ most_sources
  pub lfos : n.lfos ≤ most_sources
  pub macros : n.macros ≤ most_sources
  pub values : n.sequence_values ≤ most_sources
  pub inside : total lengths ≤ length bytes
  pub short : any_long lengths ≡ false

none-applies : (a b c d : Bool) → ◌≡◌ {A = ℕ} (cond a 9 (cond b 12 (cond c 14 (cond d 15 0)))) 0 → (b ≡ false) × (c ≡ false) × (d ≡ false)
none-applies false false false false h = (refl, refl, refl)
none-applies false false false true h = absurd (omega arith)
none-applies false false true d h = absurd (omega arith)
none-applies false true c d h = absurd (omega arith)
none-applies true b c d h = absurd (omega arith)

pub standing : (n : Counts) (bytes lengths : List ℕ) → judged (standard_rows n bytes lengths) ≡ 0 → Standing n bytes lengths
unfolding judged standard_count
standing n bytes lengths h =
    let f = none-applies (clashes n (audio_keys bytes lengths)) (ltb most_sources (standard_count n (length lengths))) (ltb (length bytes) (total lengths)) (any_long lengths) h in
    let few = ltb-false most_sources (standard_count n (length lengths)) f.0 in
    record {
      envelopes = omega arith;
      lfos = omega arith;
      macros = omega arith;
      values = omega arith;
      inside = ltb-false (length bytes) (total lengths) f.1;
      short = f.2;
    }

module _ (n : Counts) (bytes lengths : List ℕ) where
  pub standard-refuses : (judged (standard_rows n bytes lengths) ≡ 0 → ⊥) → standard_sources n bytes lengths ≡ record { code = judged (standard_rows n bytes lengths); sources = no_sources }
  unfolding standard_sources
  standard-refuses h = rw (ne_eqb (judged (standard_rows n bytes lengths)) 0 h)

  -- as a Result says it
  pub standard-refuses-by : (r : Refusal) → number_of r ≡ judged (standard_rows n bytes lengths) → standard_sources n bytes lengths ≡ made_said (Err r)
  unfolding standard_sources
  standard-refuses-by r h =
      rw (ne_eqb (judged (standard_rows n bytes lengths)) 0 (λ z. omega (arith, number-above r)), h)

  pub standard-accepts : judged (standard_rows n bytes lengths) ≡ 0 → standard_sources n bytes lengths ≡ record { code = 0; sources = all_sources n (audio_keys bytes lengths) }
  unfolding standard_sources
  standard-accepts h = rw h
