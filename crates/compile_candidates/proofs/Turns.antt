-- The loops over the slots: what stands after n turns, and after one more. Assumes nothing.
use mathlib.Core.Path.{◌≡◌, refl, sym, ap, ◌∙◌}
use mathlib.Core.List.{List, [], ◌∷◌, ◌++◌, append-nil}
use Prim.Native.Nat.{ℕ, ◌+◌, ◌≤◌, ◌<◌}
use native.Mathlib.Numerals.{add-one}
use native.Mathlib.Omega.{arith}
use lib.ListN.{length, get_or, set, take, length-set}
use lib.Seq.{take-suc, take-suc-set, take_all, length-take-le}
use Rattle.config.specs.Sizes.{slots}
use Rattle.state.specs.declared.Sources.{Sources}
use Rattle.state.specs.declared.Destinations.{Destinations}
use Rattle.state.specs.declared.Slot.{Slot}
use Rattle.state.specs.declared.Skipped.{Skipped}
use Rattle.state.specs.declared.Candidate.{Candidate}
use Rattle.state.specs.declared.Verdict.{Verdict}
use Rattle.state.specs.declared.Verdict.TheVariants.{Over, LeftOut, Taken}
use Rattle.state.specs.declared.Reason.{Reason}
use Rattle.state_filled.specs.Filled.{added}
use Rattle.state_filled.proofs.Laws.{added-more}
use Rattle.model.specs.Wiring.{verdict, verdicts_from, with_candidate, taken_of, with_skipped, left_out_from}
use Rattle.model.proofs.Candidates.{verdicts-append, taken-append, taken-length, left_out-append, left_out-length}

-- ---- verdicts

-- the first n places of `out` have the verdicts of the first n slots
pub record Judged (ss : Sources) (ds : Destinations) (l : List Slot) (n : ℕ) (out : List Verdict) : Type 0 where
  pub as_long : length out ≡ slots
  pub so_far : take n out ≡ verdicts_from ss ds 0 (take n l)

module _ (ss : Sources) (ds : Destinations) (l : List Slot) where
  pub judged-none : (out : List Verdict) → length out ≡ slots → Judged ss ds l 0 out
  unfolding verdicts_from
  judged-none out e = record { as_long = e; so_far = refl }

  verdicts-next : (n : ℕ) (d : Slot) → n < length l
      → verdicts_from ss ds 0 (take (n + 1) l) ≡ verdicts_from ss ds 0 (take n l) ++ verdict ss ds n (get_or l n d) ∷ []
  unfolding verdicts_from
  verdicts-next n d h =
      let e : 0 + length (take n l) ≡ n = omega (arith, length-take-le n l (omega arith)) in
      ap (λ (k : ℕ). verdicts_from ss ds 0 (take k l)) (add-one n)
      ∙ ap (verdicts_from ss ds 0) (take-suc l n d h)
      ∙ verdicts-append ss ds 0 (take n l) (get_or l n d ∷ [])
      ∙ ap (λ (k : ℕ). verdicts_from ss ds 0 (take n l) ++ verdict ss ds k (get_or l n d) ∷ []) e

  pub judged-more : (n : ℕ) (d : Slot) (out : List Verdict) (v : Verdict) → length l ≡ slots → n < slots → Judged ss ds l n out
      → v ≡ verdict ss ds n (get_or l n d) → Judged ss ds l (n + 1) (set out n v)
  judged-more n d out v e h j p = record {
    as_long = length-set out n v ∙ j.as_long;
    so_far =
        ap (λ (k : ℕ). take k (set out n v)) (add-one n)
        ∙ take-suc-set out n v (omega (arith, j.as_long))
        ∙ ap (λ (vs : List Verdict). vs ++ v ∷ []) j.so_far
        ∙ ap (λ (x : Verdict). verdicts_from ss ds 0 (take n l) ++ x ∷ []) p
        ∙ sym (verdicts-next n d (omega arith));
  }

  pub judged-all : (n : ℕ) (out : List Verdict) → length l ≡ slots → slots ≤ n → Judged ss ds l n out → out ≡ verdicts_from ss ds 0 l
  judged-all n out e h j =
      sym (take_all n out (omega (arith, j.as_long))) ∙ j.so_far ∙ ap (verdicts_from ss ds 0) (take_all n l (omega arith))
