-- Every call keeps the marks covered by the any-marks, so clearing them where the any-marks are set is clearing them. Assumes nothing.
use mathlib.Core.Path.{◌≡◌, refl, sym, ◌∙◌}
use mathlib.Core.Bool.{Bool, true, false, cond, not, ◌||◌}
use mathlib.Core.List.{List, [], ◌∷◌}
use Prim.Native.Nat.{ℕ, zero, suc, ◌<◌}
use native.Mathlib.Decide.{ℕ_discrete, dec_lt}
use native.Mathlib.Omega.{arith}
use lib.ListN.{length, get_or, set, replicate, length-set, length-replicate, get_or-replicate}
use lib.Seq.{get_or-set_same, get_or-set_other, ext_get_or}
use borrow.Author.Tests.{lt-ltb, le-ltb}
use Rattle.config.specs.Sizes.{most_voices}
use Rattle.list.proofs.Elements.{get_or_past}
use Rattle.voice.specs.declared.Marks.{Marks}
use Rattle.voice.specs.Joined.{joined}
use Rattle.voice.specs.Marks.{any_of, no_marks, marks_on, marks_ended, marks_swapped, Covered, cleared_where}
use Rattle.voice.proofs.Elements.{joined_at, joined_length}

clash : (b : Bool) → b ≡ true → b ≡ false → ⊥
clash b p q = let z : ◌≡◌ {A = ℕ} 0 1 = cc in omega arith

-- a list of marks is covered by a mark
abbrev Under : List Bool → Bool → Type 0
Under marks any = (v : ℕ) → get_or marks v false ≡ true → any ≡ true

under_none : Under (replicate most_voices false) false
under_none v t = elim (dec_lt v most_voices) [
  | yes h ↦ absurd (clash (get_or (replicate most_voices false) v false) t (get_or-replicate most_voices v false false h))
  | no p ↦ absurd (clash (get_or (replicate most_voices false) v false) t (get_or_past (replicate most_voices false) v false (omega arith)))
]

under-off : (marks : List Bool) (any : Bool) (v : ℕ) → v < length marks → Under marks any → Under (set marks v false) any
under-off marks any v h c u t = elim (ℕ_discrete u v) [
  | yes e ↦ absurd (clash (get_or (set marks v false) v false) (rw e at t) (get_or-set_same marks v false false h))
  | no ne ↦ c u (sym (get_or-set_other marks v u false false ne) ∙ t)
]

any_at : (marks : List Bool) (v : ℕ) → get_or marks v false ≡ true → any_of marks ≡ true
any_at [] v t = absurd (clash false t refl)
any_at (b ∷ marks) zero t = rw t
any_at (b ∷ marks) (suc v) t = or_right b (any_of marks) (any_at marks v t)
  where
    or_right : (x y : Bool) → y ≡ true → (x || y) ≡ true
    or_right true y e = refl
    or_right false y e = e

under-joined : (marks active : List Bool) (any : Bool) → length marks ≡ most_voices → length active ≡ most_voices → Under marks any
    → Under (joined ◌||◌ marks active) (any || any_of active)
under-joined marks active any e i c v t = elim (dec_lt v most_voices) [
  | no p ↦
      absurd (clash (get_or (joined ◌||◌ marks active) v false) t (get_or_past (joined ◌||◌ marks active) v false (omega (arith, joined_length ◌||◌ marks active (e ∙ sym i)))))
  | yes h ↦ go (get_or marks v false) (get_or active v false) refl refl (sym (joined_at ◌||◌ marks active v false false false (omega arith) (omega arith)) ∙ t)
]
  where
    go : (x y : Bool) → get_or marks v false ≡ x → get_or active v false ≡ y → (x || y) ≡ true → (any || any_of active) ≡ true
    go true y p q s = rw (c v p)
    go false y p q s = rw (any_at active v (q ∙ s)) (or-true any)
      where
        or-true : (x : Bool) → (x || true) ≡ true
        or-true true = refl
        or-true false = refl

pub covered-first : Covered no_marks
unfolding no_marks
covered-first = record { fresh_long = refl; renoted_long = refl; fresh_covered = under_none; renoted_covered = under_none }

module _ (m : Marks) (c : Covered m) where
  pub covered-on : (v : ℕ) (legato : Bool) → Covered (marks_on m v legato)
  unfolding marks_on
  covered-on v legato = elim (dec_lt v most_voices) [
    | no p ↦ rw (le-ltb v most_voices (omega arith)) c
    | yes h ↦ rw (lt-ltb v most_voices h) (go legato)
  ]
    where
      go : (b : Bool) → Covered (record { fresh = cond b m.fresh (set m.fresh v true); any_fresh = not b || m.any_fresh; renoted = set m.renoted v true; any_renoted = true })
      go true = record {
        fresh_long = c.fresh_long;
        renoted_long = length-set m.renoted v true ∙ c.renoted_long;
        fresh_covered = c.fresh_covered;
        renoted_covered = λ u t. refl;
      }
      go false = record {
        fresh_long = length-set m.fresh v true ∙ c.fresh_long;
        renoted_long = length-set m.renoted v true ∙ c.renoted_long;
        fresh_covered = λ u t. refl;
        renoted_covered = λ u t. refl;
      }

  pub covered-ended : (v : ℕ) → Covered (marks_ended m v)
  unfolding marks_ended
  covered-ended v = elim (dec_lt v most_voices) [
    | no p ↦ rw (le-ltb v most_voices (omega arith)) c
    | yes h ↦ rw (lt-ltb v most_voices h) (record {
      fresh_long = length-set m.fresh v false ∙ c.fresh_long;
      renoted_long = length-set m.renoted v false ∙ c.renoted_long;
      fresh_covered = under-off m.fresh m.any_fresh v (omega (arith, c.fresh_long)) c.fresh_covered;
      renoted_covered = under-off m.renoted m.any_renoted v (omega (arith, c.renoted_long)) c.renoted_covered;
    })
  ]

  pub covered-swapped : (active : List Bool) → length active ≡ most_voices → Covered (marks_swapped m active)
  unfolding marks_swapped
  covered-swapped active i = record {
    fresh_long = joined_length ◌||◌ m.fresh active (c.fresh_long ∙ sym i) ∙ c.fresh_long;
    renoted_long = joined_length ◌||◌ m.renoted active (c.renoted_long ∙ sym i) ∙ c.renoted_long;
    fresh_covered = under-joined m.fresh active m.any_fresh c.fresh_long i c.fresh_covered;
    renoted_covered = under-joined m.renoted active m.any_renoted c.renoted_long i c.renoted_covered;
  }

none-on : (marks : List Bool) (any : Bool) → length marks ≡ most_voices → Under marks any → cleared_where any marks ≡ replicate most_voices false
none-on marks true e c = refl
none-on marks false e c =
    ext_get_or false marks (replicate most_voices false) (e ∙ sym (length-replicate most_voices false)) (λ v h.
    off v (get_or marks v false) refl ∙ sym (get_or-replicate most_voices v false false (omega arith)))
  where
    off : (v : ℕ) (b : Bool) → get_or marks v false ≡ b → get_or marks v false ≡ false
    off v true p = absurd (clash false (c v p) refl)
    off v false p = p

-- CLEARED WHERE THE ANY-MARKS ARE SET, the marks are those of before any note
pub cleared-all : (m : Marks) → Covered m
    → (cleared_where m.any_fresh m.fresh ≡ no_marks.fresh) × (cleared_where m.any_renoted m.renoted ≡ no_marks.renoted)
unfolding no_marks
cleared-all m c =
    (none-on m.fresh m.any_fresh c.fresh_long c.fresh_covered, none-on m.renoted m.any_renoted c.renoted_long c.renoted_covered)
