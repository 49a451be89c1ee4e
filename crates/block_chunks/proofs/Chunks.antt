-- Where a chunk of a block lies. Assumes nothing.
use mathlib.Core.Path.{◌≡◌, refl}
use Prim.Native.Nat.{ℕ, zero, suc, ◌+◌, ◌-◌, ◌*◌, ◌/◌, ◌%◌, ◌≤◌, ◌<◌}
use native.Mathlib.Decide.{dec_lt}
use native.Mathlib.Omega.{arith}
use borrow.Author.Tests.{lt-ltb, le-ltb}
use Rattle.state.specs.declared.Block.{Block}
use Rattle.model.specs.Chunks.{chunk_total, chunk_start, chunk_phase}

module _ (b : Block) where
  pub total-empty : b.end ≤ b.start → chunk_total b ≡ 0
  unfolding chunk_total
  total-empty h = simp (le-ltb b.start b.end h)

  pub total-nonempty : b.start < b.end → chunk_total b ≡ (b.phase % 32 + (b.end - b.start) + 31) / 32
  unfolding chunk_total
  total-nonempty h = simp (lt-ltb b.start b.end h)

  -- a chunk that there is starts before the block ends
  pub record Inside (i : ℕ) : Type 0 where
    pub some : b.start < b.end
    pub room : i * 32 < b.phase % 32 + (b.end - b.start)

  pub inside : (i : ℕ) → i < chunk_total b → Inside i
  inside i h = elim (dec_lt b.start b.end) [
    | yes s ↦ record { some = s; room = omega (arith, total-nonempty s) }
    | no n ↦ absurd (omega (arith, total-empty (omega arith)))
  ]

  pub start_first : (i : ℕ) → i ≡ 0 → chunk_start b i ≡ b.start
  start_first zero h = refl
  start_first (suc i) h = absurd (omega arith)

  pub start-later : (i : ℕ) → (i ≡ 0 → ⊥) → chunk_start b i ≡ b.start + (32 - b.phase % 32) + (i - 1) * 32
  start-later zero h = absurd (h refl)
  start-later (suc i) h = omega arith

  pub phase-first : (i : ℕ) → i ≡ 0 → chunk_phase b i ≡ b.phase % 32
  phase-first zero h = refl
  phase-first (suc i) h = absurd (omega arith)

  pub phase-later : (i : ℕ) → (i ≡ 0 → ⊥) → chunk_phase b i ≡ 0
  phase-later zero h = absurd (h refl)
  phase-later (suc i) h = refl
