-- The new slews of a plan's routes, in a memory of their own. Assumes nothing.
use mathlib.Core.Path.{◌≡◌, ap, ◌∙◌}
use mathlib.Core.Bool.{Bool, true}
use mathlib.Core.Logic.{inl}
use mathlib.Core.List.{List}
use Prim.Native.Nat.{ℕ, zero, suc, ◌+◌, ◌*◌, ◌≤◌, ◌<◌}
use native.Mathlib.Omega.{arith}
use lib.ListN.{length}
use lib.Ieee.{Float}
use Rattle.state.specs.declared.Route.{Route}
use Rattle.model.specs.Counts.{at}
use Rattle.model.specs.Env.{Env, Rows, Own}
use Rattle.model.specs.Mix.{Mix}
use Rattle.model.specs.Slews.{source_after, aux_after}
use Rattle.model.specs.Tick.{fill_from}
use Rattle.model.proofs.FillFrom.{fill-length, fill-inside, fill-outside}
use Rattle.plan_slews.specs.Rows.{IsRow}
use Rattle.plan_slews.specs.Put.{new_need, new_start, still, IsNew}

-- ---- two rows of one route

module _ (m n o : List Float) (j : ℕ) (src aux : List Float) (fits : j < 64) (long : length m ≡ new_need) (e : n ≡ fill_from m (j * 128) (at src) 64) (d : o ≡ fill_from n (j * 128 + 64) (at aux) 64) where
  two-length : length n ≡ new_need
  two-length = ap length e ∙ fill-length m (j * 128) (at src) 64 ∙ long

  pub new-length : length o ≡ new_need
  new-length = ap length d ∙ fill-length n (j * 128 + 64) (at aux) 64 ∙ two-length

  pub new-before : (p : ℕ) → p < new_start j 0 → at o p ≡ at m p
  new-before p h =
      ap (λ (y : List Float). at y p) d ∙ fill-outside n (j * 128 + 64) (at aux) 64 p (inl (omega arith))
      ∙ ap (λ (y : List Float). at y p) e ∙ fill-outside m (j * 128) (at src) 64 p (inl (omega arith))

  new-source : (l : ℕ) → l < 64 → at o (j * 128 + l) ≡ at src l
  new-source l h =
      ap (λ (y : List Float). at y (j * 128 + l)) d ∙ fill-outside n (j * 128 + 64) (at aux) 64 (j * 128 + l) (inl (omega arith))
      ∙ ap (λ (y : List Float). at y (j * 128 + l)) e ∙ fill-inside m (j * 128) (at src) 64 l h (omega arith)

  new-aux : (l : ℕ) → l < 64 → at o (j * 128 + 64 + l) ≡ at aux l
  new-aux l h =
      let long₁ = two-length in
      ap (λ (y : List Float). at y (j * 128 + 64 + l)) d ∙ fill-inside n (j * 128 + 64) (at aux) 64 l h (omega arith)

  pub is-new : (t : Env) (x : Mix) (f : Rows) (s : Own) (r : Route) {k : ℕ} → t.stride ≡ k → k ≤ 64 → IsRow k (source_after t x f s j) src → IsRow k (aux_after t x f s j) aux → IsNew t x f s j r o
  is-new t x f s r w b u v off zero l h g =
      let same : new_start j 0 + l ≡ j * 128 + l = omega arith in
      ap (at o) same ∙ new-source l (omega arith) ∙ u l (omega arith)
  is-new t x f s r w b u v off (suc zero) l h g =
      let same : new_start j 1 + l ≡ j * 128 + 64 + l = omega arith in
      ap (at o) same ∙ new-aux l (omega arith) ∙ v l (omega arith)
  is-new t x f s r w b u v off (suc (suc q)) l h g = absurd (omega arith)

-- what was made of an earlier route stays
pub still-new : (t : Env) (x : Mix) (f : Rows) (s : Own) (j k : ℕ) (r : Route) (m n : List Float) → j < k → t.stride ≤ 64 → ((p : ℕ) → p < new_start k 0 → at n p ≡ at m p)
    → IsNew t x f s j r m → IsNew t x f s j r n
still-new t x f s j k r m n h b e i off q l a g = e (new_start j q + l) (omega arith) ∙ i off q l a g

-- a route that has no slew has nothing new
pub none-new : (t : Env) (x : Mix) (f : Rows) (s : Own) (j : ℕ) (r : Route) (n : List Float) {b : Bool} → b ≡ still r → b ≡ true → IsNew t x f s j r n
none-new t x f s j r n e on off q l a g = let z : ◌≡◌ {A = ℕ} 0 1 = cc in absurd (omega arith)
