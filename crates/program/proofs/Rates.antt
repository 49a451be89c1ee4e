-- The rate of a destination, looked up plan by plan. Assumes nothing.
use mathlib.Core.Path.{◌≡◌, ap, ◌∙◌}
use mathlib.Core.List.{List, [], ◌∷◌}
use Prim.Native.Nat.{ℕ, ◌+◌}
use borrow.Author.Tests.{eq-eqb, ne_eqb}
use lib.ListN.{drop}
use Rattle.std.specs.Prelude.{None}
use Rattle.state.specs.declared.Plan.{Plan}
use Rattle.program.specs.Readers.{rate_by, rate_from}

module _ (l : List Plan) (d : ℕ) where
  -- the first i are others'
  abbrev pub Others : ℕ → Type 0
  Others i = rate_from l d ≡ rate_from (drop i l) d

  module _ (i : ℕ) (p : Plan) (h : drop i l ≡ p ∷ drop (i + 1) l) (o : Others i) where
    pub rate-here : p.dest ≡ d → rate_from l d ≡ rate_by p.audio
    unfolding rate_from
    rate-here e = o ∙ ap (λ (m : List Plan). rate_from m d) h ∙ simp (eq-eqb p.dest d e)

    pub others-next : (p.dest ≡ d → ⊥) → Others (i + 1)
    unfolding rate_from
    others-next ne = o ∙ ap (λ (m : List Plan). rate_from m d) h ∙ simp (ne_eqb p.dest d ne)

  pub no-rate : (i : ℕ) → drop i l ≡ [] → Others i → rate_from l d ≡ None
  unfolding rate_from
  no-rate i h o = o ∙ ap (λ (m : List Plan). rate_from m d) h
