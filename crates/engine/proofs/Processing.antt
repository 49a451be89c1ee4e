-- What `process` answers, from what its helpers ensure. Assumes nothing.
use mathlib.Core.Path.{◌≡◌, refl, ap, ◌∙◌}
use mathlib.Core.Bool.{Bool, cond, ◌&&◌}
use mathlib.Core.List.{List}
use Prim.Native.Nat.{ℕ}
use lib.Dec.{eqb, ltb}
use lib.Ieee.{Float}
use Rattle.state.specs.declared.Signals.{Signals}
use Rattle.state.specs.declared.State.{State}
use Rattle.model.specs.World.{World, world_of}
use Rattle.model.specs.Process.{Processed, over_range, process}
use Rattle.block_opening.specs.Codes.{counts_of, lengths_of, code_by}
use Rattle.block_opening.proofs.Codes.{code-of-block}
use Rattle.block.specs.Worlds.{answered_world}
use Rattle.block.proofs.Blocks.{run_is}

-- what a call leaves, as its answer and the lent memories have it
abbrev pub Leaves : Processed → ℕ → State → List Float → List Float → List Float → List Float → Type 0
Leaves p code st held globals values audio =
    ((code ≡ p.code) × (st ≡ p.world.state))
    × ((held ≡ p.world.held) × ((globals ≡ p.world.globals) × ((values ≡ p.world.values) × (audio ≡ p.world.audio))))

leaves : (p : Processed) (code : ℕ) (w : World) → record { code = code; world = w } ≡ p → Leaves p code w.state w.held w.globals w.values w.audio
leaves p code w e = (
  (ap (λ (x : Processed). x.code) e, ap (λ (x : Processed). x.world.state) e),
  (ap (λ (x : Processed). x.world.held) e, (ap (λ (x : Processed). x.world.globals) e, (ap (λ (x : Processed). x.world.values) e, ap (λ (x : Processed). x.world.audio) e))),
)

module _ (st : State) (h g a v b t samples : List Float) (signals : Signals) (start end : ℕ) (code : ℕ)
    (e : code ≡ code_by (counts_of st) (lengths_of (world_of st h g a v b t) samples) signals.part end)
  where
    abbrev before : World
    before = world_of st h g a v b t

    abbrev call : Processed
    call = process (world_of st h g a v b t) samples signals start end

    abbrev by : ℕ → Bool → Processed
    by k some = record { code = k; world = cond (eqb k 0 && some) (over_range samples signals start end before) before }

    by-is : (k : ℕ) → k ≡ code → by k (ltb start end) ≡ call
    unfolding process
    by-is k f = ap (λ (n : ℕ). by n (ltb start end)) (f ∙ e ∙ code-of-block before samples signals end)

    pub process-done : (next : State) (h' g' v' b' : List Float) → world_of next h' g' a v' b' t ≡ answered_world code samples signals start end before
        → Leaves call code next h' g' v' b'
    unfolding answered_world
    process-done next h' g' v' b' f =
        let made : world_of next h' g' a v' b' t ≡ (by code (ltb start end)).world =
        f ∙ ap (λ (w : World). cond (eqb code 0 && ltb start end) w before) (run_is samples signals start end before) in
        leaves call code (world_of next h' g' a v' b' t) (ap (λ (w : World). record { code = code; world = w }) made ∙ by-is code refl)
