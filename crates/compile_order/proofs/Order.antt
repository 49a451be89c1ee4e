-- From the destinations in use and the readers of a wiring, the order is the wiring's. Assumes nothing.
use mathlib.Core.Path.{◌≡◌, refl, ap, ◌∙◌}
use mathlib.Core.Logic.{◌⊎◌, inl, inr}
use mathlib.Core.Bool.{Bool, true, false, not}
use mathlib.Core.List.{List, [], ◌∷◌, map}
use Prim.Native.Nat.{ℕ}
use lib.ListN.{length}
use Rattle.feed.specs.Numbers.{keep}
use Rattle.feed.proofs.Tests.{which}
use Rattle.state.specs.declared.Used.{Used}
use Rattle.state.specs.declared.Wiring.{Wiring}
use Rattle.state.specs.Registry.{dest_at}
use Rattle.model.specs.Wiring.{candidates}
use Rattle.model.specs.Feeds.{in_use, is_audio, used_as, used_dests, readers_of, reads, controls, audios, plan_order}
use Rattle.compile_order.specs.Marks.{is_rated, rated_as, order_in}

-- those of one rate among numbered ones
rated-keep : (g : ℕ → Used) (p : ℕ → Bool) (b : Bool) (l : List ℕ) → ((d : ℕ) → (g d).dest ≡ d) → ((d : ℕ) → is_rated b (g d) ≡ p d) → rated_as b (map g l) ≡ keep p l
rated-keep g p b [] named same = refl
rated-keep g p b (d ∷ l) named same = go (which (p d)) (rated-keep g p b l named same)
  where
    go : (p d ≡ true) ⊎ (p d ≡ false) → rated_as b (map g l) ≡ keep p l → rated_as b (map g (d ∷ l)) ≡ keep p (d ∷ l)
    go (inl t) ih = rw (same d, t, named d, ih)
    go (inr t) ih = rw (same d, t, ih)

module _ (w : Wiring) where
  pub rated-controls : rated_as false (used_dests w) ≡ controls w
  unfolding used_dests controls in_use is_audio
  rated-controls = rated-keep (λ d. used_as w.sources (candidates w) d (dest_at w.dests d)) (λ d. not (is_audio w d)) false (in_use w) (λ d. refl) (λ d. refl)

  pub rated-audios : rated_as true (used_dests w) ≡ audios w
  unfolding used_dests audios in_use is_audio
  rated-audios = rated-keep (λ d. used_as w.sources (candidates w) d (dest_at w.dests d)) (is_audio w) true (in_use w) (λ d. refl) (λ d. refl)

  -- THE ORDER OF THE PLANS
  pub order-in-is : order_in (used_dests w) (readers_of w) ≡ plan_order w
  unfolding order_in plan_order reads
  order-in-is = rw (rated-controls, rated-audios)
