-- Plans and routes, one destination more. Assumes nothing.
use mathlib.Core.Path.{◌≡◌, sym, ap, ◌∙◌}
use mathlib.Core.List.{List, [], ◌∷◌, ◌++◌}
use Prim.Native.Nat.{ℕ, ◌+◌, ◌<◌}
use lib.Ieee.{Float}
use lib.ListN.{length, get_or, drop}
use lib.Seq.{append_snoc}
use Rattle.config.specs.Sizes.{slots}
use Rattle.state.specs.declared.Sources.{Sources}
use Rattle.state.specs.declared.Destinations.{Destinations}
use Rattle.state.specs.declared.Slot.{Slot}
use Rattle.state.specs.declared.Candidate.{Candidate}
use Rattle.state.specs.declared.Reader.{Reader}
use Rattle.state.specs.declared.Plan.{Plan}
use Rattle.state.specs.declared.Route.{Route}
use Rattle.state.specs.Registry.{dest_at}
use Rattle.state_filled.specs.Filled.{added}
use Rattle.state_filled.proofs.Laws.{added-more}
use Rattle.state_filled.proofs.Stored.{stored-from}
use Rattle.model.specs.Feeds.{is_voice, counted, audio_in}
use Rattle.model.specs.Routes.{routes_in}
use Rattle.model.specs.Plans.{readers_into, plan_by, plans_in, routes_over}
use Rattle.compile_routes.specs.Added.{routes_added}
use Rattle.compile_routes.proofs.Lists.{added-append}

module _ (ss : Sources) (ds : Destinations) (cs : List Candidate) (rs : List Reader) where
  abbrev pub plan_at : ℕ → ℕ → Plan
  plan_at d f = plan_by d (dest_at ds d) (counted ss (dest_at ds d).feed) (audio_in ss cs d (dest_at ds d)) f (length (readers_into d rs))

  pub planned-more : (os : List ℕ) (out : List Plan) (i f : ℕ) → length out < slots → i < length os
      → added out (plan_at (get_or os i 0) f) ++ plans_in ss ds cs rs (f + length (readers_into (get_or os i 0) rs)) (drop (i + 1) os)
      ≡ out ++ plans_in ss ds cs rs f (drop i os)
  planned-more os out i f room h =
      let d = get_or os i 0 in
      ap (λ (l : List Plan). l ++ plans_in ss ds cs rs (f + length (readers_into d rs)) (drop (i + 1) os)) (added-more out (plan_at d f) room)
      ∙ append_snoc out (plan_at d f) (plans_in ss ds cs rs (f + length (readers_into d rs)) (drop (i + 1) os))
      ∙ ap (λ (l : List ℕ). out ++ plans_in ss ds cs rs f l) (sym (stored-from os i 0 h))

module _ (rate : Float) (ss : Sources) (ds : Destinations) (sl : List Slot) (rs : List Reader) (all : List ℕ) where
  pub routed-more : (os : List ℕ) (out : List Route) (i : ℕ) → i < length os
      → routes_added (routes_added out (routes_in rate ss all sl (is_voice (dest_at ds (get_or os i 0)).scope) (readers_into (get_or os i 0) rs))) (routes_over rate ss ds sl rs all (drop (i + 1) os))
      ≡ routes_added out (routes_over rate ss ds sl rs all (drop i os))
  routed-more os out i h =
      let d = get_or os i 0 in
      sym (added-append out (routes_in rate ss all sl (is_voice (dest_at ds d).scope) (readers_into d rs)) (routes_over rate ss ds sl rs all (drop (i + 1) os)))
      ∙ ap (λ (l : List ℕ). routes_added out (routes_over rate ss ds sl rs all l)) (sym (stored-from os i 0 h))
