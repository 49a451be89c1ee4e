-- What `new` gives, where a row applies and where none does. Assumes nothing.
use mathlib.Core.Path.{◌≡◌, sym, ap, ◌∙◌}
use mathlib.Core.Logic.{◌≢◌}
use mathlib.Core.Bool.{cond}
use mathlib.Core.List.{List, [], map}
use Prim.Native.Nat.{ℕ, ◌≤◌, min}
use native.Mathlib.Omega.{arith}
use borrow.Author.Tests.{ne_eqb}
use lib.Dec.{eqb}
use lib.ListN.{length}
use lib.Ieee.{Float}
use Rattle.config.specs.Sizes.{most_sources, most_destinations}
use Rattle.config.specs.declared.Config.{Config}
use Rattle.refusal.specs.Judge.{judged}
use Rattle.state.specs.Registry.{source_count, dest_count}
use Rattle.state.specs.declared.Sources.{Sources}
use Rattle.state.specs.declared.Destinations.{Destinations}
use Rattle.state.specs.declared.SourceMark.{SourceMark}
use Rattle.state.specs.declared.State.{State}
use Rattle.model.specs.Compile.{zeroed}
use Rattle.model.specs.World.{World, world_of}
use Rattle.model.specs.States.{put_state, put_held, put_globals, put_bases}
use Rattle.model.specs.Settings.{Done, mark_of, fresh_state, fresh_world, refused_state, new_rows, new_engine}
use Rattle.engine_settings.specs.Codes.{held_need, new_code}
use Rattle.engine_settings.specs.Fresh.{fresh_of}

-- the fresh state, by its counts and marks
fresh-is : (ss : Sources) (ds : Destinations) (c : Config) (n d : ℕ) (marks : List SourceMark) → n ≡ source_count ss → d ≡ dest_count ds → marks ≡ map mark_of ss.entry
    → fresh_of c n d marks ≡ fresh_state ss ds c
unfolding fresh_of fresh_state
fresh-is ss ds c n d marks hn hd hm = rw (hn, hd, hm)

-- a count that is held to its limit already
pub sources-fit : (n k m : ℕ) → n ≡ min k most_sources → min n most_sources ≤ m → n ≤ m
sources-fit n k m e h = omega arith

pub dests-fit : (n k m : ℕ) → n ≡ min k most_destinations → min n most_destinations ≤ m → n ≤ m
dests-fit n k m e h = omega arith

module _ (ss : Sources) (ds : Destinations) (c : Config) (held globals bases : List Float) (n d code : ℕ) (hn : n ≡ source_count ss) (hd : d ≡ dest_count ds) (e : code ≡ new_code c n d (length held) (length globals) (length bases)) where
  abbrev lent : World
  lent = world_of refused_state held globals bases [] [] []

  abbrev call : Done
  call = new_engine ss ds c lent

  by : ℕ → Done
  by k = record { code = k; world = cond (eqb k 0) (fresh_world ss ds c lent) (put_state lent refused_state) }

  code_is : code ≡ judged (new_rows ss ds c lent)
  unfolding new_code fresh_state
  code_is = e ∙ rw (hn, hd)

  by_code : by code ≡ call
  unfolding new_engine by
  by_code = ap by code_is

  pub new-refused : code ≢ 0 → (st : State) → st ≡ refused_state → ((code ≡ call.code) × (st ≡ call.world.state)) × ((held ≡ call.world.held) × ((globals ≡ call.world.globals) × (bases ≡ call.world.bases)))
  unfolding by put_state
  new-refused h st hst =
      let r : record { code = code; world = put_state lent refused_state } ≡ by code = simp (ne_eqb code 0 h) in
      let m = r ∙ by_code in
      ((ap (λ (x : Done). x.code) m, hst ∙ ap (λ (x : Done). x.world.state) m), (ap (λ (x : Done). x.world.held) m, (ap (λ (x : Done). x.world.globals) m, ap (λ (x : Done). x.world.bases) m)))

  pub new-made : code ≡ 0 → (st : State) (marks : List SourceMark) → marks ≡ map mark_of ss.entry → st ≡ fresh_of c n d marks → (need : ℕ) → need ≡ held_need c n
      → (held' globals' bases' : List Float) → held' ≡ zeroed need held → globals' ≡ zeroed n globals → bases' ≡ zeroed d bases
      → ((0 ≡ call.code) × (st ≡ call.world.state)) × ((held' ≡ call.world.held) × ((globals' ≡ call.world.globals) × (bases' ≡ call.world.bases)))
  unfolding by put_state put_held put_globals put_bases fresh_state
  new-made h st marks hm hst need hneed held' globals' bases' eh eg eb =
      let m : by 0 ≡ call = ap by (sym h) ∙ by_code in
      let n_held : n ≡ min (source_count ss) most_sources = omega arith in
      let d-held : d ≡ min (dest_count ds) most_destinations = omega arith in (
        (ap (λ (x : Done). x.code) m, hst ∙ fresh-is ss ds c n d marks hn hd hm ∙ ap (λ (x : Done). x.world.state) m),
        (
          eh ∙ ap (λ (k : ℕ). zeroed k held) (hneed ∙ ap (held_need c) hn) ∙ ap (λ (x : Done). x.world.held) m,
          (
            eg ∙ ap (λ (k : ℕ). zeroed k globals) n_held ∙ ap (λ (x : Done). x.world.globals) m,
            eb ∙ ap (λ (k : ℕ). zeroed k bases) d-held ∙ ap (λ (x : Done). x.world.bases) m,
          ),
        ),
      )
