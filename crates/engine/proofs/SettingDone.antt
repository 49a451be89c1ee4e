-- What each setting gives, where a row applies and where none does. Assumes nothing.
use mathlib.Core.Path.{◌≡◌, refl, sym, ap, ◌∙◌}
use mathlib.Core.Bool.{Bool, true, false, cond}
use mathlib.Core.List.{List, []}
use Prim.Native.Nat.{ℕ, ◌+◌, ◌*◌, min, max}
use lib.Dec.{eqb}
use lib.ListN.{length, get_or, set, replicate}
use lib.Ieee.{Float}
use Rattle.config.specs.Sizes.{most_voices, lane_stride}
use Rattle.refusal.proofs.Laws.{judged-none}
use Rattle.list.specs.Rows.{on_row}
use Rattle.voice.specs.Marks.{marks_swapped}
use Rattle.voice.specs.declared.Marks.{Marks}
use Rattle.state.specs.declared.Gains.{Gains}
use Rattle.state.specs.declared.Program.{Program}
use Rattle.state.specs.declared.State.{State}
use Rattle.model.specs.Feeds.{is_voice}
use Rattle.model.specs.World.{World, world_of, no_mark}
use Rattle.model.specs.States.{with_marks, with_gains, with_limit, with_primed, with_program, put_state, put_held, put_globals, put_bases}
use Rattle.model.specs.Settings.{Done, done_by, held_rows, held_world, voice_held_rows, base_rows, gain_rows, with_amount, with_output, installed, gains_finite, Swap, set_held, set_voice_held, set_base, set_amount, set_output, set_voice_limit, swap_program}
use Rattle.engine.proofs.ByNumber.{done-code, done-part, done-kept}
use Rattle.engine_settings.specs.Codes.{held_code, voice_held_code, base_code, gain_code, swap_code}

-- ---- set_held

module _ (st : State) (held globals : List Float) (i : ℕ) (x : Float) (code : ℕ) (e : code ≡ held_code st.config st.sources (length held) (length globals) i x) where
  abbrev held-call : Done
  held-call = set_held (world_of st held globals [] [] [] []) i x

  -- what is written by the scope
  by-scope : (v : Bool) (s : ℕ) → World
  by-scope v s = cond v (put_held (world_of st held globals [] [] [] []) (on_row held s i (replicate s x))) (put_globals (world_of st held globals [] [] [] []) (set globals i x))

  scope-state : (v : Bool) (s : ℕ) → st ≡ (by-scope v s).state
  unfolding by-scope put_held put_globals
  scope-state true s = refl
  scope-state false s = refl

  scope-held : (v : Bool) (s : ℕ) → cond v (on_row held s i (replicate s x)) held ≡ (by-scope v s).held
  unfolding by-scope put_held put_globals
  scope-held true s = refl
  scope-held false s = refl

  scope-globals : (v : Bool) (s : ℕ) → cond v globals (set globals i x) ≡ (by-scope v s).globals
  unfolding by-scope put_held put_globals
  scope-globals true s = refl
  scope-globals false s = refl

  by-scope-is : (v : Bool) (s : ℕ) → v ≡ is_voice (get_or st.mark i no_mark).scope → s ≡ lane_stride (min st.config.voices most_voices) → by-scope v s ≡ held_world (world_of st held globals [] [] [] []) i x
  unfolding by-scope
  by-scope-is v s hv hs = rw (hv, hs)

  pub held-done : (v : Bool) (s : ℕ) → v ≡ is_voice (get_or st.mark i no_mark).scope → s ≡ lane_stride (min st.config.voices most_voices)
      → (held' globals' : List Float) → held' ≡ cond (eqb code 0) (cond v (on_row held s i (replicate s x)) held) held
      → globals' ≡ cond (eqb code 0) (cond v globals (set globals i x)) globals
      → (code ≡ held-call.code) × ((st ≡ held-call.world.state) × ((held' ≡ held-call.world.held) × (globals' ≡ held-call.world.globals)))
  unfolding set_held held_code
  held-done v s hv hs held' globals' eh eg =
      let w = world_of st held globals [] [] [] [] in
      let next = held_world w i x in
      let b = by-scope-is v s hv hs in (
        done-code (held_rows w i x) w next code e,
        (
          done-kept (held_rows w i x) w next code e (λ (y : World). y.state) (sym (scope-state v s ∙ ap (λ (y : World). y.state) b)),
          (
            eh
                ∙ ap (λ (m : List Float). cond (eqb code 0) m held) (scope-held v s ∙ ap (λ (y : World). y.held) b)
                ∙ done-part (held_rows w i x) w next code e (λ (y : World). y.held),
            eg
                ∙ ap (λ (m : List Float). cond (eqb code 0) m globals) (scope-globals v s ∙ ap (λ (y : World). y.globals) b)
                ∙ done-part (held_rows w i x) w next code e (λ (y : World). y.globals),
          ),
        ),
      )

-- ---- set_voice_held

module _ (st : State) (held : List Float) (i v : ℕ) (x : Float) (code : ℕ) (e : code ≡ voice_held_code st.config st.sources (length held) i v x) where
  abbrev voice-call : Done
  voice-call = set_voice_held (world_of st held [] [] [] [] []) i v x

  pub voice-done : (s : ℕ) → s ≡ lane_stride (min st.config.voices most_voices) → (held' : List Float) → held' ≡ cond (eqb code 0) (set held (i * s + v) x) held
      → (code ≡ voice-call.code) × ((st ≡ voice-call.world.state) × (held' ≡ voice-call.world.held))
  unfolding set_voice_held voice_held_code put_held
  voice-done s hs held' eh =
      let w = world_of st held [] [] [] [] [] in
      let next = put_held w (set held (i * lane_stride (min st.config.voices most_voices) + v) x) in (
        done-code (voice_held_rows w i v x) w next code e,
        (
          done-kept (voice_held_rows w i v x) w next code e (λ (y : World). y.state) refl,
          eh
              ∙ ap (λ (k : ℕ). cond (eqb code 0) (set held (i * k + v) x) held) hs
              ∙ done-part (voice_held_rows w i v x) w next code e (λ (y : World). y.held),
        ),
      )

-- ---- set_base

module _ (st : State) (bases : List Float) (i : ℕ) (x : Float) (code : ℕ) (e : code ≡ base_code st.dests (length bases) i x) where
  abbrev base-call : Done
  base-call = set_base (world_of st [] [] bases [] [] []) i x

  pub base_done : (bases' : List Float) → bases' ≡ cond (eqb code 0) (set bases i x) bases
      → (code ≡ base-call.code) × ((st ≡ base-call.world.state) × (bases' ≡ base-call.world.bases))
  unfolding set_base base_code put_bases
  base_done bases' eb =
      let w = world_of st [] [] bases [] [] [] in
      let next = put_bases w (set bases i x) in (
        done-code (base_rows w i x) w next code e,
        (
          done-kept (base_rows w i x) w next code e (λ (y : World). y.state) refl,
          eb ∙ done-part (base_rows w i x) w next code e (λ (y : World). y.bases),
        ),
      )

-- ---- set_amount and set_output: the same rows, with the gains that each gives

module _ (st : State) (i : ℕ) (x : Float) (code : ℕ) (e : code ≡ gain_code i x) where
  abbrev bare : World
  bare = world_of st [] [] [] [] [] []

  -- the gains by the number, or those that were there
  gains-by : (b : Bool) (g : Gains) → with_gains st (cond b g st.gains) ≡ cond b (with_gains st g) st
  unfolding with_gains
  gains-by true g = refl
  gains-by false g = refl

  gains-done : (g : Gains) (y : Gains) → y ≡ cond (eqb code 0) g st.gains
      → (code ≡ (done_by (gain_rows i x) bare (put_state bare (with_gains st g))).code) × (with_gains st y ≡ (done_by (gain_rows i x) bare (put_state bare (with_gains st g))).world.state)
  unfolding gain_code put_state
  gains-done g y ey =
      let next = put_state bare (with_gains st g) in (
        done-code (gain_rows i x) bare next code e,
        ap (with_gains st) ey ∙ gains-by (eqb code 0) g ∙ done-part (gain_rows i x) bare next code e (λ (u : World). u.state),
      )

  pub amount-done : (y : Gains) → y ≡ cond (eqb code 0) (with_amount st.gains i x) st.gains
      → (code ≡ (set_amount bare i x).code) × (with_gains st y ≡ (set_amount bare i x).world.state)
  unfolding set_amount
  amount-done y ey = gains-done (with_amount st.gains i x) y ey

  pub output-done : (y : Gains) → y ≡ cond (eqb code 0) (with_output st.gains i x) st.gains
      → (code ≡ (set_output bare i x).code) × (with_gains st y ≡ (set_output bare i x).world.state)
  unfolding set_output
  output-done y ey = gains-done (with_output st.gains i x) y ey

-- ---- set_voice_limit

pub limit-set : (st : State) (n limit : ℕ) → limit ≡ max n 1 → (0 ≡ (set_voice_limit (world_of st [] [] [] [] [] []) n).code) × (with_limit st limit ≡ (set_voice_limit (world_of st [] [] [] [] [] []) n).world.state)
unfolding set_voice_limit put_state
limit-set st n limit e =
    let w = world_of st [] [] [] [] [] [] in
    let next = put_state w (with_limit st (max n 1)) in
    (done-code [] w next 0 (sym judged-none), ap (with_limit st) e ∙ done-part [] w next 0 (sym judged-none) (λ (y : World). y.state))

-- ---- swap

module _ (st : State) (p : Program) (b : Bool) (f : b ≡ gains_finite p.gains) (code : ℕ) (e : code ≡ swap_code b st.config st.sources st.dests p.config p.sources p.dests p.routes) where
  swap-by : ℕ → Swap
  swap-by k = record { code = k; state = cond (eqb k 0) (installed st p) st; program = cond (eqb k 0) st.program p }

  swap_is : swap-by code ≡ swap_program st p
  unfolding swap_program swap_code swap-by
  swap_is = ap swap-by (e ∙ ap (λ (z : Bool). swap_code z st.config st.sources st.dests p.config p.sources p.dests p.routes) f)

  -- the program, its gains and the marks by the number, or those that were there
  install-by : (b : Bool)
      → with_marks (with_primed (with_gains (with_program st (cond b p st.program)) (cond b p.gains st.gains)) (cond b false st.primed))
      (cond b (marks_swapped st.marks st.voices.active) st.marks)
      ≡ cond b (installed st p) st
  unfolding with_marks with_gains with_primed with_program
  install-by true = refl
  install-by false = refl

  pub swap-done : (m : Marks) (g : Gains) (next old : Program) (primed : Bool)
      → m ≡ cond (eqb code 0) (marks_swapped st.marks st.voices.active) st.marks → g ≡ cond (eqb code 0) p.gains st.gains
      → next ≡ cond (eqb code 0) p st.program → old ≡ cond (eqb code 0) st.program p → primed ≡ cond (eqb code 0) false st.primed
      → (code ≡ (swap_program st p).code)
      × ((with_marks (with_primed (with_gains (with_program st next) g) primed) m ≡ (swap_program st p).state) × (old ≡ (swap_program st p).program))
  unfolding swap-by
  swap-done m g next old primed em eg en eo ep = (
    ap (λ (s : Swap). s.code) swap_is,
    (rw (em, eg, en, ep) (install-by (eqb code 0) ∙ ap (λ (s : Swap). s.state) swap_is), eo ∙ ap (λ (s : Swap). s.program) swap_is),
  )
