-- What a plan's slews are worked out from, and that it is the environment's. Definitions only.
use Rattle.std.specs.Prelude.{◌≡◌, ℕ, ◌≤◌}
use Rattle.config.specs.Sizes.{slots}
use Rattle.state.specs.declared.Route.{Route}
use Rattle.state.specs.declared.State.{State}
use Rattle.model.specs.Counts.{stride_of, chunks_most, plan_total, plan_at}
use Rattle.model.specs.Env.{Env}
use Rattle.model.specs.Mix.{Mix}
use Rattle.model.specs.RouteValue.{idle, plain}
use Rattle.lane_input.specs.declared.Scene.{Scene}
use Rattle.plan_slews.specs.declared.Motion.{Motion}
use Rattle.plan_slews.specs.declared.Tick.{Tick}

-- sizes below their limits
pub record Fits (s : Scene) (c n : ℕ) : Type 0 where
  pub stride : s.stride ≤ 64
  pub chunks : c ≤ 130
  pub plans : n ≤ slots

-- plan d of st, with these sizes, has its first route there
pub record Lies (st : State) (d : ℕ) (s c n a : ℕ) : Type 0 where
  pub stride : stride_of st ≡ s
  pub chunks : chunks_most st ≡ c
  pub plans : plan_total st.program ≡ n
  pub first : (plan_at st d).first ≡ a

-- a route's motion is what t and x have of it
pub record Moved (t : Env) (x : Mix) (r : Route) (m : Motion) : Type 0 where
  pub voices : t.voices ≡ m.voices
  pub fresh : t.fresh ≡ m.fresh
  pub snap : t.snap ≡ m.snap
  pub voice : x.voice ≡ m.voice
  pub plain : m.plain ≡ plain t x.voice r
  pub idle : m.idle ≡ idle t r

-- what a tick's new numbers go by is what t and x have
pub record Ticks (t : Env) (x : Mix) (k : Tick) : Type 0 where
  pub primed : t.primed ≡ k.primed
  pub snap : t.snap ≡ k.snap
  pub fresh : t.fresh ≡ k.fresh
  pub voice : x.voice ≡ k.voice
