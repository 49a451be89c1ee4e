-- A plan of a state, with its scene and the lent numbers, is what a sum asks for. Assumes nothing.
use mathlib.Core.Path.{◌≡◌, refl}
use mathlib.Core.List.{List}
use Prim.Native.Nat.{ℕ}
use lib.Ieee.{Float}
use Rattle.state.specs.declared.Signals.{Signals}
use Rattle.state.specs.declared.State.{State}
use Rattle.model.specs.Counts.{plan_at, route_at}
use Rattle.model.specs.Env.{Env}
use Rattle.model.specs.Mix.{Mix, plan_mix}
use Rattle.model.specs.Tick.{mix_width}
use Rattle.lane_input.specs.declared.Scene.{Scene}
use Rattle.lane_input.specs.Scene.{env_of}
use Rattle.lane_input.specs.Reads.{plan_rows}
use Rattle.lane_input.proofs.Reading.{scene-reads, scene-works}
use Rattle.lane.specs.View.{own_rows}
use Rattle.lane.proofs.Views.{own-rows}
use Rattle.plan_sum.specs.declared.Job.{Job}
use Rattle.plan_sum.specs.Job.{lane_count, IsMix, IsScene, IsJob, Sums}

pub plan-mix : (st : State) (d : ℕ) → IsMix (plan_mix st d) (plan_at st d) st.program.route
unfolding route_at
plan-mix st d = record { dest = refl; voice = refl; min = refl; max = refl; base = refl; count = refl; route = λ j h. refl }

pub scene-is : (s : Scene) (signals : Signals) (held globals bases tables samples : List Float) → IsScene (env_of s held globals bases tables samples signals) s signals
scene-is s signals held globals bases tables samples =
    record { stride = refl; voices = refl; fresh = refl; gains = refl; primed = refl; signals = refl; frame = refl; up_to = refl; steps = refl; snap = refl }

pub job-sums : (w : Job) (x : Mix) (held globals bases tables samples values : List Float) → IsMix x w.plan w.routes
    → Sums (env_of w.scene held globals bases tables samples w.signals) (plan_rows w.scene.stride w.chunks values) (own_rows w.scene.stride w.chunks w.plans w.plan.first values) x w held globals bases tables samples values
job-sums w x held globals bases tables samples values mix =
    record {
      mixes =
          record {
            job = record { scene = scene-is w.scene w.signals held globals bases tables samples; mix = mix };
            reads = scene-reads w.scene w.chunks held globals bases tables samples values w.signals;
            own = λ j h. own-rows w.scene.stride w.chunks w.plans w.plan.first j _ values refl;
          };
      works = scene-works w.scene w.chunks held globals bases tables samples w.signals;
      bases = refl;
    }

-- the lanes of a job are the lanes of its destination
pub job-width : {t : Env} {x : Mix} {w : Job} → IsJob t x w → lane_count w ≡ mix_width t x
job-width k = rw (k.scene.stride, k.mix.voice)
