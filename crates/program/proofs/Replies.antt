-- The readers of a program say what is promised. Assumes nothing.
use mathlib.Core.Path.{◌≡◌, refl}
use mathlib.Core.Bool.{Bool, true, false, cond}
use mathlib.Core.List.{List, [], ◌∷◌, map}
use Prim.Native.Nat.{ℕ}
use lib.Dec.{eqb, ltb}
use lib.ListN.{get_or, take}
use Rattle.refusal.specs.Judge.{judged}
use Rattle.reply.specs.Reply.{accepts, only, by_rows}
use Rattle.state.specs.declared.Plan.{Plan}
use Rattle.state.specs.declared.Route.{Route}
use Rattle.state.specs.declared.Skipped.{Skipped}
use Rattle.std.specs.Prelude.{Option, Some, None}
use Rattle.state.specs.declared.Rate.{Rate}
use Rattle.state.specs.declared.Rate.TheVariants as R
use Rattle.state.specs.declared.Program.{Program}
use Rattle.state_filled.specs.Filled.{no_plan, no_route, no_skip}
use Rattle.program.specs.Readers.{plan_count, route_count, skip_count, plan_at, route_at, skipped_at, rate_by}
use Rattle.program.specs.Readers.{rate_from, rate_of}
use Rattle.program.specs.Replies.{read_reply, plan_says, route_says}
use Rattle.program.specs.Replies.{skipped_says}
use Rattle.program.specs.Replies.{plans_of, plan_rate, rate_says}

-- ---- an answer that brings one thing or nothing

read-if : {A : Type 0} (b : Bool) (x : A) → read_reply (cond b (Some x) None) ≡ accepts (only b x)
read-if true x = refl
read-if false x = refl

rate-by : (b : Bool) → read_reply (rate_by b) ≡ accepts (cond b R.Audio R.Control ∷ [])
rate-by true = refl
rate-by false = refl

rate-if : (b : Bool) (x : Plan) (r : Option Rate) (xs : List Plan) → read_reply r ≡ accepts (map plan_rate (take 1 xs)) → read_reply (cond b (rate_by x.audio) r) ≡ accepts (map plan_rate (take 1 (cond b (x ∷ xs) xs)))
rate-if true x r xs h = rate-by x.audio
rate-if false x r xs h = h

rate-from : (xs : List Plan) (d : ℕ) → read_reply (rate_from xs d) ≡ accepts (map plan_rate (take 1 (plans_of d xs)))
unfolding rate_from
rate-from [] d = refl
rate-from (x ∷ xs) d = rate-if (eqb x.dest d) x (rate_from xs d) (plans_of d xs) (rate-from xs d)

-- ---- the calls

module _ (p : Program) (i : ℕ) where
  pub plan-said : (r : Option Plan) → r ≡ plan_at p i → (r ≡ plan_at p i) × (read_reply r ≡ plan_says p i)
  unfolding plan_at plan_says
  plan-said r h = (h, rw h (read-if (ltb i (plan_count p)) (get_or p.plan i no_plan)))

  pub route-said : (r : Option Route) → r ≡ route_at p i → (r ≡ route_at p i) × (read_reply r ≡ route_says p i)
  unfolding route_at route_says
  route-said r h = (h, rw h (read-if (ltb i (route_count p)) (get_or p.route i no_route)))

  pub skipped-said : (r : Option Skipped) → r ≡ skipped_at p i → (r ≡ skipped_at p i) × (read_reply r ≡ skipped_says p i)
  unfolding skipped_at skipped_says
  skipped-said r h = (h, rw h (read-if (ltb i (skip_count p)) (get_or p.skipped i no_skip)))

  pub rate-said : (r : Option Rate) → r ≡ rate_of p i → (r ≡ rate_of p i) × (read_reply r ≡ rate_says p i)
  unfolding rate_of rate_says by_rows judged
  rate-said r h = (h, rw h (rate-from (take (plan_count p) p.plan) i))
