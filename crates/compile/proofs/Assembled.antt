-- What the steps of compiling give, put together, is the program. Assumes nothing.
use mathlib.Core.Path.{◌≡◌, ap, ◌∙◌}
use mathlib.Core.Bool.{false}
use mathlib.Core.List.{List, [], map}
use Prim.Native.Nat.{ℕ, ◌≤◌}
use native.Mathlib.Omega.{arith}
use lib.ListN.{length, length-map}
use Rattle.config.specs.Sizes.{slots}
use Rattle.state.specs.declared.Verdict.{Verdict}
use Rattle.state.specs.declared.Candidate.{Candidate}
use Rattle.state.specs.declared.Used.{Used}
use Rattle.state.specs.declared.Reader.{Reader}
use Rattle.state.specs.declared.Plan.{Plan}
use Rattle.state.specs.declared.Route.{Route}
use Rattle.state.specs.declared.Skipped.{Skipped}
use Rattle.state.specs.declared.Wiring.{Wiring}
use Rattle.model.specs.Wiring.{verdicts_from, verdicts, taken_of, left_out_from, candidates, skipped_of}
use Rattle.model.specs.Feeds.{used_in, used_dests, feeder_in, feeder_of, reader_by, readers_of, controls, plan_order}
use Rattle.model.specs.Plans.{plans_in, plans_of, routes_over, all_routes}
use Rattle.model.proofs.Candidates.{candidates-most}
use Rattle.model.proofs.Ordered.{plan-order-distinct}
use Rattle.model.proofs.RouteCount.{into-bound, routes-length}
use Rattle.compile_order.specs.Marks.{rated_as, order_in}
use Rattle.compile_order.proofs.Order.{rated-controls, order-in-is}
use Rattle.compile_routes.specs.Added.{routes_added}
use Rattle.compile_routes.proofs.Lists.{routes-added}

module _ (w : Wiring) where
  -- what each step gives of what the steps before it gave
  pub record Steps (vs : List Verdict) (cs : List Candidate) (us : List Used) (rs : List Reader) (control : ℕ) (order : List ℕ) (ps : List Plan) (xs : List Route) (ks : List Skipped) : Type 0 where
    pub judges : vs ≡ verdicts_from w.sources w.dests 0 w.matrix.slot
    pub takes : cs ≡ taken_of vs
    pub uses : us ≡ used_in w.sources w.dests cs
    pub reads : rs ≡ map (reader_by (feeder_in us)) cs
    pub rates : control ≡ length (rated_as false us)
    pub orders : order ≡ order_in us rs
    pub plans : ps ≡ plans_in w.sources w.dests cs rs 0 order
    pub routes : xs ≡ routes_added [] (routes_over w.config.sample_rate w.sources w.dests w.matrix.slot rs order order)
    pub skips : ks ≡ left_out_from 0 vs

  module _ {vs : List Verdict} {cs : List Candidate} {us : List Used} {rs : List Reader} {n : ℕ} {o : List ℕ} {ps : List Plan} {xs : List Route} {ks : List Skipped} (h : Steps vs cs us rs n o ps xs ks) where
    pub candidates-are : cs ≡ candidates w
    unfolding candidates verdicts
    candidates-are = h.takes ∙ ap taken_of h.judges

    used-are : us ≡ used_dests w
    unfolding used_dests
    used-are = h.uses ∙ ap (used_in w.sources w.dests) candidates-are

    readers-are : rs ≡ readers_of w
    unfolding readers_of feeder_of
    readers-are =
        h.reads
        ∙ ap (λ (l : List Used). map (reader_by (feeder_in l)) cs) used-are
        ∙ ap (map (reader_by (feeder_in (used_dests w)))) candidates-are

    pub control-are : n ≡ length (controls w)
    control-are = h.rates ∙ ap (λ (l : List Used). length (rated_as false l)) used-are ∙ ap length (rated-controls w)

    pub order-is : o ≡ plan_order w
    order-is =
        h.orders
        ∙ ap (λ (l : List Used). order_in l rs) used-are
        ∙ ap (order_in (used_dests w)) readers-are
        ∙ order-in-is w

    pub plans-are : ps ≡ plans_of w
    unfolding plans_of
    plans-are =
        h.plans
        ∙ ap (λ (l : List Candidate). plans_in w.sources w.dests l rs 0 o) candidates-are
        ∙ ap (λ (l : List Reader). plans_in w.sources w.dests (candidates w) l 0 o) readers-are
        ∙ ap (plans_in w.sources w.dests (candidates w) (readers_of w) 0) order-is

    readers-many : length (readers_of w) ≡ length (candidates w)
    unfolding readers_of
    readers-many = length-map (candidates w) (reader_by (feeder_of w))

    -- as many routes as fit
    routes-fit : length w.matrix.slot ≡ slots → length (all_routes w) ≤ slots
    unfolding all_routes
    routes-fit e =
        omega (
          arith,
          routes-length w.config.sample_rate w.sources w.dests w.matrix.slot (readers_of w) (plan_order w) (plan_order w),
          into-bound (plan_order w) (readers_of w) (plan-order-distinct w),
          readers-many,
          candidates-most w e,
        )

    pub routes-are : length w.matrix.slot ≡ slots → xs ≡ all_routes w
    unfolding all_routes
    routes-are e =
        h.routes
        ∙ ap (λ (l : List Reader). routes_added [] (routes_over w.config.sample_rate w.sources w.dests w.matrix.slot l o o)) readers-are
        ∙ ap (λ (l : List ℕ). routes_added [] (routes_over w.config.sample_rate w.sources w.dests w.matrix.slot (readers_of w) l l)) order-is
        ∙ routes-added [] (all_routes w) (omega (arith, routes-fit e))

    pub skips-are : ks ≡ skipped_of w
    unfolding skipped_of verdicts
    skips-are = h.skips ∙ ap (left_out_from 0) h.judges
