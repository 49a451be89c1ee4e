-- Which slots become routes (document 01, Slot; program.rs 272-294, 560-591). Definitions only.
use Rattle.std.specs.Prelude.{Bool, true, cond, not, List, [], ◌∷◌, ℕ, suc, ltb}
use Rattle.state.specs.declared.Sources.{Sources}
use Rattle.state.specs.declared.Destinations.{Destinations}
use Rattle.std.specs.Prelude.{Option, None, Some}
use Rattle.state.specs.declared.Target.{Target}
use Rattle.state.specs.declared.Slot.{Slot}
use Rattle.state.specs.declared.Reason.TheVariants.{UnknownSource, UnknownAux, UnknownDestination}
use Rattle.state.specs.declared.Skipped.{Skipped}
use Rattle.state.specs.declared.Wiring.{Wiring}
use Rattle.state.specs.declared.Candidate.{Candidate}
use Rattle.state.specs.declared.Verdict.{Verdict}
use Rattle.state.specs.declared.Verdict.TheVariants.{Over, LeftOut, Taken}
use Rattle.state.specs.Registry.{known_source, dest_count, dest_place}

abbrev pub aux_known : Sources → Option ℕ → Bool
aux_known ss None = true
aux_known ss (Some i) = known_source ss i

abbrev pub aux_of : Option ℕ → Option ℕ
aux_of None = None
aux_of (Some i) = Some i

-- the reasons in their order, one a slot
abbrev pub looked : Sources → Destinations → ℕ → ℕ → Option ℕ → ℕ → Verdict
looked ss ds n i aux d =
    cond (not (known_source ss i)) (LeftOut UnknownSource)
    (cond (not (aux_known ss aux)) (LeftOut UnknownAux)
    (cond (ltb d (dest_count ds)) (Taken (record { slot = n; source = i; aux = aux_of aux; dest = d }))
    (LeftOut UnknownDestination)))

-- "Missing source or destination: passed over in silence; then bypass, likewise"
abbrev pub verdict_by : Sources → Destinations → ℕ → Bool → Option ℕ → Option ℕ → Option Target → Verdict
verdict_by ss ds n bypass aux None a = Over
verdict_by ss ds n bypass aux (Some i) None = Over
verdict_by ss ds n bypass aux (Some i) (Some t) = cond bypass Over (looked ss ds n i aux (dest_place ds t))

unfoldable pub verdict : Sources → Destinations → ℕ → Slot → Verdict
verdict ss ds n s = verdict_by ss ds n s.bypass s.aux s.source s.destination

-- of the slots from number n on
unfoldable pub verdicts_from : Sources → Destinations → ℕ → List Slot → List Verdict
unfolding verdict
verdicts_from ss ds n [] = []
verdicts_from ss ds n (s ∷ l) = verdict ss ds n s ∷ verdicts_from ss ds (suc n) l

-- what becomes of each slot
unfoldable pub verdicts : Wiring → List Verdict
unfolding verdicts_from
verdicts w = verdicts_from w.sources w.dests 0 w.matrix.slot

abbrev pub with_candidate : Verdict → List Candidate → List Candidate
with_candidate Over cs = cs
with_candidate (LeftOut r) cs = cs
with_candidate (Taken c) cs = c ∷ cs

abbrev pub taken_of : List Verdict → List Candidate
taken_of [] = []
taken_of (v ∷ vs) = with_candidate v (taken_of vs)

abbrev pub with_skipped : ℕ → Verdict → List Skipped → List Skipped
with_skipped n Over ks = ks
with_skipped n (LeftOut r) ks = record { slot = n; reason = r } ∷ ks
with_skipped n (Taken c) ks = ks

abbrev pub left_out_from : ℕ → List Verdict → List Skipped
left_out_from n [] = []
left_out_from n (v ∷ vs) = with_skipped n v (left_out_from (suc n) vs)

-- THE CANDIDATES, in slot order
unfoldable pub candidates : Wiring → List Candidate
unfolding verdicts
candidates w = taken_of (verdicts w)

-- THE SLOTS LEFT OUT, with their reasons, in slot order
unfoldable pub skipped_of : Wiring → List Skipped
unfolding verdicts
skipped_of w = left_out_from 0 (verdicts w)
