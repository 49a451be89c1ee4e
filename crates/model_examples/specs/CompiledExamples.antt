-- The definitions of compiling, computed on programs that the Rust compiled (oracle/programs.py writes this file from the oracle's answers).
use Rattle.std.specs.Prelude.{◌≡◌, refl, true, false, List, [], ◌∷◌, ℕ, pos, negsuc, length, Float, Some, None}
use Rattle.std.specs.Float.{inf, fin}
use Rattle.std.specs.Float.Ieee.{lt, eq, mul, div, is_nan}
use Rattle.number.specs.Number.{max32}
use Rattle.curve_table.specs.declared.Curve.TheVariants as C
use Rattle.curve_table.specs.Curve.{seconds_of}
use Rattle.slew.specs.Slew.{rate_per_sample}
use Rattle.feed.specs.Order.{order}
use Rattle.state.specs.declared.Kind.{Kind}
use Rattle.state.specs.declared.Kind.TheVariants as K
use Rattle.state.specs.declared.Scope.{Scope}
use Rattle.state.specs.declared.Scope.TheVariants as S
use Rattle.state.specs.declared.Range.{Range}
use Rattle.state.specs.declared.Range.TheVariants as R
use Rattle.state.specs.declared.Rate.TheVariants as T
use Rattle.state.specs.declared.Feed.TheVariants as F
use Rattle.state.specs.declared.Target.TheVariants as A
use Rattle.state.specs.declared.Source.{Source}
use Rattle.state.specs.declared.Dest.{Dest}
use Rattle.std.specs.Prelude.{None, Some}
use Rattle.state.specs.declared.Polarity.TheVariants as Q
use Rattle.state.specs.declared.Slot.{Slot}
use Rattle.state.specs.declared.NoteCurve.TheVariants as N
use Rattle.state.specs.declared.Read.TheVariants as D
use Rattle.state.specs.declared.Gain.TheVariants as G
use Rattle.state.specs.declared.Base.TheVariants as B
use Rattle.state.specs.declared.Plan.{Plan}
use Rattle.state.specs.declared.Route.{Route}
use Rattle.state.specs.declared.Reason.TheVariants as E
use Rattle.state.specs.declared.Skipped.{Skipped}
use Rattle.state.specs.Registry.{target_place}
use Rattle.state.specs.declared.Wiring.{Wiring}
use Rattle.model.specs.Wiring.{verdict, verdicts_from, verdicts, candidates, skipped_of}
use Rattle.model.specs.Feeds.{in_use, counted_feed, used_dests, feeder_of, readers_of, reads, hears_audio, is_audio, controls, audios, plan_order}
use Rattle.model.specs.Routes.{slew_for, input_by, route_by, route_in}
use Rattle.model.specs.Plans.{plan_by, plans_of, all_routes}

abbrev source : Kind → Scope → Range → Source
source k s r = record { key = []; len = 0; kind = k; scope = s; range = r }

abbrev unused : Slot
unused = record { source = None; source_curve = C.Linear; amount = fin false 0 (pos 0); polarity = Q.Unipolar; destination = None; aux = None; aux_invert = false; aux_curve = C.Linear; output = fin false 1 (pos 0); bypass = false }

-- registries and slots as far as they are filled
abbrev wired : Float → List Source → List Dest → List Slot → Wiring
wired rate ss ds slots =
    record {
      matrix = record { slot = slots; velocity = N.Linear; key = N.Linear; glide = false; velocity_legato = false };
      sources = record { count = length ss; entry = ss };
      dests = record { count = length ds; entry = ds };
      config = record { sample_rate = rate; max_frames = 0; voices = 0 };
    }

-- its plans, how many of them are control plans, its routes, and the slots left out
abbrev Compiles : Wiring → List Plan → ℕ → List Route → List Skipped → Type 0
Compiles w ps n rs ks = (plans_of w ≡ ps) × (length (controls w) ≡ n) × (all_routes w ≡ rs) × (skipped_of w ≡ ks)

-- cases/01-order.txt
w0 : Wiring
w0 =
    wired (fin false 1 (pos 6))
    (source (K.Held) S.Global R.Unipolar ∷ source (K.Held) S.Global R.Unipolar ∷ source (K.Constant) S.Global R.Unipolar ∷ [])
    (record { target = (A.Param 0); scope = S.Global; rate = T.Control; min = (fin false 0 (pos 0)); max = (fin false 1 (pos 0)); feed = F.Nothing } ∷ record { target = (A.Param 1); scope = S.Global; rate = T.Control; min = (fin false 0 (pos 0)); max = (fin false 1 (pos 0)); feed = (F.Source 1) } ∷ record { target = (A.Param 2); scope = S.Global; rate = T.Control; min = (fin false 0 (pos 0)); max = (fin false 1 (pos 0)); feed = (F.Source 0) } ∷ [])
    (record { source = Some 0; source_curve = C.Linear; amount = (fin false 1 (negsuc 0)); polarity = Q.Unipolar; destination = Some (A.Param 0); aux = None; aux_invert = false; aux_curve = C.Linear; output = (fin false 1 (pos 0)); bypass = false } ∷ record { source = Some 2; source_curve = C.Linear; amount = (fin false 1 (negsuc 0)); polarity = Q.Unipolar; destination = Some (A.Param 1); aux = None; aux_invert = false; aux_curve = C.Linear; output = (fin false 1 (pos 0)); bypass = false } ∷ record { source = Some 1; source_curve = C.Linear; amount = (fin false 1 (negsuc 0)); polarity = Q.Unipolar; destination = Some (A.Param 2); aux = None; aux_invert = false; aux_curve = C.Linear; output = (fin false 1 (pos 0)); bypass = false } ∷ [])

p0 : Compiles w0
    (record { dest = 1; voice = false; audio = false; min = (fin false 0 (pos 0)); max = (fin false 1 (pos 0)); base = B.Held 1; first = 0; count = 1 } ∷ record { dest = 2; voice = false; audio = false; min = (fin false 0 (pos 0)); max = (fin false 1 (pos 0)); base = B.Held 0; first = 1; count = 1 } ∷ record { dest = 0; voice = false; audio = false; min = (fin false 0 (pos 0)); max = (fin false 1 (pos 0)); base = B.Set; first = 2; count = 1 } ∷ [])
    3
    (record { slot = 1; source = record { read = D.Constant; bipolar = false; table = false; slew = None }; aux = None; aux_invert = false; bipolar = false; amount = G.Live; output = G.Live; voice = false; scale = (fin false 1 (pos 0)); offset = (fin false 0 (pos 0)); simple = false } ∷ record { slot = 2; source = record { read = D.Fed 0 false; bipolar = false; table = false; slew = None }; aux = None; aux_invert = false; bipolar = false; amount = G.Live; output = G.Live; voice = false; scale = (fin false 1 (pos 0)); offset = (fin false 0 (pos 0)); simple = false } ∷ record { slot = 0; source = record { read = D.Fed 1 false; bipolar = false; table = false; slew = None }; aux = None; aux_invert = false; bipolar = false; amount = G.Live; output = G.Live; voice = false; scale = (fin false 1 (pos 0)); offset = (fin false 0 (pos 0)); simple = false } ∷ [])
    ([])
unfolding w0 target_place verdict verdicts_from verdicts candidates skipped_of in_use counted_feed used_dests feeder_of readers_of reads hears_audio is_audio controls audios plan_order slew_for input_by route_by route_in plan_by plans_of all_routes order seconds_of rate_per_sample max32 is_nan lt eq mul div
p0 = (refl, refl, refl, refl)

-- cases/02-cycle.txt
w1 : Wiring
w1 =
    wired (fin false 1 (pos 6))
    (source (K.Held) S.Global R.Unipolar ∷ source (K.Held) S.Global R.Unipolar ∷ source (K.Constant) S.Global R.Unipolar ∷ [])
    (record { target = (A.Param 0); scope = S.Global; rate = T.Control; min = (fin false 0 (pos 0)); max = (fin false 1 (pos 0)); feed = (F.Source 0) } ∷ record { target = (A.Param 1); scope = S.Global; rate = T.Control; min = (fin false 0 (pos 0)); max = (fin false 1 (pos 0)); feed = (F.Source 1) } ∷ record { target = (A.Param 2); scope = S.Global; rate = T.Control; min = (fin false 0 (pos 0)); max = (fin false 1 (pos 0)); feed = F.Nothing } ∷ [])
    (record { source = Some 1; source_curve = C.Linear; amount = (fin false 1 (negsuc 0)); polarity = Q.Unipolar; destination = Some (A.Param 0); aux = None; aux_invert = false; aux_curve = C.Linear; output = (fin false 1 (pos 0)); bypass = false } ∷ record { source = Some 0; source_curve = C.Linear; amount = (fin false 1 (negsuc 0)); polarity = Q.Unipolar; destination = Some (A.Param 1); aux = None; aux_invert = false; aux_curve = C.Linear; output = (fin false 1 (pos 0)); bypass = false } ∷ record { source = Some 2; source_curve = C.Linear; amount = (fin false 1 (negsuc 0)); polarity = Q.Unipolar; destination = Some (A.Param 2); aux = None; aux_invert = false; aux_curve = C.Linear; output = (fin false 1 (pos 0)); bypass = false } ∷ [])

p1 : Compiles w1
    (record { dest = 2; voice = false; audio = false; min = (fin false 0 (pos 0)); max = (fin false 1 (pos 0)); base = B.Set; first = 0; count = 1 } ∷ record { dest = 0; voice = false; audio = false; min = (fin false 0 (pos 0)); max = (fin false 1 (pos 0)); base = B.Held 0; first = 1; count = 1 } ∷ record { dest = 1; voice = false; audio = false; min = (fin false 0 (pos 0)); max = (fin false 1 (pos 0)); base = B.Held 1; first = 2; count = 1 } ∷ [])
    3
    (record { slot = 2; source = record { read = D.Constant; bipolar = false; table = false; slew = None }; aux = None; aux_invert = false; bipolar = false; amount = G.Live; output = G.Live; voice = false; scale = (fin false 1 (pos 0)); offset = (fin false 0 (pos 0)); simple = false } ∷ record { slot = 0; source = record { read = D.Fed 2 false; bipolar = false; table = false; slew = None }; aux = None; aux_invert = false; bipolar = false; amount = G.Live; output = G.Live; voice = false; scale = (fin false 1 (pos 0)); offset = (fin false 0 (pos 0)); simple = false } ∷ record { slot = 1; source = record { read = D.Fed 1 false; bipolar = false; table = false; slew = None }; aux = None; aux_invert = false; bipolar = false; amount = G.Live; output = G.Live; voice = false; scale = (fin false 1 (pos 0)); offset = (fin false 0 (pos 0)); simple = false } ∷ [])
    ([])
unfolding w1 target_place verdict verdicts_from verdicts candidates skipped_of in_use counted_feed used_dests feeder_of readers_of reads hears_audio is_audio controls audios plan_order slew_for input_by route_by route_in plan_by plans_of all_routes order seconds_of rate_per_sample max32 is_nan lt eq mul div
p1 = (refl, refl, refl, refl)

-- cases/04-chunks.txt
w2 : Wiring
w2 =
    wired (fin false 1 (pos 6))
    (source (K.Constant) S.Global R.Unipolar ∷ [])
    (record { target = (A.Param 0); scope = S.Global; rate = T.Control; min = (fin false 0 (pos 0)); max = (fin false 1 (pos 0)); feed = F.Nothing } ∷ [])
    (record { source = Some 0; source_curve = C.Linear; amount = (fin false 1 (negsuc 0)); polarity = Q.Unipolar; destination = Some (A.Param 0); aux = None; aux_invert = false; aux_curve = C.Linear; output = (fin false 1 (pos 0)); bypass = false } ∷ [])

p2 : Compiles w2
    (record { dest = 0; voice = false; audio = false; min = (fin false 0 (pos 0)); max = (fin false 1 (pos 0)); base = B.Set; first = 0; count = 1 } ∷ [])
    1
    (record { slot = 0; source = record { read = D.Constant; bipolar = false; table = false; slew = None }; aux = None; aux_invert = false; bipolar = false; amount = G.Live; output = G.Live; voice = false; scale = (fin false 1 (pos 0)); offset = (fin false 0 (pos 0)); simple = false } ∷ [])
    ([])
unfolding w2 target_place verdict verdicts_from verdicts candidates skipped_of in_use counted_feed used_dests feeder_of readers_of reads hears_audio is_audio controls audios plan_order slew_for input_by route_by route_in plan_by plans_of all_routes order seconds_of rate_per_sample max32 is_nan lt eq mul div
p2 = (refl, refl, refl, refl)

-- cases/06-lookup.txt
w3 : Wiring
w3 =
    wired (fin false 1 (pos 6))
    (source (K.Velocity) S.Voice R.Unipolar ∷ [])
    ([])
    ([])

p3 : Compiles w3
    ([])
    0
    ([])
    ([])
unfolding w3 target_place verdict verdicts_from verdicts candidates skipped_of in_use counted_feed used_dests feeder_of readers_of reads hears_audio is_audio controls audios plan_order slew_for input_by route_by route_in plan_by plans_of all_routes order seconds_of rate_per_sample max32 is_nan lt eq mul div
p3 = (refl, refl, refl, refl)

-- cases/07-slew.txt
w4 : Wiring
w4 =
    wired (fin false 1 (pos 6))
    (source (K.Held) S.Global R.Unipolar ∷ [])
    (record { target = (A.Param 0); scope = S.Global; rate = T.Control; min = (fin true 1 (pos 3)); max = (fin false 1 (pos 3)); feed = F.Nothing } ∷ [])
    (record { source = Some 0; source_curve = C.Table (fin false 1 (pos 0)) (fin false 0 (pos 0)); amount = (fin false 1 (pos 0)); polarity = Q.Unipolar; destination = Some (A.Param 0); aux = None; aux_invert = false; aux_curve = C.Linear; output = (fin false 1 (pos 0)); bypass = false } ∷ [])

p4 : Compiles w4
    (record { dest = 0; voice = false; audio = false; min = (fin true 1 (pos 3)); max = (fin false 1 (pos 3)); base = B.Set; first = 0; count = 1 } ∷ [])
    1
    (record { slot = 0; source = record { read = D.Held 0 false; bipolar = false; table = true; slew = Some (record { up = (fin false 1 (negsuc 5)); down = (inf false) }) }; aux = None; aux_invert = false; bipolar = false; amount = G.Live; output = G.Live; voice = false; scale = (fin false 1 (pos 0)); offset = (fin false 0 (pos 0)); simple = false } ∷ [])
    ([])
unfolding w4 target_place verdict verdicts_from verdicts candidates skipped_of in_use counted_feed used_dests feeder_of readers_of reads hears_audio is_audio controls audios plan_order slew_for input_by route_by route_in plan_by plans_of all_routes order seconds_of rate_per_sample max32 is_nan lt eq mul div
p4 = (refl, refl, refl, refl)

-- cases/08-glide.txt
w5 : Wiring
w5 =
    wired (fin false 1 (pos 6))
    (source (K.Velocity) S.Voice R.Unipolar ∷ source (K.Key) S.Voice R.Unipolar ∷ [])
    (record { target = (A.Param 0); scope = S.Voice; rate = T.Control; min = (fin false 0 (pos 0)); max = (fin false 1 (pos 0)); feed = F.Nothing } ∷ [])
    (record { source = Some 1; source_curve = C.Linear; amount = (fin false 1 (pos 0)); polarity = Q.Unipolar; destination = Some (A.Param 0); aux = None; aux_invert = false; aux_curve = C.Linear; output = (fin false 1 (pos 0)); bypass = false } ∷ [])

p5 : Compiles w5
    (record { dest = 0; voice = true; audio = false; min = (fin false 0 (pos 0)); max = (fin false 1 (pos 0)); base = B.Set; first = 0; count = 1 } ∷ [])
    1
    (record { slot = 0; source = record { read = D.Held 1 true; bipolar = false; table = false; slew = None }; aux = None; aux_invert = false; bipolar = false; amount = G.Live; output = G.Live; voice = true; scale = (fin false 1 (pos 0)); offset = (fin false 0 (pos 0)); simple = true } ∷ [])
    ([])
unfolding w5 target_place verdict verdicts_from verdicts candidates skipped_of in_use counted_feed used_dests feeder_of readers_of reads hears_audio is_audio controls audios plan_order slew_for input_by route_by route_in plan_by plans_of all_routes order seconds_of rate_per_sample max32 is_nan lt eq mul div
p5 = (refl, refl, refl, refl)

-- cases/09-bipolar.txt
w6 : Wiring
w6 =
    wired (fin false 1 (pos 6))
    (source (K.Held) S.Global R.Bipolar ∷ [])
    (record { target = (A.Param 0); scope = S.Global; rate = T.Control; min = (inf true); max = (inf false); feed = F.Nothing } ∷ [])
    (record { source = Some 0; source_curve = C.Linear; amount = (fin false 1 (pos 0)); polarity = Q.Bipolar; destination = Some (A.Param 0); aux = None; aux_invert = false; aux_curve = C.Linear; output = (fin false 1 (pos 0)); bypass = false } ∷ [])

p6 : Compiles w6
    (record { dest = 0; voice = false; audio = false; min = (inf true); max = (inf false); base = B.Set; first = 0; count = 1 } ∷ [])
    1
    (record { slot = 0; source = record { read = D.Held 0 false; bipolar = true; table = false; slew = None }; aux = None; aux_invert = false; bipolar = true; amount = G.Live; output = G.Live; voice = false; scale = (fin false 1 (pos 0)); offset = (fin false 0 (pos 0)); simple = false } ∷ [])
    ([])
unfolding w6 target_place verdict verdicts_from verdicts candidates skipped_of in_use counted_feed used_dests feeder_of readers_of reads hears_audio is_audio controls audios plan_order slew_for input_by route_by route_in plan_by plans_of all_routes order seconds_of rate_per_sample max32 is_nan lt eq mul div
p6 = (refl, refl, refl, refl)

-- cases/11-clamp.txt
w7 : Wiring
w7 =
    wired (fin false 1 (pos 6))
    (source (K.Constant) S.Global R.Unipolar ∷ [])
    (record { target = (A.Param 0); scope = S.Global; rate = T.Control; min = (inf true); max = (inf false); feed = F.Nothing } ∷ [])
    (record { source = Some 0; source_curve = C.Linear; amount = (fin false 5 (negsuc 0)); polarity = Q.Unipolar; destination = Some (A.Param 0); aux = None; aux_invert = false; aux_curve = C.Linear; output = (fin false 1 (pos 0)); bypass = false } ∷ [])

p7 : Compiles w7
    (record { dest = 0; voice = false; audio = false; min = (inf true); max = (inf false); base = B.Set; first = 0; count = 1 } ∷ [])
    1
    (record { slot = 0; source = record { read = D.Constant; bipolar = false; table = false; slew = None }; aux = None; aux_invert = false; bipolar = false; amount = G.Live; output = G.Live; voice = false; scale = (fin false 1 (pos 0)); offset = (fin false 0 (pos 0)); simple = false } ∷ [])
    ([])
unfolding w7 target_place verdict verdicts_from verdicts candidates skipped_of in_use counted_feed used_dests feeder_of readers_of reads hears_audio is_audio controls audios plan_order slew_for input_by route_by route_in plan_by plans_of all_routes order seconds_of rate_per_sample max32 is_nan lt eq mul div
p7 = (refl, refl, refl, refl)

-- cases/diff-1-unread-feeder.txt
w8 : Wiring
w8 =
    wired (fin false 1 (pos 6))
    (source (K.Held) S.Global R.Unipolar ∷ source (K.Held) S.Global R.Unipolar ∷ source (K.Constant) S.Global R.Unipolar ∷ [])
    (record { target = (A.Param 0); scope = S.Global; rate = T.Control; min = (inf true); max = (inf false); feed = (F.Source 0) } ∷ record { target = (A.Param 1); scope = S.Global; rate = T.Control; min = (inf true); max = (inf false); feed = (F.Source 1) } ∷ record { target = (A.Param 2); scope = S.Global; rate = T.Control; min = (inf true); max = (inf false); feed = (F.Source 0) } ∷ [])
    (record { source = Some 1; source_curve = C.Linear; amount = (fin false 1 (pos 0)); polarity = Q.Unipolar; destination = Some (A.Param 0); aux = None; aux_invert = false; aux_curve = C.Linear; output = (fin false 1 (pos 0)); bypass = false } ∷ record { source = Some 0; source_curve = C.Linear; amount = (fin false 1 (pos 0)); polarity = Q.Unipolar; destination = Some (A.Param 1); aux = None; aux_invert = false; aux_curve = C.Linear; output = (fin false 1 (pos 0)); bypass = false } ∷ record { source = Some 2; source_curve = C.Linear; amount = (fin false 1 (pos 0)); polarity = Q.Unipolar; destination = Some (A.Param 2); aux = None; aux_invert = false; aux_curve = C.Linear; output = (fin false 1 (pos 0)); bypass = false } ∷ [])

p8 : Compiles w8
    (record { dest = 2; voice = false; audio = false; min = (inf true); max = (inf false); base = B.Held 0; first = 0; count = 1 } ∷ record { dest = 1; voice = false; audio = false; min = (inf true); max = (inf false); base = B.Held 1; first = 1; count = 1 } ∷ record { dest = 0; voice = false; audio = false; min = (inf true); max = (inf false); base = B.Held 0; first = 2; count = 1 } ∷ [])
    3
    (record { slot = 2; source = record { read = D.Constant; bipolar = false; table = false; slew = None }; aux = None; aux_invert = false; bipolar = false; amount = G.Live; output = G.Live; voice = false; scale = (fin false 1 (pos 0)); offset = (fin false 0 (pos 0)); simple = false } ∷ record { slot = 1; source = record { read = D.Fed 0 false; bipolar = false; table = false; slew = None }; aux = None; aux_invert = false; bipolar = false; amount = G.Live; output = G.Live; voice = false; scale = (fin false 1 (pos 0)); offset = (fin false 0 (pos 0)); simple = false } ∷ record { slot = 0; source = record { read = D.Fed 1 false; bipolar = false; table = false; slew = None }; aux = None; aux_invert = false; bipolar = false; amount = G.Live; output = G.Live; voice = false; scale = (fin false 1 (pos 0)); offset = (fin false 0 (pos 0)); simple = false } ∷ [])
    ([])
unfolding w8 target_place verdict verdicts_from verdicts candidates skipped_of in_use counted_feed used_dests feeder_of readers_of reads hears_audio is_audio controls audios plan_order slew_for input_by route_by route_in plan_by plans_of all_routes order seconds_of rate_per_sample max32 is_nan lt eq mul div
p8 = (refl, refl, refl, refl)

-- cases/diff-2-global-slew.txt
w9 : Wiring
w9 =
    wired (fin false 1 (pos 6))
    (source (K.Held) S.Global R.Unipolar ∷ source (K.Held) S.Voice R.Unipolar ∷ [])
    (record { target = (A.Param 0); scope = S.Voice; rate = T.Control; min = (inf true); max = (inf false); feed = F.Nothing } ∷ record { target = (A.Param 1); scope = S.Voice; rate = T.Control; min = (inf true); max = (inf false); feed = F.Nothing } ∷ [])
    (record { source = Some 0; source_curve = C.Table (fin false 1 (pos 0)) (fin false 0 (pos 0)); amount = (fin false 1 (pos 0)); polarity = Q.Unipolar; destination = Some (A.Param 0); aux = None; aux_invert = false; aux_curve = C.Linear; output = (fin false 1 (pos 0)); bypass = false } ∷ record { source = Some 1; source_curve = C.Table (fin false 1 (pos 0)) (fin false 0 (pos 0)); amount = (fin false 1 (pos 0)); polarity = Q.Unipolar; destination = Some (A.Param 1); aux = None; aux_invert = false; aux_curve = C.Linear; output = (fin false 1 (pos 0)); bypass = false } ∷ [])

p9 : Compiles w9
    (record { dest = 0; voice = true; audio = false; min = (inf true); max = (inf false); base = B.Set; first = 0; count = 1 } ∷ record { dest = 1; voice = true; audio = false; min = (inf true); max = (inf false); base = B.Set; first = 1; count = 1 } ∷ [])
    2
    (record { slot = 0; source = record { read = D.Held 0 false; bipolar = false; table = true; slew = Some (record { up = (fin false 1 (negsuc 5)); down = (inf false) }) }; aux = None; aux_invert = false; bipolar = false; amount = G.Live; output = G.Live; voice = false; scale = (fin false 1 (pos 0)); offset = (fin false 0 (pos 0)); simple = false } ∷ record { slot = 1; source = record { read = D.Held 1 true; bipolar = false; table = true; slew = Some (record { up = (fin false 1 (negsuc 5)); down = (inf false) }) }; aux = None; aux_invert = false; bipolar = false; amount = G.Live; output = G.Live; voice = true; scale = (fin false 1 (pos 0)); offset = (fin false 0 (pos 0)); simple = false } ∷ [])
    ([])
unfolding w9 target_place verdict verdicts_from verdicts candidates skipped_of in_use counted_feed used_dests feeder_of readers_of reads hears_audio is_audio controls audios plan_order slew_for input_by route_by route_in plan_by plans_of all_routes order seconds_of rate_per_sample max32 is_nan lt eq mul div
p9 = (refl, refl, refl, refl)

-- cases/diff-3-unprimed-slew.txt
w10 : Wiring
w10 =
    wired (fin false 1 (pos 6))
    (source (K.Constant) S.Global R.Unipolar ∷ [])
    (record { target = (A.Param 0); scope = S.Global; rate = T.Control; min = (inf true); max = (inf false); feed = F.Nothing } ∷ [])
    (record { source = Some 0; source_curve = C.Table (fin false 1 (pos 0)) (fin false 0 (pos 0)); amount = (fin false 1 (pos 0)); polarity = Q.Unipolar; destination = Some (A.Param 0); aux = None; aux_invert = false; aux_curve = C.Linear; output = (fin false 1 (pos 0)); bypass = false } ∷ [])

p10 : Compiles w10
    (record { dest = 0; voice = false; audio = false; min = (inf true); max = (inf false); base = B.Set; first = 0; count = 1 } ∷ [])
    1
    (record { slot = 0; source = record { read = D.Constant; bipolar = false; table = true; slew = Some (record { up = (fin false 1 (negsuc 5)); down = (inf false) }) }; aux = None; aux_invert = false; bipolar = false; amount = G.Live; output = G.Live; voice = false; scale = (fin false 1 (pos 0)); offset = (fin false 0 (pos 0)); simple = false } ∷ [])
    ([])
unfolding w10 target_place verdict verdicts_from verdicts candidates skipped_of in_use counted_feed used_dests feeder_of readers_of reads hears_audio is_audio controls audios plan_order slew_for input_by route_by route_in plan_by plans_of all_routes order seconds_of rate_per_sample max32 is_nan lt eq mul div
p10 = (refl, refl, refl, refl)

-- cases/diff-4-groups.txt
w11 : Wiring
w11 =
    wired (fin false 1 (pos 6))
    (source (K.Held) S.Voice R.Unipolar ∷ source (K.Constant) S.Global R.Unipolar ∷ [])
    (record { target = (A.Param 0); scope = S.Voice; rate = T.Control; min = (inf true); max = (inf false); feed = F.Nothing } ∷ [])
    (record { source = Some 0; source_curve = C.Linear; amount = (fin false 1 (pos 0)); polarity = Q.Unipolar; destination = Some (A.Param 0); aux = None; aux_invert = false; aux_curve = C.Linear; output = (fin false 1 (pos 0)); bypass = false } ∷ record { source = Some 1; source_curve = C.Linear; amount = (fin false 1 (negsuc 0)); polarity = Q.Unipolar; destination = Some (A.Param 0); aux = None; aux_invert = false; aux_curve = C.Linear; output = (fin false 1 (pos 0)); bypass = false } ∷ [])

p11 : Compiles w11
    (record { dest = 0; voice = true; audio = false; min = (inf true); max = (inf false); base = B.Set; first = 0; count = 2 } ∷ [])
    1
    (record { slot = 0; source = record { read = D.Held 0 true; bipolar = false; table = false; slew = None }; aux = None; aux_invert = false; bipolar = false; amount = G.Live; output = G.Live; voice = true; scale = (fin false 1 (pos 0)); offset = (fin false 0 (pos 0)); simple = true } ∷ record { slot = 1; source = record { read = D.Constant; bipolar = false; table = false; slew = None }; aux = None; aux_invert = false; bipolar = false; amount = G.Live; output = G.Live; voice = false; scale = (fin false 1 (pos 0)); offset = (fin false 0 (pos 0)); simple = false } ∷ [])
    ([])
unfolding w11 target_place verdict verdicts_from verdicts candidates skipped_of in_use counted_feed used_dests feeder_of readers_of reads hears_audio is_audio controls audios plan_order slew_for input_by route_by route_in plan_by plans_of all_routes order seconds_of rate_per_sample max32 is_nan lt eq mul div
p11 = (refl, refl, refl, refl)

-- cases/diff-5-no-voice.txt
w12 : Wiring
w12 =
    wired (fin false 1 (pos 6))
    (source (K.Held) S.Voice R.Unipolar ∷ [])
    (record { target = (A.Param 0); scope = S.Voice; rate = T.Audio; min = (inf true); max = (inf false); feed = F.Nothing } ∷ [])
    (record { source = Some 0; source_curve = C.Linear; amount = (fin false 1 (pos 0)); polarity = Q.Unipolar; destination = Some (A.Param 0); aux = None; aux_invert = false; aux_curve = C.Linear; output = (fin false 1 (pos 0)); bypass = false } ∷ [])

p12 : Compiles w12
    (record { dest = 0; voice = true; audio = true; min = (inf true); max = (inf false); base = B.Set; first = 0; count = 1 } ∷ [])
    0
    (record { slot = 0; source = record { read = D.Held 0 true; bipolar = false; table = false; slew = None }; aux = None; aux_invert = false; bipolar = false; amount = G.Live; output = G.Live; voice = true; scale = (fin false 1 (pos 0)); offset = (fin false 0 (pos 0)); simple = true } ∷ [])
    ([])
unfolding w12 target_place verdict verdicts_from verdicts candidates skipped_of in_use counted_feed used_dests feeder_of readers_of reads hears_audio is_audio controls audios plan_order slew_for input_by route_by route_in plan_by plans_of all_routes order seconds_of rate_per_sample max32 is_nan lt eq mul div
p12 = (refl, refl, refl, refl)

-- cases/diff-6-constant-scope.txt
w13 : Wiring
w13 =
    wired (fin false 1 (pos 6))
    (source (K.Constant) S.Voice R.Unipolar ∷ [])
    (record { target = (A.Param 0); scope = S.Global; rate = T.Control; min = (inf true); max = (inf false); feed = F.Nothing } ∷ [])
    (record { source = Some 0; source_curve = C.Linear; amount = (fin false 1 (negsuc 0)); polarity = Q.Unipolar; destination = Some (A.Param 0); aux = None; aux_invert = false; aux_curve = C.Linear; output = (fin false 1 (pos 0)); bypass = false } ∷ [])

p13 : Compiles w13
    (record { dest = 0; voice = false; audio = false; min = (inf true); max = (inf false); base = B.Set; first = 0; count = 1 } ∷ [])
    1
    (record { slot = 0; source = record { read = D.Constant; bipolar = false; table = false; slew = None }; aux = None; aux_invert = false; bipolar = false; amount = G.Live; output = G.Live; voice = false; scale = (fin false 1 (pos 0)); offset = (fin false 0 (pos 0)); simple = false } ∷ [])
    ([])
unfolding w13 target_place verdict verdicts_from verdicts candidates skipped_of in_use counted_feed used_dests feeder_of readers_of reads hears_audio is_audio controls audios plan_order slew_for input_by route_by route_in plan_by plans_of all_routes order seconds_of rate_per_sample max32 is_nan lt eq mul div
p13 = (refl, refl, refl, refl)

-- cases/diff-7-nan-slew.txt
w14 : Wiring
w14 =
    wired (fin false 1 (pos 6))
    (source (K.Signal) S.Voice R.Unipolar ∷ [])
    (record { target = (A.Param 0); scope = S.Voice; rate = T.Control; min = (inf true); max = (inf false); feed = F.Nothing } ∷ [])
    (record { source = Some 0; source_curve = C.Table (fin false 1 (pos 0)) (fin false 1 (pos 0)); amount = (fin false 1 (pos 0)); polarity = Q.Unipolar; destination = Some (A.Param 0); aux = None; aux_invert = false; aux_curve = C.Linear; output = (fin false 1 (pos 0)); bypass = false } ∷ [])

p14 : Compiles w14
    (record { dest = 0; voice = true; audio = false; min = (inf true); max = (inf false); base = B.Set; first = 0; count = 1 } ∷ [])
    1
    (record { slot = 0; source = record { read = D.Signal 0 true; bipolar = false; table = true; slew = Some (record { up = (fin false 1 (negsuc 5)); down = (fin false 1 (negsuc 5)) }) }; aux = None; aux_invert = false; bipolar = false; amount = G.Live; output = G.Live; voice = true; scale = (fin false 1 (pos 0)); offset = (fin false 0 (pos 0)); simple = false } ∷ [])
    ([])
unfolding w14 target_place verdict verdicts_from verdicts candidates skipped_of in_use counted_feed used_dests feeder_of readers_of reads hears_audio is_audio controls audios plan_order slew_for input_by route_by route_in plan_by plans_of all_routes order seconds_of rate_per_sample max32 is_nan lt eq mul div
p14 = (refl, refl, refl, refl)

-- cases/diff-8-set-held.txt
w15 : Wiring
w15 =
    wired (fin false 1 (pos 6))
    (source (K.Velocity) S.Voice R.Unipolar ∷ [])
    (record { target = (A.Param 0); scope = S.Voice; rate = T.Control; min = (inf true); max = (inf false); feed = F.Nothing } ∷ [])
    (record { source = Some 0; source_curve = C.Linear; amount = (fin false 1 (pos 0)); polarity = Q.Unipolar; destination = Some (A.Param 0); aux = None; aux_invert = false; aux_curve = C.Linear; output = (fin false 1 (pos 0)); bypass = false } ∷ [])

p15 : Compiles w15
    (record { dest = 0; voice = true; audio = false; min = (inf true); max = (inf false); base = B.Set; first = 0; count = 1 } ∷ [])
    1
    (record { slot = 0; source = record { read = D.Held 0 true; bipolar = false; table = false; slew = None }; aux = None; aux_invert = false; bipolar = false; amount = G.Live; output = G.Live; voice = true; scale = (fin false 1 (pos 0)); offset = (fin false 0 (pos 0)); simple = true } ∷ [])
    ([])
unfolding w15 target_place verdict verdicts_from verdicts candidates skipped_of in_use counted_feed used_dests feeder_of readers_of reads hears_audio is_audio controls audios plan_order slew_for input_by route_by route_in plan_by plans_of all_routes order seconds_of rate_per_sample max32 is_nan lt eq mul div
p15 = (refl, refl, refl, refl)

-- cases/panic-rows-1-8.txt
w16 : Wiring
w16 =
    wired (fin false 1 (pos 6))
    (source (K.Held) S.Global R.Unipolar ∷ [])
    (record { target = (A.Param 0); scope = S.Global; rate = T.Control; min = (fin false 0 (pos 0)); max = (fin false 1 (pos 0)); feed = F.Nothing } ∷ [])
    (record { source = Some 0; source_curve = C.Linear; amount = (fin false 1 (pos 0)); polarity = Q.Unipolar; destination = Some (A.Param 0); aux = None; aux_invert = false; aux_curve = C.Linear; output = (fin false 1 (pos 0)); bypass = false } ∷ [])

p16 : Compiles w16
    (record { dest = 0; voice = false; audio = false; min = (fin false 0 (pos 0)); max = (fin false 1 (pos 0)); base = B.Set; first = 0; count = 1 } ∷ [])
    1
    (record { slot = 0; source = record { read = D.Held 0 false; bipolar = false; table = false; slew = None }; aux = None; aux_invert = false; bipolar = false; amount = G.Live; output = G.Live; voice = false; scale = (fin false 1 (pos 0)); offset = (fin false 0 (pos 0)); simple = false } ∷ [])
    ([])
unfolding w16 target_place verdict verdicts_from verdicts candidates skipped_of in_use counted_feed used_dests feeder_of readers_of reads hears_audio is_audio controls audios plan_order slew_for input_by route_by route_in plan_by plans_of all_routes order seconds_of rate_per_sample max32 is_nan lt eq mul div
p16 = (refl, refl, refl, refl)

-- cases/panic-rows-1-8.txt
w17 : Wiring
w17 =
    wired (fin false 1 (pos 6))
    (source (K.Held) S.Global R.Unipolar ∷ source (K.Held) S.Global R.Unipolar ∷ [])
    (record { target = (A.Param 0); scope = S.Global; rate = T.Control; min = (fin false 0 (pos 0)); max = (fin false 1 (pos 0)); feed = F.Nothing } ∷ [])
    (record { source = Some 1; source_curve = C.Linear; amount = (fin false 1 (pos 0)); polarity = Q.Unipolar; destination = Some (A.Param 0); aux = None; aux_invert = false; aux_curve = C.Linear; output = (fin false 1 (pos 0)); bypass = false } ∷ [])

p17 : Compiles w17
    (record { dest = 0; voice = false; audio = false; min = (fin false 0 (pos 0)); max = (fin false 1 (pos 0)); base = B.Set; first = 0; count = 1 } ∷ [])
    1
    (record { slot = 0; source = record { read = D.Held 1 false; bipolar = false; table = false; slew = None }; aux = None; aux_invert = false; bipolar = false; amount = G.Live; output = G.Live; voice = false; scale = (fin false 1 (pos 0)); offset = (fin false 0 (pos 0)); simple = false } ∷ [])
    ([])
unfolding w17 target_place verdict verdicts_from verdicts candidates skipped_of in_use counted_feed used_dests feeder_of readers_of reads hears_audio is_audio controls audios plan_order slew_for input_by route_by route_in plan_by plans_of all_routes order seconds_of rate_per_sample max32 is_nan lt eq mul div
p17 = (refl, refl, refl, refl)

-- cases/t03-gain-overflow.txt
w18 : Wiring
w18 =
    wired (fin false 1 (pos 6))
    (source (K.Held) S.Voice R.Unipolar ∷ source (K.Constant) S.Global R.Unipolar ∷ [])
    (record { target = (A.Param 0); scope = S.Voice; rate = T.Control; min = (fin true 1 (pos 1)); max = (fin false 1 (pos 1)); feed = F.Nothing } ∷ record { target = (A.Param 1); scope = S.Voice; rate = T.Control; min = (fin true 1 (pos 1)); max = (fin false 1 (pos 1)); feed = F.Nothing } ∷ [])
    (record { source = Some 0; source_curve = C.Linear; amount = (fin false 7395571 (pos 105)); polarity = Q.Unipolar; destination = Some (A.Param 0); aux = None; aux_invert = false; aux_curve = C.Linear; output = (fin false 7395571 (pos 105)); bypass = false } ∷ record { source = Some 0; source_curve = C.Linear; amount = (fin false 7395571 (pos 105)); polarity = Q.Unipolar; destination = Some (A.Param 1); aux = Some 1; aux_invert = false; aux_curve = C.Linear; output = (fin false 7395571 (pos 105)); bypass = false } ∷ [])

p18 : Compiles w18
    (record { dest = 0; voice = true; audio = false; min = (fin true 1 (pos 1)); max = (fin false 1 (pos 1)); base = B.Set; first = 0; count = 1 } ∷ record { dest = 1; voice = true; audio = false; min = (fin true 1 (pos 1)); max = (fin false 1 (pos 1)); base = B.Set; first = 1; count = 1 } ∷ [])
    2
    (record { slot = 0; source = record { read = D.Held 0 true; bipolar = false; table = false; slew = None }; aux = None; aux_invert = false; bipolar = false; amount = G.Live; output = G.Live; voice = true; scale = (fin false 1 (pos 0)); offset = (fin false 0 (pos 0)); simple = true } ∷ record { slot = 1; source = record { read = D.Held 0 true; bipolar = false; table = false; slew = None }; aux = Some (record { read = D.Constant; bipolar = false; table = false; slew = None }); aux_invert = false; bipolar = false; amount = G.Live; output = G.Live; voice = true; scale = (fin false 1 (pos 0)); offset = (fin false 0 (pos 0)); simple = false } ∷ [])
    ([])
unfolding w18 target_place verdict verdicts_from verdicts candidates skipped_of in_use counted_feed used_dests feeder_of readers_of reads hears_audio is_audio controls audios plan_order slew_for input_by route_by route_in plan_by plans_of all_routes order seconds_of rate_per_sample max32 is_nan lt eq mul div
p18 = (refl, refl, refl, refl)

-- cases/t04-newest-group-slews.txt
w19 : Wiring
w19 =
    wired (fin false 1 (pos 6))
    (source (K.Held) S.Voice R.Unipolar ∷ [])
    (record { target = (A.Param 0); scope = S.Global; rate = T.Control; min = (inf true); max = (inf false); feed = F.Nothing } ∷ [])
    (record { source = Some 0; source_curve = C.Table (fin false 1 (pos 2)) (fin false 1 (pos 2)); amount = (fin false 1 (pos 0)); polarity = Q.Unipolar; destination = Some (A.Param 0); aux = None; aux_invert = false; aux_curve = C.Linear; output = (fin false 1 (pos 0)); bypass = false } ∷ [])

p19 : Compiles w19
    (record { dest = 0; voice = false; audio = false; min = (inf true); max = (inf false); base = B.Set; first = 0; count = 1 } ∷ [])
    1
    (record { slot = 0; source = record { read = D.Held 0 true; bipolar = false; table = true; slew = Some (record { up = (fin false 1 (negsuc 7)); down = (fin false 1 (negsuc 7)) }) }; aux = None; aux_invert = false; bipolar = false; amount = G.Live; output = G.Live; voice = true; scale = (fin false 1 (pos 0)); offset = (fin false 0 (pos 0)); simple = false } ∷ [])
    ([])
unfolding w19 target_place verdict verdicts_from verdicts candidates skipped_of in_use counted_feed used_dests feeder_of readers_of reads hears_audio is_audio controls audios plan_order slew_for input_by route_by route_in plan_by plans_of all_routes order seconds_of rate_per_sample max32 is_nan lt eq mul div
p19 = (refl, refl, refl, refl)

-- cases/t05-slew-rounding.txt
w20 : Wiring
w20 =
    wired (fin false 1 (pos 6))
    (source (K.Held) S.Voice R.Unipolar ∷ [])
    (record { target = (A.Param 0); scope = S.Voice; rate = T.Control; min = (inf true); max = (inf false); feed = F.Nothing } ∷ [])
    (record { source = Some 0; source_curve = C.Table (fin false 8589935 (negsuc 32)) (fin false 0 (pos 0)); amount = (fin false 1 (pos 0)); polarity = Q.Unipolar; destination = Some (A.Param 0); aux = None; aux_invert = false; aux_curve = C.Linear; output = (fin false 1 (pos 0)); bypass = false } ∷ [])

p20 : Compiles w20
    (record { dest = 0; voice = true; audio = false; min = (inf true); max = (inf false); base = B.Set; first = 0; count = 1 } ∷ [])
    1
    (record { slot = 0; source = record { read = D.Held 0 true; bipolar = false; table = true; slew = Some (record { up = (fin false 16383999 (negsuc 19)); down = (inf false) }) }; aux = None; aux_invert = false; bipolar = false; amount = G.Live; output = G.Live; voice = true; scale = (fin false 1 (pos 0)); offset = (fin false 0 (pos 0)); simple = false } ∷ [])
    ([])
unfolding w20 target_place verdict verdicts_from verdicts candidates skipped_of in_use counted_feed used_dests feeder_of readers_of reads hears_audio is_audio controls audios plan_order slew_for input_by route_by route_in plan_by plans_of all_routes order seconds_of rate_per_sample max32 is_nan lt eq mul div
p20 = (refl, refl, refl, refl)

-- cases/t06-glide-step-zero.txt
w21 : Wiring
w21 =
    wired (fin false 9860761 (pos 103))
    (source (K.Velocity) S.Voice R.Unipolar ∷ source (K.Key) S.Voice R.Unipolar ∷ [])
    (record { target = (A.Param 0); scope = S.Voice; rate = T.Control; min = (fin false 0 (pos 0)); max = (fin false 1 (pos 0)); feed = F.Nothing } ∷ [])
    (record { source = Some 1; source_curve = C.Linear; amount = (fin false 1 (pos 0)); polarity = Q.Unipolar; destination = Some (A.Param 0); aux = None; aux_invert = false; aux_curve = C.Linear; output = (fin false 1 (pos 0)); bypass = false } ∷ [])

p21 : Compiles w21
    (record { dest = 0; voice = true; audio = false; min = (fin false 0 (pos 0)); max = (fin false 1 (pos 0)); base = B.Set; first = 0; count = 1 } ∷ [])
    1
    (record { slot = 0; source = record { read = D.Held 1 true; bipolar = false; table = false; slew = None }; aux = None; aux_invert = false; bipolar = false; amount = G.Live; output = G.Live; voice = true; scale = (fin false 1 (pos 0)); offset = (fin false 0 (pos 0)); simple = true } ∷ [])
    ([])
unfolding w21 target_place verdict verdicts_from verdicts candidates skipped_of in_use counted_feed used_dests feeder_of readers_of reads hears_audio is_audio controls audios plan_order slew_for input_by route_by route_in plan_by plans_of all_routes order seconds_of rate_per_sample max32 is_nan lt eq mul div
p21 = (refl, refl, refl, refl)

-- cases/t07-other-registry.txt
w22 : Wiring
w22 =
    wired (fin false 1 (pos 6))
    (source (K.Held) S.Global R.Unipolar ∷ [])
    (record { target = (A.Param 0); scope = S.Voice; rate = T.Control; min = (inf true); max = (inf false); feed = F.Nothing } ∷ [])
    (record { source = Some 0; source_curve = C.Linear; amount = (fin false 1 (pos 0)); polarity = Q.Unipolar; destination = Some (A.Param 0); aux = None; aux_invert = false; aux_curve = C.Linear; output = (fin false 1 (pos 0)); bypass = false } ∷ [])

p22 : Compiles w22
    (record { dest = 0; voice = true; audio = false; min = (inf true); max = (inf false); base = B.Set; first = 0; count = 1 } ∷ [])
    1
    (record { slot = 0; source = record { read = D.Held 0 false; bipolar = false; table = false; slew = None }; aux = None; aux_invert = false; bipolar = false; amount = G.Live; output = G.Live; voice = false; scale = (fin false 1 (pos 0)); offset = (fin false 0 (pos 0)); simple = false } ∷ [])
    ([])
unfolding w22 target_place verdict verdicts_from verdicts candidates skipped_of in_use counted_feed used_dests feeder_of readers_of reads hears_audio is_audio controls audios plan_order slew_for input_by route_by route_in plan_by plans_of all_routes order seconds_of rate_per_sample max32 is_nan lt eq mul div
p22 = (refl, refl, refl, refl)

-- cases/t09-plain-by-chunk.txt
w23 : Wiring
w23 =
    wired (fin false 1 (pos 6))
    (source (K.Signal) S.Voice R.Unipolar ∷ [])
    (record { target = (A.Param 0); scope = S.Voice; rate = T.Audio; min = (inf true); max = (inf false); feed = F.Nothing } ∷ [])
    (record { source = Some 0; source_curve = C.Linear; amount = (fin false 1 (pos 0)); polarity = Q.Unipolar; destination = Some (A.Param 0); aux = None; aux_invert = false; aux_curve = C.Linear; output = (fin false 1 (pos 0)); bypass = false } ∷ [])

p23 : Compiles w23
    (record { dest = 0; voice = true; audio = true; min = (inf true); max = (inf false); base = B.Set; first = 0; count = 1 } ∷ [])
    0
    (record { slot = 0; source = record { read = D.Signal 0 true; bipolar = false; table = false; slew = None }; aux = None; aux_invert = false; bipolar = false; amount = G.Live; output = G.Live; voice = true; scale = (fin false 1 (pos 0)); offset = (fin false 0 (pos 0)); simple = true } ∷ [])
    ([])
unfolding w23 target_place verdict verdicts_from verdicts candidates skipped_of in_use counted_feed used_dests feeder_of readers_of reads hears_audio is_audio controls audios plan_order slew_for input_by route_by route_in plan_by plans_of all_routes order seconds_of rate_per_sample max32 is_nan lt eq mul div
p23 = (refl, refl, refl, refl)

-- cases/t10-draw-order.txt
w24 : Wiring
w24 =
    wired (fin false 1 (pos 6))
    (source (K.RandomPerRoute) S.Voice R.Unipolar ∷ [])
    (record { target = (A.Param 0); scope = S.Voice; rate = T.Control; min = (fin false 0 (pos 0)); max = (fin false 1 (pos 0)); feed = F.Nothing } ∷ record { target = (A.Param 1); scope = S.Voice; rate = T.Control; min = (fin false 0 (pos 0)); max = (fin false 1 (pos 0)); feed = F.Nothing } ∷ [])
    (record { source = Some 0; source_curve = C.Linear; amount = (fin false 1 (pos 0)); polarity = Q.Unipolar; destination = Some (A.Param 1); aux = None; aux_invert = false; aux_curve = C.Linear; output = (fin false 1 (pos 0)); bypass = false } ∷ record { source = Some 0; source_curve = C.Linear; amount = (fin false 1 (pos 0)); polarity = Q.Unipolar; destination = Some (A.Param 0); aux = None; aux_invert = false; aux_curve = C.Linear; output = (fin false 1 (pos 0)); bypass = false } ∷ [])

p24 : Compiles w24
    (record { dest = 0; voice = true; audio = false; min = (fin false 0 (pos 0)); max = (fin false 1 (pos 0)); base = B.Set; first = 0; count = 1 } ∷ record { dest = 1; voice = true; audio = false; min = (fin false 0 (pos 0)); max = (fin false 1 (pos 0)); base = B.Set; first = 1; count = 1 } ∷ [])
    2
    (record { slot = 1; source = record { read = D.RouteRandom; bipolar = false; table = false; slew = None }; aux = None; aux_invert = false; bipolar = false; amount = G.Live; output = G.Live; voice = true; scale = (fin false 1 (pos 0)); offset = (fin false 0 (pos 0)); simple = true } ∷ record { slot = 0; source = record { read = D.RouteRandom; bipolar = false; table = false; slew = None }; aux = None; aux_invert = false; bipolar = false; amount = G.Live; output = G.Live; voice = true; scale = (fin false 1 (pos 0)); offset = (fin false 0 (pos 0)); simple = true } ∷ [])
    ([])
unfolding w24 target_place verdict verdicts_from verdicts candidates skipped_of in_use counted_feed used_dests feeder_of readers_of reads hears_audio is_audio controls audios plan_order slew_for input_by route_by route_in plan_by plans_of all_routes order seconds_of rate_per_sample max32 is_nan lt eq mul div
p24 = (refl, refl, refl, refl)

-- cases/t11-held-apart-from-note-value.txt
w25 : Wiring
w25 =
    wired (fin false 1 (pos 6))
    (source (K.Velocity) S.Voice R.Unipolar ∷ [])
    (record { target = (A.Param 0); scope = S.Voice; rate = T.Control; min = (fin false 0 (pos 0)); max = (fin false 1 (pos 0)); feed = F.Nothing } ∷ [])
    (record { source = Some 0; source_curve = C.Linear; amount = (fin false 1 (pos 0)); polarity = Q.Unipolar; destination = Some (A.Param 0); aux = None; aux_invert = false; aux_curve = C.Linear; output = (fin false 1 (pos 0)); bypass = false } ∷ [])

p25 : Compiles w25
    (record { dest = 0; voice = true; audio = false; min = (fin false 0 (pos 0)); max = (fin false 1 (pos 0)); base = B.Set; first = 0; count = 1 } ∷ [])
    1
    (record { slot = 0; source = record { read = D.Held 0 true; bipolar = false; table = false; slew = None }; aux = None; aux_invert = false; bipolar = false; amount = G.Live; output = G.Live; voice = true; scale = (fin false 1 (pos 0)); offset = (fin false 0 (pos 0)); simple = true } ∷ [])
    ([])
unfolding w25 target_place verdict verdicts_from verdicts candidates skipped_of in_use counted_feed used_dests feeder_of readers_of reads hears_audio is_audio controls audios plan_order slew_for input_by route_by route_in plan_by plans_of all_routes order seconds_of rate_per_sample max32 is_nan lt eq mul div
p25 = (refl, refl, refl, refl)

-- cases/t13-global-slew-no-voice.txt
w26 : Wiring
w26 =
    wired (fin false 1 (pos 6))
    (source (K.Held) S.Global R.Unipolar ∷ [])
    (record { target = (A.Param 0); scope = S.Voice; rate = T.Control; min = (inf true); max = (inf false); feed = F.Nothing } ∷ [])
    (record { source = Some 0; source_curve = C.Table (fin false 1 (pos 0)) (fin false 1 (pos 0)); amount = (fin false 1 (pos 0)); polarity = Q.Unipolar; destination = Some (A.Param 0); aux = None; aux_invert = false; aux_curve = C.Linear; output = (fin false 1 (pos 0)); bypass = false } ∷ [])

p26 : Compiles w26
    (record { dest = 0; voice = true; audio = false; min = (inf true); max = (inf false); base = B.Set; first = 0; count = 1 } ∷ [])
    1
    (record { slot = 0; source = record { read = D.Held 0 false; bipolar = false; table = true; slew = Some (record { up = (fin false 1 (negsuc 5)); down = (fin false 1 (negsuc 5)) }) }; aux = None; aux_invert = false; bipolar = false; amount = G.Live; output = G.Live; voice = false; scale = (fin false 1 (pos 0)); offset = (fin false 0 (pos 0)); simple = false } ∷ [])
    ([])
unfolding w26 target_place verdict verdicts_from verdicts candidates skipped_of in_use counted_feed used_dests feeder_of readers_of reads hears_audio is_audio controls audios plan_order slew_for input_by route_by route_in plan_by plans_of all_routes order seconds_of rate_per_sample max32 is_nan lt eq mul div
p26 = (refl, refl, refl, refl)

-- cases/t14-lower-self-feeder.txt
w27 : Wiring
w27 =
    wired (fin false 1 (pos 6))
    (source (K.Held) S.Global R.Unipolar ∷ source (K.Constant) S.Global R.Unipolar ∷ [])
    (record { target = (A.Param 0); scope = S.Global; rate = T.Control; min = (inf true); max = (inf false); feed = (F.Source 0) } ∷ record { target = (A.Param 1); scope = S.Global; rate = T.Control; min = (inf true); max = (inf false); feed = (F.Source 0) } ∷ [])
    (record { source = Some 0; source_curve = C.Linear; amount = (fin false 1 (pos 0)); polarity = Q.Unipolar; destination = Some (A.Param 0); aux = None; aux_invert = false; aux_curve = C.Linear; output = (fin false 1 (pos 0)); bypass = false } ∷ record { source = Some 1; source_curve = C.Linear; amount = (fin false 1 (pos 0)); polarity = Q.Unipolar; destination = Some (A.Param 1); aux = None; aux_invert = false; aux_curve = C.Linear; output = (fin false 1 (pos 0)); bypass = false } ∷ [])

p27 : Compiles w27
    (record { dest = 1; voice = false; audio = false; min = (inf true); max = (inf false); base = B.Held 0; first = 0; count = 1 } ∷ record { dest = 0; voice = false; audio = false; min = (inf true); max = (inf false); base = B.Held 0; first = 1; count = 1 } ∷ [])
    2
    (record { slot = 1; source = record { read = D.Constant; bipolar = false; table = false; slew = None }; aux = None; aux_invert = false; bipolar = false; amount = G.Live; output = G.Live; voice = false; scale = (fin false 1 (pos 0)); offset = (fin false 0 (pos 0)); simple = false } ∷ record { slot = 0; source = record { read = D.Fed 0 false; bipolar = false; table = false; slew = None }; aux = None; aux_invert = false; bipolar = false; amount = G.Live; output = G.Live; voice = false; scale = (fin false 1 (pos 0)); offset = (fin false 0 (pos 0)); simple = false } ∷ [])
    ([])
unfolding w27 target_place verdict verdicts_from verdicts candidates skipped_of in_use counted_feed used_dests feeder_of readers_of reads hears_audio is_audio controls audios plan_order slew_for input_by route_by route_in plan_by plans_of all_routes order seconds_of rate_per_sample max32 is_nan lt eq mul div
p27 = (refl, refl, refl, refl)

-- cases/t15-self-feed-reinstalled.txt
w28 : Wiring
w28 =
    wired (fin false 1 (pos 6))
    (source (K.Held) S.Global R.Unipolar ∷ source (K.Constant) S.Global R.Unipolar ∷ [])
    (record { target = (A.Param 0); scope = S.Global; rate = T.Control; min = (inf true); max = (inf false); feed = (F.Source 0) } ∷ [])
    (record { source = Some 0; source_curve = C.Linear; amount = (fin false 1 (pos 0)); polarity = Q.Unipolar; destination = Some (A.Param 0); aux = None; aux_invert = false; aux_curve = C.Linear; output = (fin false 1 (pos 0)); bypass = false } ∷ record { source = Some 1; source_curve = C.Linear; amount = (fin false 1 (pos 0)); polarity = Q.Unipolar; destination = Some (A.Param 0); aux = None; aux_invert = false; aux_curve = C.Linear; output = (fin false 1 (pos 0)); bypass = false } ∷ [])

p28 : Compiles w28
    (record { dest = 0; voice = false; audio = false; min = (inf true); max = (inf false); base = B.Held 0; first = 0; count = 2 } ∷ [])
    1
    (record { slot = 0; source = record { read = D.Fed 0 false; bipolar = false; table = false; slew = None }; aux = None; aux_invert = false; bipolar = false; amount = G.Live; output = G.Live; voice = false; scale = (fin false 1 (pos 0)); offset = (fin false 0 (pos 0)); simple = false } ∷ record { slot = 1; source = record { read = D.Constant; bipolar = false; table = false; slew = None }; aux = None; aux_invert = false; bipolar = false; amount = G.Live; output = G.Live; voice = false; scale = (fin false 1 (pos 0)); offset = (fin false 0 (pos 0)); simple = false } ∷ [])
    ([])
unfolding w28 target_place verdict verdicts_from verdicts candidates skipped_of in_use counted_feed used_dests feeder_of readers_of reads hears_audio is_audio controls audios plan_order slew_for input_by route_by route_in plan_by plans_of all_routes order seconds_of rate_per_sample max32 is_nan lt eq mul div
p28 = (refl, refl, refl, refl)

-- cases/t16-load-no-routes.txt
w29 : Wiring
w29 =
    wired (fin false 1 (pos 6))
    (source (K.VoiceLoad) S.Global R.Unipolar ∷ source (K.VoiceLoad) S.Voice R.Unipolar ∷ [])
    (record { target = (A.Param 0); scope = S.Global; rate = T.Control; min = (inf true); max = (inf false); feed = F.Nothing } ∷ [])
    (record { source = Some 0; source_curve = C.Linear; amount = (fin false 1 (pos 0)); polarity = Q.Unipolar; destination = Some (A.Param 0); aux = None; aux_invert = false; aux_curve = C.Linear; output = (fin false 1 (pos 0)); bypass = false } ∷ [])

p29 : Compiles w29
    (record { dest = 0; voice = false; audio = false; min = (inf true); max = (inf false); base = B.Set; first = 0; count = 1 } ∷ [])
    1
    (record { slot = 0; source = record { read = D.Held 0 false; bipolar = false; table = false; slew = None }; aux = None; aux_invert = false; bipolar = false; amount = G.Live; output = G.Live; voice = false; scale = (fin false 1 (pos 0)); offset = (fin false 0 (pos 0)); simple = false } ∷ [])
    ([])
unfolding w29 target_place verdict verdicts_from verdicts candidates skipped_of in_use counted_feed used_dests feeder_of readers_of reads hears_audio is_audio controls audios plan_order slew_for input_by route_by route_in plan_by plans_of all_routes order seconds_of rate_per_sample max32 is_nan lt eq mul div
p29 = (refl, refl, refl, refl)

-- cases/t17-global-input-voice-route-snaps.txt
w30 : Wiring
w30 =
    wired (fin false 1 (pos 6))
    (source (K.Held) S.Global R.Unipolar ∷ source (K.Held) S.Voice R.Unipolar ∷ [])
    (record { target = (A.Param 0); scope = S.Voice; rate = T.Control; min = (inf true); max = (inf false); feed = F.Nothing } ∷ [])
    (record { source = Some 0; source_curve = C.Table (fin false 1 (pos 0)) (fin false 1 (pos 0)); amount = (fin false 1 (pos 0)); polarity = Q.Unipolar; destination = Some (A.Param 0); aux = Some 1; aux_invert = false; aux_curve = C.Linear; output = (fin false 1 (pos 0)); bypass = false } ∷ [])

p30 : Compiles w30
    (record { dest = 0; voice = true; audio = false; min = (inf true); max = (inf false); base = B.Set; first = 0; count = 1 } ∷ [])
    1
    (record { slot = 0; source = record { read = D.Held 0 false; bipolar = false; table = true; slew = Some (record { up = (fin false 1 (negsuc 5)); down = (fin false 1 (negsuc 5)) }) }; aux = Some (record { read = D.Held 1 true; bipolar = false; table = false; slew = None }); aux_invert = false; bipolar = false; amount = G.Live; output = G.Live; voice = true; scale = (fin false 1 (pos 0)); offset = (fin false 0 (pos 0)); simple = false } ∷ [])
    ([])
unfolding w30 target_place verdict verdicts_from verdicts candidates skipped_of in_use counted_feed used_dests feeder_of readers_of reads hears_audio is_audio controls audios plan_order slew_for input_by route_by route_in plan_by plans_of all_routes order seconds_of rate_per_sample max32 is_nan lt eq mul div
p30 = (refl, refl, refl, refl)

-- cases/t18-group-lane-reads-own-feeder.txt
w31 : Wiring
w31 =
    wired (fin false 1 (pos 6))
    (source (K.Held) S.Global R.Unipolar ∷ source (K.Held) S.Voice R.Unipolar ∷ [])
    (record { target = (A.Param 0); scope = S.Global; rate = T.Control; min = (inf true); max = (inf false); feed = F.Nothing } ∷ record { target = (A.Param 1); scope = S.Voice; rate = T.Control; min = (inf true); max = (inf false); feed = (F.Source 0) } ∷ [])
    (record { source = Some 0; source_curve = C.Table (fin false 1 (pos 2)) (fin false 1 (pos 2)); amount = (fin false 1 (pos 0)); polarity = Q.Unipolar; destination = Some (A.Param 0); aux = None; aux_invert = false; aux_curve = C.Linear; output = (fin false 1 (pos 0)); bypass = false } ∷ record { source = Some 1; source_curve = C.Linear; amount = (fin false 1 (pos 0)); polarity = Q.Unipolar; destination = Some (A.Param 1); aux = None; aux_invert = false; aux_curve = C.Linear; output = (fin false 1 (pos 0)); bypass = false } ∷ [])

p31 : Compiles w31
    (record { dest = 1; voice = true; audio = false; min = (inf true); max = (inf false); base = B.Held 0; first = 0; count = 1 } ∷ record { dest = 0; voice = false; audio = false; min = (inf true); max = (inf false); base = B.Set; first = 1; count = 1 } ∷ [])
    2
    (record { slot = 1; source = record { read = D.Held 1 true; bipolar = false; table = false; slew = None }; aux = None; aux_invert = false; bipolar = false; amount = G.Live; output = G.Live; voice = true; scale = (fin false 1 (pos 0)); offset = (fin false 0 (pos 0)); simple = true } ∷ record { slot = 0; source = record { read = D.Fed 0 true; bipolar = false; table = true; slew = Some (record { up = (fin false 1 (negsuc 7)); down = (fin false 1 (negsuc 7)) }) }; aux = None; aux_invert = false; bipolar = false; amount = G.Live; output = G.Live; voice = true; scale = (fin false 1 (pos 0)); offset = (fin false 0 (pos 0)); simple = false } ∷ [])
    ([])
unfolding w31 target_place verdict verdicts_from verdicts candidates skipped_of in_use counted_feed used_dests feeder_of readers_of reads hears_audio is_audio controls audios plan_order slew_for input_by route_by route_in plan_by plans_of all_routes order seconds_of rate_per_sample max32 is_nan lt eq mul div
p31 = (refl, refl, refl, refl)

-- cases/t20-audio-nan-bounds.txt
w32 : Wiring
w32 =
    wired (fin false 1 (pos 6))
    (source (K.Signal) S.Global R.Unipolar ∷ [])
    (record { target = (A.Param 0); scope = S.Global; rate = T.Audio; min = (inf true); max = (inf false); feed = F.Nothing } ∷ record { target = (A.Param 1); scope = S.Global; rate = T.Audio; min = (inf true); max = (fin false 1 (pos 0)); feed = F.Nothing } ∷ record { target = (A.Param 2); scope = S.Global; rate = T.Control; min = (inf true); max = (inf false); feed = F.Nothing } ∷ [])
    (record { source = Some 0; source_curve = C.Linear; amount = (fin false 1 (pos 0)); polarity = Q.Unipolar; destination = Some (A.Param 0); aux = None; aux_invert = false; aux_curve = C.Linear; output = (fin false 1 (pos 0)); bypass = false } ∷ record { source = Some 0; source_curve = C.Linear; amount = (fin false 1 (pos 0)); polarity = Q.Unipolar; destination = Some (A.Param 1); aux = None; aux_invert = false; aux_curve = C.Linear; output = (fin false 1 (pos 0)); bypass = false } ∷ record { source = Some 0; source_curve = C.Linear; amount = (fin false 1 (pos 0)); polarity = Q.Unipolar; destination = Some (A.Param 2); aux = None; aux_invert = false; aux_curve = C.Linear; output = (fin false 1 (pos 0)); bypass = false } ∷ [])

p32 : Compiles w32
    (record { dest = 2; voice = false; audio = false; min = (inf true); max = (inf false); base = B.Set; first = 0; count = 1 } ∷ record { dest = 0; voice = false; audio = true; min = (inf true); max = (inf false); base = B.Set; first = 1; count = 1 } ∷ record { dest = 1; voice = false; audio = true; min = (inf true); max = (fin false 1 (pos 0)); base = B.Set; first = 2; count = 1 } ∷ [])
    1
    (record { slot = 2; source = record { read = D.Signal 0 false; bipolar = false; table = false; slew = None }; aux = None; aux_invert = false; bipolar = false; amount = G.Live; output = G.Live; voice = false; scale = (fin false 1 (pos 0)); offset = (fin false 0 (pos 0)); simple = false } ∷ record { slot = 0; source = record { read = D.Signal 0 false; bipolar = false; table = false; slew = None }; aux = None; aux_invert = false; bipolar = false; amount = G.Live; output = G.Live; voice = false; scale = (fin false 1 (pos 0)); offset = (fin false 0 (pos 0)); simple = false } ∷ record { slot = 1; source = record { read = D.Signal 0 false; bipolar = false; table = false; slew = None }; aux = None; aux_invert = false; bipolar = false; amount = G.Live; output = G.Live; voice = false; scale = (fin false 1 (pos 0)); offset = (fin false 0 (pos 0)); simple = false } ∷ [])
    ([])
unfolding w32 target_place verdict verdicts_from verdicts candidates skipped_of in_use counted_feed used_dests feeder_of readers_of reads hears_audio is_audio controls audios plan_order slew_for input_by route_by route_in plan_by plans_of all_routes order seconds_of rate_per_sample max32 is_nan lt eq mul div
p32 = (refl, refl, refl, refl)

-- cases/t21-same-counts-by-dest-feed-not-counted.txt
w33 : Wiring
w33 =
    wired (fin false 1 (pos 6))
    (source (K.Held) S.Voice R.Unipolar ∷ source (K.Key) S.Voice R.Unipolar ∷ source (K.Constant) S.Global R.Unipolar ∷ [])
    (record { target = (A.Param 0); scope = S.Global; rate = T.Audio; min = (inf true); max = (inf false); feed = (F.Source 99) } ∷ record { target = (A.Param 1); scope = S.Global; rate = T.Audio; min = (inf true); max = (inf false); feed = (F.Source 0) } ∷ record { target = (A.Param 2); scope = S.Global; rate = T.Audio; min = (inf true); max = (inf false); feed = (F.Source 1) } ∷ [])
    (record { source = Some 2; source_curve = C.Linear; amount = (fin false 1 (pos 0)); polarity = Q.Unipolar; destination = Some (A.Param 0); aux = None; aux_invert = false; aux_curve = C.Linear; output = (fin false 1 (pos 0)); bypass = false } ∷ record { source = Some 2; source_curve = C.Linear; amount = (fin false 1 (pos 0)); polarity = Q.Unipolar; destination = Some (A.Param 1); aux = None; aux_invert = false; aux_curve = C.Linear; output = (fin false 1 (pos 0)); bypass = false } ∷ record { source = Some 2; source_curve = C.Linear; amount = (fin false 1 (pos 0)); polarity = Q.Unipolar; destination = Some (A.Param 2); aux = None; aux_invert = false; aux_curve = C.Linear; output = (fin false 1 (pos 0)); bypass = false } ∷ [])

p33 : Compiles w33
    (record { dest = 0; voice = false; audio = true; min = (inf true); max = (inf false); base = B.Set; first = 0; count = 1 } ∷ record { dest = 1; voice = false; audio = true; min = (inf true); max = (inf false); base = B.Set; first = 1; count = 1 } ∷ record { dest = 2; voice = false; audio = true; min = (inf true); max = (inf false); base = B.Set; first = 2; count = 1 } ∷ [])
    0
    (record { slot = 0; source = record { read = D.Constant; bipolar = false; table = false; slew = None }; aux = None; aux_invert = false; bipolar = false; amount = G.Live; output = G.Live; voice = false; scale = (fin false 1 (pos 0)); offset = (fin false 0 (pos 0)); simple = false } ∷ record { slot = 1; source = record { read = D.Constant; bipolar = false; table = false; slew = None }; aux = None; aux_invert = false; bipolar = false; amount = G.Live; output = G.Live; voice = false; scale = (fin false 1 (pos 0)); offset = (fin false 0 (pos 0)); simple = false } ∷ record { slot = 2; source = record { read = D.Constant; bipolar = false; table = false; slew = None }; aux = None; aux_invert = false; bipolar = false; amount = G.Live; output = G.Live; voice = false; scale = (fin false 1 (pos 0)); offset = (fin false 0 (pos 0)); simple = false } ∷ [])
    ([])
unfolding w33 target_place verdict verdicts_from verdicts candidates skipped_of in_use counted_feed used_dests feeder_of readers_of reads hears_audio is_audio controls audios plan_order slew_for input_by route_by route_in plan_by plans_of all_routes order seconds_of rate_per_sample max32 is_nan lt eq mul div
p33 = (refl, refl, refl, refl)

-- cases/t22-legato-renote-no-fresh.txt
w34 : Wiring
w34 =
    wired (fin false 1 (pos 6))
    (source (K.RandomPerRoute) S.Voice R.Unipolar ∷ [])
    (record { target = (A.Param 0); scope = S.Voice; rate = T.Control; min = (fin false 0 (pos 0)); max = (fin false 1 (pos 0)); feed = F.Nothing } ∷ [])
    (record { source = Some 0; source_curve = C.Linear; amount = (fin false 1 (pos 0)); polarity = Q.Unipolar; destination = Some (A.Param 0); aux = None; aux_invert = false; aux_curve = C.Linear; output = (fin false 1 (pos 0)); bypass = false } ∷ [])

p34 : Compiles w34
    (record { dest = 0; voice = true; audio = false; min = (fin false 0 (pos 0)); max = (fin false 1 (pos 0)); base = B.Set; first = 0; count = 1 } ∷ [])
    1
    (record { slot = 0; source = record { read = D.RouteRandom; bipolar = false; table = false; slew = None }; aux = None; aux_invert = false; bipolar = false; amount = G.Live; output = G.Live; voice = true; scale = (fin false 1 (pos 0)); offset = (fin false 0 (pos 0)); simple = true } ∷ [])
    ([])
unfolding w34 target_place verdict verdicts_from verdicts candidates skipped_of in_use counted_feed used_dests feeder_of readers_of reads hears_audio is_audio controls audios plan_order slew_for input_by route_by route_in plan_by plans_of all_routes order seconds_of rate_per_sample max32 is_nan lt eq mul div
p34 = (refl, refl, refl, refl)

-- cases/t23-nan-slew-order.txt
w35 : Wiring
w35 =
    wired (fin false 1 (pos 6))
    (source (K.Held) S.Global R.Unipolar ∷ [])
    (record { target = (A.Param 0); scope = S.Global; rate = T.Control; min = (inf true); max = (inf false); feed = F.Nothing } ∷ [])
    (record { source = Some 0; source_curve = C.Table (fin false 1 (pos 0)) (fin false 1 (pos 0)); amount = (fin false 332307 (negsuc 117)); polarity = Q.Unipolar; destination = Some (A.Param 0); aux = None; aux_invert = false; aux_curve = C.Linear; output = (fin false 332307 (negsuc 117)); bypass = false } ∷ [])

p35 : Compiles w35
    (record { dest = 0; voice = false; audio = false; min = (inf true); max = (inf false); base = B.Set; first = 0; count = 1 } ∷ [])
    1
    (record { slot = 0; source = record { read = D.Held 0 false; bipolar = false; table = true; slew = Some (record { up = (fin false 1 (negsuc 5)); down = (fin false 1 (negsuc 5)) }) }; aux = None; aux_invert = false; bipolar = false; amount = G.Live; output = G.Live; voice = false; scale = (fin false 1 (pos 0)); offset = (fin false 0 (pos 0)); simple = false } ∷ [])
    ([])
unfolding w35 target_place verdict verdicts_from verdicts candidates skipped_of in_use counted_feed used_dests feeder_of readers_of reads hears_audio is_audio controls audios plan_order slew_for input_by route_by route_in plan_by plans_of all_routes order seconds_of rate_per_sample max32 is_nan lt eq mul div
p35 = (refl, refl, refl, refl)

-- cases/t24-routeless-glide.txt
w36 : Wiring
w36 =
    wired (fin false 11025 (pos 3))
    (source (K.Key) S.Voice R.Unipolar ∷ [])
    (record { target = (A.Param 0); scope = S.Voice; rate = T.Control; min = (inf true); max = (inf false); feed = F.Nothing } ∷ [])
    ([])

p36 : Compiles w36
    ([])
    0
    ([])
    ([])
unfolding w36 target_place verdict verdicts_from verdicts candidates skipped_of in_use counted_feed used_dests feeder_of readers_of reads hears_audio is_audio controls audios plan_order slew_for input_by route_by route_in plan_by plans_of all_routes order seconds_of rate_per_sample max32 is_nan lt eq mul div
p36 = (refl, refl, refl, refl)

-- cases/t24-routeless-glide.txt
w37 : Wiring
w37 =
    wired (fin false 11025 (pos 3))
    (source (K.Key) S.Voice R.Unipolar ∷ [])
    (record { target = (A.Param 0); scope = S.Voice; rate = T.Control; min = (inf true); max = (inf false); feed = F.Nothing } ∷ [])
    (record { source = Some 0; source_curve = C.Linear; amount = (fin false 1 (pos 0)); polarity = Q.Unipolar; destination = Some (A.Param 0); aux = None; aux_invert = false; aux_curve = C.Linear; output = (fin false 1 (pos 0)); bypass = false } ∷ [])

p37 : Compiles w37
    (record { dest = 0; voice = true; audio = false; min = (inf true); max = (inf false); base = B.Set; first = 0; count = 1 } ∷ [])
    1
    (record { slot = 0; source = record { read = D.Held 0 true; bipolar = false; table = false; slew = None }; aux = None; aux_invert = false; bipolar = false; amount = G.Live; output = G.Live; voice = true; scale = (fin false 1 (pos 0)); offset = (fin false 0 (pos 0)); simple = true } ∷ [])
    ([])
unfolding w37 target_place verdict verdicts_from verdicts candidates skipped_of in_use counted_feed used_dests feeder_of readers_of reads hears_audio is_audio controls audios plan_order slew_for input_by route_by route_in plan_by plans_of all_routes order seconds_of rate_per_sample max32 is_nan lt eq mul div
p37 = (refl, refl, refl, refl)

-- cases/t25-engine-global-program-voice.txt
w38 : Wiring
w38 =
    wired (fin false 1 (pos 6))
    (source (K.Held) S.Voice R.Unipolar ∷ [])
    (record { target = (A.Param 0); scope = S.Voice; rate = T.Control; min = (inf true); max = (inf false); feed = F.Nothing } ∷ [])
    (record { source = Some 0; source_curve = C.Linear; amount = (fin false 1 (pos 0)); polarity = Q.Unipolar; destination = Some (A.Param 0); aux = None; aux_invert = false; aux_curve = C.Linear; output = (fin false 1 (pos 0)); bypass = false } ∷ [])

p38 : Compiles w38
    (record { dest = 0; voice = true; audio = false; min = (inf true); max = (inf false); base = B.Set; first = 0; count = 1 } ∷ [])
    1
    (record { slot = 0; source = record { read = D.Held 0 true; bipolar = false; table = false; slew = None }; aux = None; aux_invert = false; bipolar = false; amount = G.Live; output = G.Live; voice = true; scale = (fin false 1 (pos 0)); offset = (fin false 0 (pos 0)); simple = true } ∷ [])
    ([])
unfolding w38 target_place verdict verdicts_from verdicts candidates skipped_of in_use counted_feed used_dests feeder_of readers_of reads hears_audio is_audio controls audios plan_order slew_for input_by route_by route_in plan_by plans_of all_routes order seconds_of rate_per_sample max32 is_nan lt eq mul div
p38 = (refl, refl, refl, refl)

-- cases/t27-signal-of-no-source.txt
w39 : Wiring
w39 =
    wired (fin false 1 (pos 6))
    (source (K.Signal) S.Global R.Unipolar ∷ source (K.Signal) S.Voice R.Bipolar ∷ [])
    (record { target = (A.Param 0); scope = S.Global; rate = T.Control; min = (inf true); max = (inf false); feed = F.Nothing } ∷ record { target = (A.Param 1); scope = S.Voice; rate = T.Audio; min = (inf true); max = (inf false); feed = F.Nothing } ∷ [])
    (record { source = Some 0; source_curve = C.Linear; amount = (fin false 1 (pos 0)); polarity = Q.Unipolar; destination = Some (A.Param 0); aux = None; aux_invert = false; aux_curve = C.Linear; output = (fin false 1 (pos 0)); bypass = false } ∷ record { source = Some 1; source_curve = C.Linear; amount = (fin false 1 (pos 0)); polarity = Q.Unipolar; destination = Some (A.Param 1); aux = None; aux_invert = false; aux_curve = C.Linear; output = (fin false 1 (pos 0)); bypass = false } ∷ record { source = Some 128; source_curve = C.Linear; amount = (fin false 1 (pos 0)); polarity = Q.Unipolar; destination = Some (A.Param 0); aux = None; aux_invert = false; aux_curve = C.Linear; output = (fin false 1 (pos 0)); bypass = false } ∷ [])

p39 : Compiles w39
    (record { dest = 0; voice = false; audio = false; min = (inf true); max = (inf false); base = B.Set; first = 0; count = 1 } ∷ record { dest = 1; voice = true; audio = true; min = (inf true); max = (inf false); base = B.Set; first = 1; count = 1 } ∷ [])
    1
    (record { slot = 0; source = record { read = D.Signal 0 false; bipolar = false; table = false; slew = None }; aux = None; aux_invert = false; bipolar = false; amount = G.Live; output = G.Live; voice = false; scale = (fin false 1 (pos 0)); offset = (fin false 0 (pos 0)); simple = false } ∷ record { slot = 1; source = record { read = D.Signal 1 true; bipolar = true; table = false; slew = None }; aux = None; aux_invert = false; bipolar = false; amount = G.Live; output = G.Live; voice = true; scale = (fin false 1 (negsuc 0)); offset = (fin false 1 (negsuc 0)); simple = true } ∷ [])
    (record { slot = 2; reason = E.UnknownSource } ∷ [])
unfolding w39 target_place verdict verdicts_from verdicts candidates skipped_of in_use counted_feed used_dests feeder_of readers_of reads hears_audio is_audio controls audios plan_order slew_for input_by route_by route_in plan_by plans_of all_routes order seconds_of rate_per_sample max32 is_nan lt eq mul div
p39 = (refl, refl, refl, refl)

-- gen.py 1
w40 : Wiring
w40 =
    wired (fin false 4870175 (negsuc 5))
    (source (K.Key) S.Voice R.Unipolar ∷ source (K.ReleaseVelocity) S.Global R.Unipolar ∷ source (K.Random) S.Voice R.Unipolar ∷ source (K.Velocity) S.Voice R.Unipolar ∷ source (K.Constant) S.Global R.Unipolar ∷ source (K.VoiceLoad) S.Global R.Unipolar ∷ source (K.Audio) S.Voice R.Bipolar ∷ source (K.Velocity) S.Voice R.Unipolar ∷ source (K.Signal) S.Global R.Unipolar ∷ source (K.Key) S.Voice R.Unipolar ∷ source (K.ReleaseVelocity) S.Voice R.Unipolar ∷ source (K.Alternate false) S.Voice R.Unipolar ∷ source (K.Held) S.Voice R.Unipolar ∷ source (K.RandomPerRoute) S.Voice R.Unipolar ∷ source (K.Signal) S.Voice R.Unipolar ∷ source (K.RandomPerRoute) S.Voice R.Unipolar ∷ source (K.Key) S.Voice R.Unipolar ∷ source (K.RandomPerRoute) S.Voice R.Unipolar ∷ source (K.Signal) S.Voice R.Unipolar ∷ source (K.Held) S.Global R.Unipolar ∷ source (K.RandomPerRoute) S.Voice R.Bipolar ∷ source (K.Signal) S.Voice R.Unipolar ∷ source (K.Signal) S.Voice R.Unipolar ∷ source (K.Signal) S.Voice R.Unipolar ∷ source (K.Alternate false) S.Voice R.Unipolar ∷ source (K.Signal) S.Voice R.Unipolar ∷ source (K.Audio) S.Voice R.Bipolar ∷ source (K.Held) S.Voice R.Bipolar ∷ source (K.Velocity) S.Voice R.Unipolar ∷ source (K.Signal) S.Voice R.Unipolar ∷ source (K.Velocity) S.Voice R.Unipolar ∷ source (K.Key) S.Voice R.Unipolar ∷ source (K.Signal) S.Voice R.Unipolar ∷ source (K.Held) S.Global R.Unipolar ∷ source (K.Held) S.Global R.Unipolar ∷ source (K.Alternate false) S.Voice R.Unipolar ∷ source (K.RandomPerRoute) S.Voice R.Bipolar ∷ source (K.VoiceLoad) S.Global R.Unipolar ∷ source (K.Held) S.Voice R.Unipolar ∷ source (K.Key) S.Voice R.Unipolar ∷ source (K.Velocity) S.Global R.Unipolar ∷ source (K.Audio) S.Voice R.Bipolar ∷ source (K.Audio) S.Voice R.Bipolar ∷ source (K.VoiceLoad) S.Global R.Unipolar ∷ source (K.Random) S.Voice R.Unipolar ∷ source (K.Audio) S.Voice R.Unipolar ∷ source (K.Signal) S.Voice R.Bipolar ∷ source (K.Key) S.Voice R.Unipolar ∷ source (K.Held) S.Global R.Unipolar ∷ source (K.Held) S.Global R.Unipolar ∷ source (K.Alternate true) S.Voice R.Unipolar ∷ source (K.Key) S.Voice R.Unipolar ∷ source (K.Key) S.Voice R.Bipolar ∷ source (K.Held) S.Voice R.Unipolar ∷ source (K.Audio) S.Voice R.Bipolar ∷ source (K.Signal) S.Voice R.Unipolar ∷ source (K.RandomPerRoute) S.Voice R.Bipolar ∷ source (K.Signal) S.Voice R.Unipolar ∷ source (K.Held) S.Global R.Unipolar ∷ source (K.Velocity) S.Voice R.Unipolar ∷ source (K.Random) S.Voice R.Bipolar ∷ source (K.Signal) S.Global R.Unipolar ∷ source (K.Held) S.Global R.Bipolar ∷ source (K.Constant) S.Global R.Unipolar ∷ source (K.Alternate true) S.Voice R.Unipolar ∷ source (K.VoiceLoad) S.Global R.Unipolar ∷ source (K.Signal) S.Voice R.Unipolar ∷ source (K.RandomPerRoute) S.Global R.Bipolar ∷ source (K.Constant) S.Global R.Unipolar ∷ source (K.Held) S.Global R.Unipolar ∷ source (K.Velocity) S.Voice R.Unipolar ∷ source (K.Audio) S.Voice R.Bipolar ∷ source (K.Audio) S.Voice R.Bipolar ∷ source (K.Signal) S.Global R.Unipolar ∷ source (K.RandomPerRoute) S.Voice R.Unipolar ∷ source (K.Alternate true) S.Voice R.Unipolar ∷ source (K.Constant) S.Global R.Unipolar ∷ source (K.Signal) S.Voice R.Unipolar ∷ source (K.Audio) S.Voice R.Unipolar ∷ source (K.Alternate true) S.Voice R.Unipolar ∷ source (K.Random) S.Voice R.Unipolar ∷ source (K.Constant) S.Global R.Unipolar ∷ source (K.Signal) S.Voice R.Unipolar ∷ source (K.Random) S.Voice R.Unipolar ∷ source (K.Audio) S.Global R.Bipolar ∷ source (K.Signal) S.Global R.Unipolar ∷ source (K.Signal) S.Voice R.Unipolar ∷ source (K.Key) S.Voice R.Unipolar ∷ source (K.Audio) S.Voice R.Unipolar ∷ source (K.Audio) S.Global R.Bipolar ∷ source (K.ReleaseVelocity) S.Voice R.Unipolar ∷ source (K.Random) S.Voice R.Unipolar ∷ source (K.Held) S.Global R.Unipolar ∷ source (K.Key) S.Voice R.Unipolar ∷ source (K.Constant) S.Global R.Unipolar ∷ source (K.Alternate false) S.Voice R.Unipolar ∷ source (K.Velocity) S.Voice R.Bipolar ∷ source (K.Random) S.Voice R.Unipolar ∷ source (K.Random) S.Voice R.Unipolar ∷ source (K.RandomPerRoute) S.Voice R.Unipolar ∷ source (K.Key) S.Voice R.Unipolar ∷ source (K.Constant) S.Global R.Unipolar ∷ source (K.Held) S.Global R.Unipolar ∷ source (K.RandomPerRoute) S.Voice R.Unipolar ∷ source (K.Velocity) S.Global R.Unipolar ∷ source (K.Audio) S.Voice R.Bipolar ∷ source (K.Signal) S.Voice R.Unipolar ∷ source (K.ReleaseVelocity) S.Voice R.Unipolar ∷ source (K.VoiceLoad) S.Global R.Unipolar ∷ source (K.RandomPerRoute) S.Voice R.Bipolar ∷ source (K.Held) S.Global R.Unipolar ∷ source (K.Audio) S.Global R.Bipolar ∷ source (K.ReleaseVelocity) S.Voice R.Unipolar ∷ source (K.Velocity) S.Voice R.Unipolar ∷ source (K.Key) S.Voice R.Unipolar ∷ source (K.Audio) S.Voice R.Bipolar ∷ source (K.RandomPerRoute) S.Voice R.Unipolar ∷ source (K.RandomPerRoute) S.Voice R.Unipolar ∷ source (K.Held) S.Voice R.Unipolar ∷ source (K.Held) S.Voice R.Unipolar ∷ source (K.Signal) S.Voice R.Bipolar ∷ source (K.Constant) S.Global R.Unipolar ∷ source (K.Signal) S.Voice R.Unipolar ∷ source (K.Held) S.Global R.Unipolar ∷ source (K.Velocity) S.Global R.Unipolar ∷ source (K.Held) S.Global R.Unipolar ∷ source (K.Random) S.Voice R.Bipolar ∷ source (K.Held) S.Global R.Unipolar ∷ [])
    (record { target = (A.Param 0); scope = S.Global; rate = T.Adaptive; min = (fin false 0 (pos 0)); max = (fin false 1 (pos 0)); feed = F.Nothing } ∷ record { target = (A.Param 7); scope = S.Global; rate = T.Control; min = (fin true 10189513 (negsuc 24)); max = (fin false 2552971 (negsuc 20)); feed = F.Nothing } ∷ record { target = (A.LfoBus 2 0); scope = S.Voice; rate = T.Control; min = (inf true); max = (inf false); feed = F.Nothing } ∷ record { target = (A.Param 21); scope = S.Global; rate = T.Control; min = (fin true 10878035 (negsuc 21)); max = (fin false 6135849 (negsuc 20)); feed = (F.Output 0) } ∷ record { target = (A.Param 28); scope = S.Global; rate = T.Adaptive; min = (fin false 0 (pos 0)); max = (inf false); feed = F.Nothing } ∷ record { target = (A.Param 35); scope = S.Global; rate = T.Control; min = (fin false 0 (pos 0)); max = (fin false 1 (pos 0)); feed = F.Nothing } ∷ record { target = (A.Param 42); scope = S.Voice; rate = T.Adaptive; min = (fin true 1 (pos 0)); max = (fin false 1 (pos 0)); feed = F.Nothing } ∷ [])
    (record { source = Some 5; source_curve = C.Table (fin false 0 (pos 0)) (fin false 0 (pos 0)); amount = (fin false 1 (negsuc 0)); polarity = Q.Bipolar; destination = Some (A.Param 35); aux = None; aux_invert = false; aux_curve = C.Linear; output = (fin false 11567083 (negsuc 25)); bypass = false } ∷ record { source = Some 37; source_curve = C.Linear; amount = (fin true 1 (pos 0)); polarity = Q.Bipolar; destination = Some (A.Param 42); aux = Some 41; aux_invert = false; aux_curve = C.Linear; output = (fin false 1 (pos 0)); bypass = false } ∷ record { source = Some 59; source_curve = C.Table (fin false 0 (pos 0)) (fin false 0 (pos 0)); amount = (fin true 1 (pos 0)); polarity = Q.Bipolar; destination = Some (A.Param 21); aux = None; aux_invert = false; aux_curve = C.Linear; output = (fin false 1 (pos 0)); bypass = false } ∷ record { source = Some 133; source_curve = C.Linear; amount = (fin true 3527255 (negsuc 21)); polarity = Q.Bipolar; destination = Some (A.Param 28); aux = None; aux_invert = false; aux_curve = C.Linear; output = (fin false 180033 (negsuc 17)); bypass = false } ∷ [])

p40 : Compiles w40
    (record { dest = 3; voice = false; audio = false; min = (fin true 10878035 (negsuc 21)); max = (fin false 6135849 (negsuc 20)); base = B.Output 0; first = 0; count = 1 } ∷ record { dest = 5; voice = false; audio = false; min = (fin false 0 (pos 0)); max = (fin false 1 (pos 0)); base = B.Set; first = 1; count = 1 } ∷ record { dest = 6; voice = true; audio = true; min = (fin true 1 (pos 0)); max = (fin false 1 (pos 0)); base = B.Set; first = 2; count = 1 } ∷ [])
    2
    (record { slot = 2; source = record { read = D.Held 59 true; bipolar = false; table = true; slew = None }; aux = None; aux_invert = false; bipolar = true; amount = G.Live; output = G.Live; voice = true; scale = (fin false 1 (pos 1)); offset = (fin true 1 (pos 0)); simple = false } ∷ record { slot = 0; source = record { read = D.Held 5 false; bipolar = false; table = true; slew = None }; aux = None; aux_invert = false; bipolar = true; amount = G.Live; output = G.Fed 0 false; voice = false; scale = (fin false 1 (pos 1)); offset = (fin true 1 (pos 0)); simple = false } ∷ record { slot = 1; source = record { read = D.Held 37 false; bipolar = false; table = false; slew = None }; aux = Some (record { read = D.Signal 41 true; bipolar = true; table = false; slew = None }); aux_invert = false; bipolar = true; amount = G.Live; output = G.Live; voice = true; scale = (fin false 1 (pos 1)); offset = (fin true 1 (pos 0)); simple = false } ∷ [])
    (record { slot = 3; reason = E.UnknownSource } ∷ [])
unfolding w40 target_place verdict verdicts_from verdicts candidates skipped_of in_use counted_feed used_dests feeder_of readers_of reads hears_audio is_audio controls audios plan_order slew_for input_by route_by route_in plan_by plans_of all_routes order seconds_of rate_per_sample max32 is_nan lt eq mul div
p40 = (refl, refl, refl, refl)

-- gen.py 6
w41 : Wiring
w41 =
    wired (fin false 1953125 (pos 9))
    (source (K.Random) S.Voice R.Unipolar ∷ source (K.Alternate false) S.Voice R.Bipolar ∷ source (K.Audio) S.Voice R.Bipolar ∷ source (K.Signal) S.Voice R.Unipolar ∷ source (K.Held) S.Global R.Bipolar ∷ source (K.Held) S.Voice R.Bipolar ∷ source (K.Held) S.Voice R.Unipolar ∷ [])
    (record { target = (A.Param 0); scope = S.Voice; rate = T.Control; min = (fin false 11888279 (negsuc 28)); max = (fin false 617205 (negsuc 17)); feed = F.Nothing } ∷ record { target = (A.Param 7); scope = S.Voice; rate = T.Audio; min = (fin false 0 (pos 0)); max = (fin false 1 (pos 0)); feed = F.Nothing } ∷ record { target = (A.Param 14); scope = S.Global; rate = T.Audio; min = (inf true); max = (inf false); feed = F.Nothing } ∷ record { target = (A.Param 21); scope = S.Global; rate = T.Adaptive; min = (fin true 1 (pos 0)); max = (fin false 1 (pos 0)); feed = F.Nothing } ∷ record { target = (A.Param 28); scope = S.Global; rate = T.Audio; min = (inf true); max = (fin false 0 (pos 0)); feed = (F.Source 4) } ∷ record { target = (A.LfoBus 5 0); scope = S.Global; rate = T.Adaptive; min = (fin true 0 (pos 0)); max = (fin false 1 (pos 0)); feed = (F.Source 4) } ∷ [])
    (record { source = Some 4; source_curve = C.Linear; amount = (fin false 1 (negsuc 0)); polarity = Q.Unipolar; destination = Some (A.Param 28); aux = None; aux_invert = false; aux_curve = C.Linear; output = (fin false 1 (pos 0)); bypass = false } ∷ record { source = None; source_curve = C.Table (fin false 0 (pos 0)) (fin false 0 (pos 0)); amount = (fin true 13578041 (negsuc 27)); polarity = Q.Bipolar; destination = Some (A.Param 21); aux = None; aux_invert = false; aux_curve = C.Linear; output = (fin false 11650977 (negsuc 23)); bypass = false } ∷ record { source = Some 6; source_curve = C.Linear; amount = (fin true 10107257 (negsuc 24)); polarity = Q.Unipolar; destination = Some (A.Param 28); aux = None; aux_invert = false; aux_curve = C.Linear; output = (fin false 1 (pos 0)); bypass = false } ∷ record { source = Some 1; source_curve = C.Table (fin false 0 (pos 0)) (fin false 9007199 (negsuc 47)); amount = (fin false 1 (pos 0)); polarity = Q.Unipolar; destination = Some (A.Param 0); aux = Some 3; aux_invert = true; aux_curve = C.Linear; output = (fin false 1 (pos 0)); bypass = false } ∷ record { source = Some 1; source_curve = C.Table (fin false 0 (pos 0)) (fin false 0 (pos 0)); amount = (fin false 1 (pos 0)); polarity = Q.Bipolar; destination = None; aux = None; aux_invert = false; aux_curve = C.Linear; output = (fin false 1 (pos 0)); bypass = false } ∷ record { source = Some 5; source_curve = C.Linear; amount = (fin false 1 (negsuc 0)); polarity = Q.Bipolar; destination = Some (A.LfoBus 5 0); aux = None; aux_invert = false; aux_curve = C.Linear; output = (fin false 1 (pos 0)); bypass = false } ∷ record { source = Some 3; source_curve = C.Linear; amount = (fin false 1 (negsuc 0)); polarity = Q.Unipolar; destination = Some (A.Param 0); aux = Some 1; aux_invert = false; aux_curve = C.Linear; output = (fin false 1 (pos 0)); bypass = false } ∷ record { source = Some 2; source_curve = C.Table (fin false 0 (pos 0)) (fin false 0 (pos 0)); amount = (fin true 1 (pos 0)); polarity = Q.Bipolar; destination = Some (A.Param 0); aux = None; aux_invert = false; aux_curve = C.Linear; output = (fin false 1 (pos 0)); bypass = false } ∷ [])

p41 : Compiles w41
    (record { dest = 0; voice = true; audio = false; min = (fin false 11888279 (negsuc 28)); max = (fin false 617205 (negsuc 17)); base = B.Set; first = 0; count = 3 } ∷ record { dest = 5; voice = false; audio = false; min = (fin true 0 (pos 0)); max = (fin false 1 (pos 0)); base = B.Held 4; first = 3; count = 1 } ∷ record { dest = 4; voice = false; audio = false; min = (inf true); max = (fin false 0 (pos 0)); base = B.Held 4; first = 4; count = 2 } ∷ [])
    3
    (record { slot = 3; source = record { read = D.Held 1 true; bipolar = true; table = true; slew = Some (record { up = (inf false); down = (fin false 1 (negsuc 4)) }) }; aux = Some (record { read = D.Signal 3 true; bipolar = false; table = false; slew = None }); aux_invert = true; bipolar = false; amount = G.Live; output = G.Live; voice = true; scale = (fin false 1 (negsuc 0)); offset = (fin false 1 (negsuc 0)); simple = false } ∷ record { slot = 6; source = record { read = D.Signal 3 true; bipolar = false; table = false; slew = None }; aux = Some (record { read = D.Held 1 true; bipolar = true; table = false; slew = None }); aux_invert = false; bipolar = false; amount = G.Live; output = G.Live; voice = true; scale = (fin false 1 (pos 0)); offset = (fin false 0 (pos 0)); simple = false } ∷ record { slot = 7; source = record { read = D.Signal 2 true; bipolar = true; table = true; slew = None }; aux = None; aux_invert = false; bipolar = true; amount = G.Live; output = G.Live; voice = true; scale = (fin false 1 (pos 0)); offset = (fin false 0 (pos 0)); simple = false } ∷ record { slot = 5; source = record { read = D.Held 5 true; bipolar = true; table = false; slew = None }; aux = None; aux_invert = false; bipolar = true; amount = G.Live; output = G.Live; voice = true; scale = (fin false 1 (pos 0)); offset = (fin false 0 (pos 0)); simple = false } ∷ record { slot = 0; source = record { read = D.Fed 1 false; bipolar = true; table = false; slew = None }; aux = None; aux_invert = false; bipolar = false; amount = G.Live; output = G.Live; voice = false; scale = (fin false 1 (negsuc 0)); offset = (fin false 1 (negsuc 0)); simple = false } ∷ record { slot = 2; source = record { read = D.Held 6 true; bipolar = false; table = false; slew = None }; aux = None; aux_invert = false; bipolar = false; amount = G.Live; output = G.Live; voice = true; scale = (fin false 1 (pos 0)); offset = (fin false 0 (pos 0)); simple = false } ∷ [])
    ([])
unfolding w41 target_place verdict verdicts_from verdicts candidates skipped_of in_use counted_feed used_dests feeder_of readers_of reads hears_audio is_audio controls audios plan_order slew_for input_by route_by route_in plan_by plans_of all_routes order seconds_of rate_per_sample max32 is_nan lt eq mul div
p41 = (refl, refl, refl, refl)

-- gen.py 7
w42 : Wiring
w42 =
    wired (fin false 8589935 (negsuc 32))
    (source (K.Held) S.Global R.Unipolar ∷ source (K.Held) S.Global R.Unipolar ∷ source (K.Held) S.Global R.Unipolar ∷ source (K.Held) S.Global R.Unipolar ∷ source (K.Held) S.Voice R.Unipolar ∷ source (K.Held) S.Global R.Unipolar ∷ source (K.Held) S.Voice R.Unipolar ∷ source (K.Held) S.Global R.Unipolar ∷ source (K.Held) S.Global R.Bipolar ∷ source (K.Held) S.Global R.Unipolar ∷ source (K.Signal) S.Voice R.Unipolar ∷ source (K.Held) S.Global R.Unipolar ∷ [])
    (record { target = (A.Param 0); scope = S.Global; rate = T.Control; min = (fin false 0 (pos 0)); max = (fin false 1 (pos 0)); feed = F.Nothing } ∷ record { target = (A.Param 4294967294); scope = S.Global; rate = T.Control; min = (fin true 1 (pos 0)); max = (fin false 1 (pos 0)); feed = F.Nothing } ∷ record { target = (A.LfoBus 2 0); scope = S.Global; rate = T.Control; min = (fin false 0 (pos 0)); max = (fin false 1 (pos 0)); feed = (F.Amount 0) } ∷ record { target = (A.Param 21); scope = S.Global; rate = T.Control; min = (fin true 1 (pos 0)); max = (fin false 1 (pos 0)); feed = (F.Amount 0) } ∷ record { target = (A.Param 28); scope = S.Global; rate = T.Control; min = (fin false 12086505 (negsuc 22)); max = (fin false 2559389 (negsuc 19)); feed = (F.Amount 0) } ∷ record { target = (A.LfoBus 5 0); scope = S.Global; rate = T.Control; min = (fin false 0 (pos 0)); max = (fin false 1 (pos 0)); feed = (F.Amount 0) } ∷ record { target = (A.Param 42); scope = S.Global; rate = T.Control; min = (fin false 0 (pos 0)); max = (fin false 1 (pos 0)); feed = F.Nothing } ∷ [])
    (record { source = Some 10; source_curve = C.Linear; amount = (fin false 15265557 (negsuc 25)); polarity = Q.Bipolar; destination = Some (A.Param 28); aux = Some 3; aux_invert = false; aux_curve = C.Table (fin false 0 (pos 0)) (fin false 0 (pos 0)); output = (fin false 1 (pos 0)); bypass = false } ∷ record { source = None; source_curve = C.Linear; amount = (fin false 0 (pos 0)); polarity = Q.Unipolar; destination = None; aux = None; aux_invert = false; aux_curve = C.Linear; output = (fin false 1 (pos 0)); bypass = false } ∷ [])

p42 : Compiles w42
    (record { dest = 4; voice = false; audio = false; min = (fin false 12086505 (negsuc 22)); max = (fin false 2559389 (negsuc 19)); base = B.Amount 0; first = 0; count = 1 } ∷ [])
    1
    (record { slot = 0; source = record { read = D.Signal 10 true; bipolar = false; table = false; slew = None }; aux = Some (record { read = D.Held 3 false; bipolar = false; table = true; slew = None }); aux_invert = false; bipolar = true; amount = G.Fed 0 false; output = G.Live; voice = true; scale = (fin false 1 (pos 1)); offset = (fin true 1 (pos 0)); simple = false } ∷ [])
    ([])
unfolding w42 target_place verdict verdicts_from verdicts candidates skipped_of in_use counted_feed used_dests feeder_of readers_of reads hears_audio is_audio controls audios plan_order slew_for input_by route_by route_in plan_by plans_of all_routes order seconds_of rate_per_sample max32 is_nan lt eq mul div
p42 = (refl, refl, refl, refl)

-- gen.py 14
w43 : Wiring
w43 =
    wired (fin false 375 (pos 7))
    (source (K.Signal) S.Voice R.Unipolar ∷ source (K.Signal) S.Voice R.Bipolar ∷ source (K.Constant) S.Global R.Unipolar ∷ source (K.Random) S.Voice R.Unipolar ∷ source (K.Signal) S.Global R.Unipolar ∷ source (K.Held) S.Global R.Unipolar ∷ source (K.RandomPerRoute) S.Global R.Unipolar ∷ [])
    (record { target = (A.LfoBus 0 0); scope = S.Voice; rate = T.Audio; min = (fin true 1 (pos 0)); max = (fin false 1 (pos 0)); feed = F.Nothing } ∷ [])
    (record { source = Some 2; source_curve = C.Linear; amount = (fin true 1 (pos 0)); polarity = Q.Unipolar; destination = Some (A.LfoBus 0 0); aux = Some 2; aux_invert = true; aux_curve = C.Linear; output = (fin false 1 (pos 0)); bypass = false } ∷ record { source = Some 1; source_curve = C.Linear; amount = (fin false 5727695 (negsuc 22)); polarity = Q.Unipolar; destination = Some (A.LfoBus 0 0); aux = Some 2; aux_invert = true; aux_curve = C.Table (fin false 1 (pos 0)) (fin false 332307 (negsuc 117)); output = (fin false 1 (pos 0)); bypass = false } ∷ [])

p43 : Compiles w43
    (record { dest = 0; voice = true; audio = true; min = (fin true 1 (pos 0)); max = (fin false 1 (pos 0)); base = B.Set; first = 0; count = 2 } ∷ [])
    0
    (record { slot = 0; source = record { read = D.Constant; bipolar = false; table = false; slew = None }; aux = Some (record { read = D.Constant; bipolar = false; table = false; slew = None }); aux_invert = true; bipolar = false; amount = G.Live; output = G.Live; voice = false; scale = (fin false 1 (pos 0)); offset = (fin false 0 (pos 0)); simple = false } ∷ record { slot = 1; source = record { read = D.Signal 1 true; bipolar = true; table = false; slew = None }; aux = Some (record { read = D.Constant; bipolar = false; table = true; slew = Some (record { up = (fin false 5726623 (negsuc 37)); down = (fin false 4517509 (pos 62)) }) }); aux_invert = true; bipolar = false; amount = G.Live; output = G.Live; voice = true; scale = (fin false 1 (negsuc 0)); offset = (fin false 1 (negsuc 0)); simple = false } ∷ [])
    ([])
unfolding w43 target_place verdict verdicts_from verdicts candidates skipped_of in_use counted_feed used_dests feeder_of readers_of reads hears_audio is_audio controls audios plan_order slew_for input_by route_by route_in plan_by plans_of all_routes order seconds_of rate_per_sample max32 is_nan lt eq mul div
p43 = (refl, refl, refl, refl)

-- gen.py 16
w44 : Wiring
w44 =
    wired (fin false 375 (pos 7))
    (source (K.Held) S.Global R.Unipolar ∷ source (K.Held) S.Global R.Unipolar ∷ source (K.Held) S.Global R.Unipolar ∷ source (K.Held) S.Voice R.Unipolar ∷ source (K.Velocity) S.Voice R.Unipolar ∷ source (K.Audio) S.Voice R.Bipolar ∷ source (K.Held) S.Global R.Unipolar ∷ source (K.Held) S.Global R.Unipolar ∷ source (K.Signal) S.Voice R.Unipolar ∷ source (K.RandomPerRoute) S.Voice R.Unipolar ∷ source (K.Constant) S.Global R.Unipolar ∷ source (K.Held) S.Voice R.Unipolar ∷ source (K.Held) S.Global R.Unipolar ∷ source (K.Audio) S.Voice R.Bipolar ∷ [])
    (record { target = (A.LfoBus 0 0); scope = S.Global; rate = T.Control; min = (fin false 0 (pos 0)); max = (fin false 1 (pos 0)); feed = (F.Amount 0) } ∷ record { target = (A.Param 7); scope = S.Global; rate = T.Control; min = (fin true 7352467 (negsuc 21)); max = (fin true 3158163 (negsuc 21)); feed = (F.Amount 0) } ∷ record { target = (A.Param 14); scope = S.Global; rate = T.Control; min = (inf true); max = (fin false 0 (pos 0)); feed = (F.Source 1) } ∷ record { target = (A.Param 21); scope = S.Global; rate = T.Adaptive; min = (fin true 1 (pos 0)); max = (fin false 1 (pos 0)); feed = (F.Source 1) } ∷ record { target = (A.Param 28); scope = S.Global; rate = T.Control; min = (inf true); max = (fin false 0 (pos 0)); feed = (F.Output 2) } ∷ record { target = (A.Param 35); scope = S.Global; rate = T.Control; min = (fin true 1 (pos 0)); max = (fin false 1 (pos 0)); feed = (F.Amount 13) } ∷ [])
    (record { source = Some 1; source_curve = C.Table (fin false 0 (pos 0)) (fin false 0 (pos 0)); amount = (fin false 10454057 (negsuc 23)); polarity = Q.Bipolar; destination = Some (A.Param 28); aux = None; aux_invert = false; aux_curve = C.Linear; output = (fin false 1 (pos 0)); bypass = false } ∷ record { source = Some 1; source_curve = C.Linear; amount = (fin true 1 (negsuc 1)); polarity = Q.Bipolar; destination = Some (A.Param 21); aux = Some 11; aux_invert = false; aux_curve = C.Table (fin false 332307 (negsuc 117)) (fin true 1 (pos 0)); output = (fin false 1 (pos 0)); bypass = false } ∷ record { source = Some 8; source_curve = C.Linear; amount = (fin false 0 (pos 0)); polarity = Q.Unipolar; destination = Some (A.Param 7); aux = None; aux_invert = false; aux_curve = C.Linear; output = (fin true 16777215 (negsuc 23)); bypass = false } ∷ record { source = Some 1; source_curve = C.Linear; amount = (fin true 467889 (negsuc 21)); polarity = Q.Bipolar; destination = Some (A.Param 21); aux = None; aux_invert = false; aux_curve = C.Linear; output = (fin false 1 (pos 0)); bypass = false } ∷ [])

p44 : Compiles w44
    (record { dest = 3; voice = false; audio = false; min = (fin true 1 (pos 0)); max = (fin false 1 (pos 0)); base = B.Held 1; first = 0; count = 2 } ∷ record { dest = 1; voice = false; audio = false; min = (fin true 7352467 (negsuc 21)); max = (fin true 3158163 (negsuc 21)); base = B.Amount 0; first = 2; count = 1 } ∷ record { dest = 4; voice = false; audio = false; min = (inf true); max = (fin false 0 (pos 0)); base = B.Output 2; first = 3; count = 1 } ∷ [])
    3
    (record { slot = 1; source = record { read = D.Fed 0 false; bipolar = false; table = false; slew = None }; aux = Some (record { read = D.Held 11 true; bipolar = false; table = true; slew = Some (record { up = (fin false 4517509 (pos 62)); down = (inf false) }) }); aux_invert = false; bipolar = true; amount = G.Live; output = G.Live; voice = true; scale = (fin false 1 (pos 1)); offset = (fin true 1 (pos 0)); simple = false } ∷ record { slot = 3; source = record { read = D.Fed 0 false; bipolar = false; table = false; slew = None }; aux = None; aux_invert = false; bipolar = true; amount = G.Live; output = G.Live; voice = false; scale = (fin false 1 (pos 1)); offset = (fin true 1 (pos 0)); simple = false } ∷ record { slot = 2; source = record { read = D.Signal 8 true; bipolar = false; table = false; slew = None }; aux = None; aux_invert = false; bipolar = false; amount = G.Live; output = G.Fed 2 false; voice = true; scale = (fin false 1 (pos 0)); offset = (fin false 0 (pos 0)); simple = false } ∷ record { slot = 0; source = record { read = D.Fed 0 false; bipolar = false; table = true; slew = None }; aux = None; aux_invert = false; bipolar = true; amount = G.Fed 1 false; output = G.Live; voice = false; scale = (fin false 1 (pos 1)); offset = (fin true 1 (pos 0)); simple = false } ∷ [])
    ([])
unfolding w44 target_place verdict verdicts_from verdicts candidates skipped_of in_use counted_feed used_dests feeder_of readers_of reads hears_audio is_audio controls audios plan_order slew_for input_by route_by route_in plan_by plans_of all_routes order seconds_of rate_per_sample max32 is_nan lt eq mul div
p44 = (refl, refl, refl, refl)

-- gen.py 24
w45 : Wiring
w45 =
    wired (fin false 1 (pos 6))
    (source (K.Random) S.Voice R.Unipolar ∷ source (K.Key) S.Voice R.Unipolar ∷ [])
    (record { target = (A.Param 0); scope = S.Voice; rate = T.Adaptive; min = (inf true); max = (fin false 0 (pos 0)); feed = F.Nothing } ∷ record { target = (A.Param 7); scope = S.Voice; rate = T.Control; min = (fin true 5021599 (negsuc 20)); max = (fin true 11697789 (negsuc 22)); feed = F.Nothing } ∷ record { target = (A.Param 14); scope = S.Voice; rate = T.Control; min = (fin false 0 (pos 0)); max = (fin false 1 (pos 0)); feed = F.Nothing } ∷ record { target = (A.Param 21); scope = S.Global; rate = T.Control; min = (fin false 0 (pos 0)); max = (fin false 1 (pos 0)); feed = F.Nothing } ∷ record { target = (A.Param 28); scope = S.Voice; rate = T.Audio; min = (inf true); max = (inf false); feed = F.Nothing } ∷ record { target = (A.Param 35); scope = S.Voice; rate = T.Audio; min = (fin false 0 (pos 0)); max = (inf false); feed = (F.Source 1) } ∷ record { target = (A.Param 42); scope = S.Voice; rate = T.Adaptive; min = (fin true 1 (pos 0)); max = (fin false 1 (pos 0)); feed = F.Nothing } ∷ record { target = (A.Param 49); scope = S.Voice; rate = T.Control; min = (inf true); max = (inf false); feed = F.Nothing } ∷ [])
    (record { source = Some 0; source_curve = C.Linear; amount = (fin false 0 (pos 0)); polarity = Q.Bipolar; destination = Some (A.Param 28); aux = None; aux_invert = false; aux_curve = C.Linear; output = (fin false 1 (pos 0)); bypass = false } ∷ record { source = Some 0; source_curve = C.Linear; amount = (fin true 0 (pos 0)); polarity = Q.Unipolar; destination = Some (A.Param 21); aux = Some 0; aux_invert = false; aux_curve = C.Linear; output = (fin false 1 (pos 0)); bypass = false } ∷ record { source = Some 0; source_curve = C.Linear; amount = (fin true 0 (pos 0)); polarity = Q.Unipolar; destination = Some (A.Param 42); aux = None; aux_invert = false; aux_curve = C.Linear; output = (fin false 1 (pos 0)); bypass = false } ∷ record { source = Some 1; source_curve = C.Linear; amount = (fin false 9705807 (negsuc 25)); polarity = Q.Unipolar; destination = Some (A.Param 49); aux = None; aux_invert = false; aux_curve = C.Linear; output = (fin false 1 (pos 0)); bypass = false } ∷ [])

p45 : Compiles w45
    (record { dest = 3; voice = false; audio = false; min = (fin false 0 (pos 0)); max = (fin false 1 (pos 0)); base = B.Set; first = 0; count = 1 } ∷ record { dest = 6; voice = true; audio = false; min = (fin true 1 (pos 0)); max = (fin false 1 (pos 0)); base = B.Set; first = 1; count = 1 } ∷ record { dest = 7; voice = true; audio = false; min = (inf true); max = (inf false); base = B.Set; first = 2; count = 1 } ∷ record { dest = 4; voice = true; audio = true; min = (inf true); max = (inf false); base = B.Set; first = 3; count = 1 } ∷ [])
    3
    (record { slot = 1; source = record { read = D.Held 0 true; bipolar = false; table = false; slew = None }; aux = Some (record { read = D.Held 0 true; bipolar = false; table = false; slew = None }); aux_invert = false; bipolar = false; amount = G.Live; output = G.Live; voice = true; scale = (fin false 1 (pos 0)); offset = (fin false 0 (pos 0)); simple = false } ∷ record { slot = 2; source = record { read = D.Held 0 true; bipolar = false; table = false; slew = None }; aux = None; aux_invert = false; bipolar = false; amount = G.Live; output = G.Live; voice = true; scale = (fin false 1 (pos 0)); offset = (fin false 0 (pos 0)); simple = true } ∷ record { slot = 3; source = record { read = D.Held 1 true; bipolar = false; table = false; slew = None }; aux = None; aux_invert = false; bipolar = false; amount = G.Live; output = G.Live; voice = true; scale = (fin false 1 (pos 0)); offset = (fin false 0 (pos 0)); simple = true } ∷ record { slot = 0; source = record { read = D.Held 0 true; bipolar = false; table = false; slew = None }; aux = None; aux_invert = false; bipolar = true; amount = G.Live; output = G.Live; voice = true; scale = (fin false 1 (pos 1)); offset = (fin true 1 (pos 0)); simple = true } ∷ [])
    ([])
unfolding w45 target_place verdict verdicts_from verdicts candidates skipped_of in_use counted_feed used_dests feeder_of readers_of reads hears_audio is_audio controls audios plan_order slew_for input_by route_by route_in plan_by plans_of all_routes order seconds_of rate_per_sample max32 is_nan lt eq mul div
p45 = (refl, refl, refl, refl)

-- gen.py 28
w46 : Wiring
w46 =
    wired (fin false 11025 (pos 2))
    (source (K.Audio) S.Voice R.Bipolar ∷ source (K.Velocity) S.Voice R.Unipolar ∷ source (K.VoiceLoad) S.Global R.Bipolar ∷ source (K.RandomPerRoute) S.Voice R.Unipolar ∷ source (K.Constant) S.Global R.Unipolar ∷ source (K.Signal) S.Voice R.Bipolar ∷ source (K.Audio) S.Global R.Bipolar ∷ [])
    (record { target = (A.Param 0); scope = S.Global; rate = T.Audio; min = (fin true 1 (pos 0)); max = (fin false 1 (pos 0)); feed = (F.Amount 2) } ∷ [])
    (record { source = Some 0; source_curve = C.Table (fin false 6233059 (negsuc 32)) (fin true 0 (pos 0)); amount = (fin true 1 (negsuc 0)); polarity = Q.Bipolar; destination = Some (A.Param 0); aux = None; aux_invert = false; aux_curve = C.Linear; output = (fin false 1 (pos 0)); bypass = false } ∷ record { source = Some 4; source_curve = C.Linear; amount = (fin true 1 (negsuc 1)); polarity = Q.Bipolar; destination = Some (A.Param 999999999); aux = None; aux_invert = false; aux_curve = C.Linear; output = (fin false 1 (pos 0)); bypass = false } ∷ record { source = Some 5; source_curve = C.Table (fin false 0 (pos 0)) (fin false 0 (pos 0)); amount = (fin true 1 (pos 0)); polarity = Q.Bipolar; destination = Some (A.Param 0); aux = None; aux_invert = false; aux_curve = C.Linear; output = (fin true 1 (negsuc 0)); bypass = false } ∷ record { source = Some 1; source_curve = C.Linear; amount = (fin false 1 (pos 0)); polarity = Q.Unipolar; destination = Some (A.Param 0); aux = None; aux_invert = false; aux_curve = C.Linear; output = (fin false 1 (pos 0)); bypass = false } ∷ record { source = Some 1; source_curve = C.Table (fin false 1 (negsuc 0)) (fin false 0 (pos 0)); amount = (fin true 1 (pos 0)); polarity = Q.Bipolar; destination = Some (A.Param 0); aux = None; aux_invert = false; aux_curve = C.Linear; output = (fin false 1 (pos 0)); bypass = false } ∷ record { source = Some 0; source_curve = C.Linear; amount = (fin false 10603109 (negsuc 24)); polarity = Q.Bipolar; destination = None; aux = None; aux_invert = false; aux_curve = C.Linear; output = (fin true 0 (pos 0)); bypass = false } ∷ record { source = Some 6; source_curve = C.Linear; amount = (fin false 6915481 (negsuc 23)); polarity = Q.Unipolar; destination = Some (A.Param 0); aux = None; aux_invert = false; aux_curve = C.Linear; output = (fin false 1 (pos 0)); bypass = false } ∷ record { source = Some 1; source_curve = C.Table (fin false 0 (pos 0)) (fin false 0 (pos 0)); amount = (fin true 1 (pos 0)); polarity = Q.Unipolar; destination = Some (A.LfoBus 200 200); aux = None; aux_invert = false; aux_curve = C.Linear; output = (fin false 1 (pos 0)); bypass = false } ∷ record { source = Some 4; source_curve = C.Table (fin false 0 (pos 0)) (fin false 0 (pos 0)); amount = (fin false 0 (pos 0)); polarity = Q.Unipolar; destination = Some (A.Param 0); aux = None; aux_invert = false; aux_curve = C.Linear; output = (fin true 3607851 (negsuc 22)); bypass = false } ∷ record { source = Some 3; source_curve = C.Table (fin false 0 (pos 0)) (fin false 0 (pos 0)); amount = (fin false 1 (negsuc 0)); polarity = Q.Bipolar; destination = Some (A.Param 0); aux = Some 2; aux_invert = true; aux_curve = C.Table (fin false 0 (pos 0)) (fin false 0 (pos 0)); output = (fin false 6798337 (negsuc 22)); bypass = true } ∷ record { source = None; source_curve = C.Table (fin false 2078851 (negsuc 30)) (fin false 332307 (negsuc 117)); amount = (fin true 1 (pos 0)); polarity = Q.Unipolar; destination = Some (A.Param 0); aux = Some 1; aux_invert = false; aux_curve = C.Table (fin false 6233059 (negsuc 37)) (fin false 0 (pos 0)); output = (fin false 1 (pos 0)); bypass = false } ∷ record { source = Some 1; source_curve = C.Linear; amount = (fin false 16028525 (negsuc 23)); polarity = Q.Unipolar; destination = Some (A.Param 0); aux = None; aux_invert = false; aux_curve = C.Linear; output = (fin false 1 (pos 0)); bypass = true } ∷ [])

p46 : Compiles w46
    (record { dest = 0; voice = false; audio = false; min = (fin true 1 (pos 0)); max = (fin false 1 (pos 0)); base = B.Amount 2; first = 0; count = 6 } ∷ [])
    1
    (record { slot = 0; source = record { read = D.Signal 0 true; bipolar = true; table = true; slew = Some (record { up = (fin false 1 (negsuc 4)); down = (inf false) }) }; aux = None; aux_invert = false; bipolar = true; amount = G.Live; output = G.Live; voice = true; scale = (fin false 1 (pos 0)); offset = (fin false 0 (pos 0)); simple = false } ∷ record { slot = 2; source = record { read = D.Signal 5 true; bipolar = true; table = true; slew = None }; aux = None; aux_invert = false; bipolar = true; amount = G.Fed 0 false; output = G.Live; voice = true; scale = (fin false 1 (pos 0)); offset = (fin false 0 (pos 0)); simple = false } ∷ record { slot = 3; source = record { read = D.Held 1 true; bipolar = false; table = false; slew = None }; aux = None; aux_invert = false; bipolar = false; amount = G.Live; output = G.Live; voice = true; scale = (fin false 1 (pos 0)); offset = (fin false 0 (pos 0)); simple = false } ∷ record { slot = 4; source = record { read = D.Held 1 true; bipolar = false; table = true; slew = Some (record { up = (fin false 6233059 (negsuc 36)); down = (inf false) }) }; aux = None; aux_invert = false; bipolar = true; amount = G.Live; output = G.Live; voice = true; scale = (fin false 1 (pos 1)); offset = (fin true 1 (pos 0)); simple = false } ∷ record { slot = 6; source = record { read = D.Signal 6 false; bipolar = true; table = false; slew = None }; aux = None; aux_invert = false; bipolar = false; amount = G.Live; output = G.Live; voice = false; scale = (fin false 1 (negsuc 0)); offset = (fin false 1 (negsuc 0)); simple = false } ∷ record { slot = 8; source = record { read = D.Constant; bipolar = false; table = true; slew = None }; aux = None; aux_invert = false; bipolar = false; amount = G.Live; output = G.Live; voice = false; scale = (fin false 1 (pos 0)); offset = (fin false 0 (pos 0)); simple = false } ∷ [])
    (record { slot = 1; reason = E.UnknownDestination } ∷ record { slot = 7; reason = E.UnknownDestination } ∷ [])
unfolding w46 target_place verdict verdicts_from verdicts candidates skipped_of in_use counted_feed used_dests feeder_of readers_of reads hears_audio is_audio controls audios plan_order slew_for input_by route_by route_in plan_by plans_of all_routes order seconds_of rate_per_sample max32 is_nan lt eq mul div
p46 = (refl, refl, refl, refl)

-- gen.py 31
w47 : Wiring
w47 =
    wired (fin false 1 (pos 6))
    (source (K.Key) S.Voice R.Unipolar ∷ source (K.ReleaseVelocity) S.Voice R.Unipolar ∷ source (K.Audio) S.Voice R.Bipolar ∷ source (K.Alternate false) S.Voice R.Unipolar ∷ source (K.Alternate true) S.Voice R.Unipolar ∷ source (K.Audio) S.Global R.Bipolar ∷ source (K.Held) S.Voice R.Unipolar ∷ source (K.Signal) S.Voice R.Unipolar ∷ source (K.Signal) S.Global R.Unipolar ∷ source (K.Held) S.Global R.Bipolar ∷ source (K.Velocity) S.Voice R.Unipolar ∷ [])
    (record { target = (A.Param 0); scope = S.Global; rate = T.Adaptive; min = (fin false 0 (pos 0)); max = (fin false 1 (pos 0)); feed = F.Nothing } ∷ record { target = (A.Param 7); scope = S.Global; rate = T.Control; min = (fin false 0 (pos 0)); max = (fin false 1 (pos 0)); feed = (F.Output 0) } ∷ record { target = (A.Param 14); scope = S.Global; rate = T.Audio; min = (fin false 0 (pos 0)); max = (fin false 1 (pos 0)); feed = F.Nothing } ∷ record { target = (A.Param 21); scope = S.Global; rate = T.Control; min = (inf true); max = (inf false); feed = F.Nothing } ∷ record { target = (A.Param 28); scope = S.Global; rate = T.Control; min = (inf true); max = (fin false 0 (pos 0)); feed = (F.Amount 0) } ∷ record { target = (A.Param 35); scope = S.Voice; rate = T.Control; min = (fin false 0 (pos 0)); max = (fin false 1 (pos 0)); feed = (F.Source 9) } ∷ record { target = (A.Param 42); scope = S.Global; rate = T.Adaptive; min = (inf true); max = (inf false); feed = (F.Source 9) } ∷ [])
    (record { source = Some 0; source_curve = C.Linear; amount = (fin false 3074471 (negsuc 21)); polarity = Q.Bipolar; destination = Some (A.Param 14); aux = None; aux_invert = false; aux_curve = C.Linear; output = (fin false 1 (pos 0)); bypass = false } ∷ record { source = Some 6; source_curve = C.Table (fin false 5368709 (negsuc 28)) (fin false 1 (pos 0)); amount = (fin false 1 (pos 0)); polarity = Q.Bipolar; destination = Some (A.Param 21); aux = Some 4; aux_invert = true; aux_curve = C.Linear; output = (fin false 1 (pos 0)); bypass = false } ∷ record { source = Some 4; source_curve = C.Table (fin false 4097855 (negsuc 20)) (fin false 6617445 (pos 77)); amount = (fin false 0 (pos 0)); polarity = Q.Unipolar; destination = Some (A.Param 0); aux = None; aux_invert = false; aux_curve = C.Linear; output = (fin false 1 (negsuc 0)); bypass = false } ∷ unused ∷ record { source = Some 9; source_curve = C.Linear; amount = (fin true 7128691 (negsuc 25)); polarity = Q.Unipolar; destination = Some (A.Param 35); aux = None; aux_invert = false; aux_curve = C.Linear; output = (fin false 1 (pos 0)); bypass = false } ∷ unused ∷ record { source = Some 10; source_curve = C.Linear; amount = (fin true 15901461 (negsuc 23)); polarity = Q.Unipolar; destination = Some (A.Param 42); aux = None; aux_invert = false; aux_curve = C.Linear; output = (fin false 1 (pos 0)); bypass = false } ∷ [])

p47 : Compiles w47
    (record { dest = 0; voice = false; audio = false; min = (fin false 0 (pos 0)); max = (fin false 1 (pos 0)); base = B.Set; first = 0; count = 1 } ∷ record { dest = 3; voice = false; audio = false; min = (inf true); max = (inf false); base = B.Set; first = 1; count = 1 } ∷ record { dest = 6; voice = false; audio = false; min = (inf true); max = (inf false); base = B.Held 9; first = 2; count = 1 } ∷ record { dest = 5; voice = true; audio = false; min = (fin false 0 (pos 0)); max = (fin false 1 (pos 0)); base = B.Held 9; first = 3; count = 1 } ∷ record { dest = 2; voice = false; audio = true; min = (fin false 0 (pos 0)); max = (fin false 1 (pos 0)); base = B.Set; first = 4; count = 1 } ∷ [])
    4
    (record { slot = 2; source = record { read = D.Held 4 true; bipolar = false; table = true; slew = Some (record { up = (fin false 4293023 (negsuc 28)); down = (fin false 332307 (negsuc 123)) }) }; aux = None; aux_invert = false; bipolar = false; amount = G.Live; output = G.Live; voice = true; scale = (fin false 1 (pos 0)); offset = (fin false 0 (pos 0)); simple = false } ∷ record { slot = 1; source = record { read = D.Held 6 true; bipolar = false; table = true; slew = Some (record { up = (fin false 25 (negsuc 3)); down = (fin false 1 (negsuc 5)) }) }; aux = Some (record { read = D.Held 4 true; bipolar = false; table = false; slew = None }); aux_invert = true; bipolar = true; amount = G.Live; output = G.Live; voice = true; scale = (fin false 1 (pos 1)); offset = (fin true 1 (pos 0)); simple = false } ∷ record { slot = 6; source = record { read = D.Held 10 true; bipolar = false; table = false; slew = None }; aux = None; aux_invert = false; bipolar = false; amount = G.Live; output = G.Live; voice = true; scale = (fin false 1 (pos 0)); offset = (fin false 0 (pos 0)); simple = false } ∷ record { slot = 4; source = record { read = D.Fed 2 false; bipolar = true; table = false; slew = None }; aux = None; aux_invert = false; bipolar = false; amount = G.Live; output = G.Live; voice = false; scale = (fin false 1 (negsuc 0)); offset = (fin false 1 (negsuc 0)); simple = false } ∷ record { slot = 0; source = record { read = D.Held 0 true; bipolar = false; table = false; slew = None }; aux = None; aux_invert = false; bipolar = true; amount = G.Live; output = G.Live; voice = true; scale = (fin false 1 (pos 1)); offset = (fin true 1 (pos 0)); simple = false } ∷ [])
    ([])
unfolding w47 target_place verdict verdicts_from verdicts candidates skipped_of in_use counted_feed used_dests feeder_of readers_of reads hears_audio is_audio controls audios plan_order slew_for input_by route_by route_in plan_by plans_of all_routes order seconds_of rate_per_sample max32 is_nan lt eq mul div
p47 = (refl, refl, refl, refl)

-- gen.py 32
w48 : Wiring
w48 =
    wired (fin false 1 (pos 6))
    (source (K.Constant) S.Global R.Unipolar ∷ source (K.Velocity) S.Voice R.Unipolar ∷ source (K.VoiceLoad) S.Global R.Bipolar ∷ source (K.VoiceLoad) S.Global R.Unipolar ∷ source (K.Key) S.Voice R.Unipolar ∷ source (K.Audio) S.Voice R.Bipolar ∷ source (K.Audio) S.Voice R.Bipolar ∷ source (K.Signal) S.Voice R.Unipolar ∷ source (K.Signal) S.Global R.Unipolar ∷ source (K.Held) S.Global R.Unipolar ∷ source (K.Velocity) S.Voice R.Unipolar ∷ [])
    (record { target = (A.LfoBus 0 0); scope = S.Voice; rate = T.Audio; min = (fin false 4748821 (negsuc 21)); max = (fin false 11369727 (negsuc 21)); feed = F.Nothing } ∷ record { target = (A.Param 7); scope = S.Global; rate = T.Control; min = (fin true 1 (pos 0)); max = (fin false 1 (pos 0)); feed = (F.Source 5) } ∷ record { target = (A.LfoBus 2 0); scope = S.Voice; rate = T.Audio; min = (inf true); max = (inf false); feed = (F.Source 9) } ∷ record { target = (A.LfoBus 3 0); scope = S.Voice; rate = T.Audio; min = (inf true); max = (inf false); feed = (F.Source 9) } ∷ [])
    (record { source = Some 5; source_curve = C.Table (fin false 1 (negsuc 0)) (fin false 1 (pos 0)); amount = (fin true 6613919 (negsuc 23)); polarity = Q.Unipolar; destination = Some (A.LfoBus 0 0); aux = None; aux_invert = false; aux_curve = C.Linear; output = (fin false 1 (pos 0)); bypass = false } ∷ record { source = Some 9; source_curve = C.Linear; amount = (fin false 1 (negsuc 0)); polarity = Q.Bipolar; destination = Some (A.LfoBus 2 0); aux = None; aux_invert = false; aux_curve = C.Linear; output = (fin false 1 (pos 0)); bypass = false } ∷ record { source = Some 2; source_curve = C.Linear; amount = (fin false 1 (negsuc 0)); polarity = Q.Unipolar; destination = Some (A.Param 7); aux = Some 9; aux_invert = false; aux_curve = C.Table (fin false 0 (pos 0)) (fin false 0 (pos 0)); output = (fin false 1 (pos 0)); bypass = false } ∷ record { source = Some 65535; source_curve = C.Table (fin false 0 (pos 0)) (fin false 0 (pos 0)); amount = (fin true 1 (pos 0)); polarity = Q.Unipolar; destination = Some (A.LfoBus 0 0); aux = Some 5; aux_invert = false; aux_curve = C.Linear; output = (fin false 1 (pos 0)); bypass = false } ∷ record { source = None; source_curve = C.Linear; amount = (fin false 0 (pos 0)); polarity = Q.Unipolar; destination = None; aux = None; aux_invert = false; aux_curve = C.Linear; output = (fin false 1 (pos 0)); bypass = false } ∷ record { source = Some 5; source_curve = C.Linear; amount = (fin false 3120117 (negsuc 21)); polarity = Q.Unipolar; destination = Some (A.Param 7); aux = None; aux_invert = false; aux_curve = C.Linear; output = (fin false 1 (pos 0)); bypass = false } ∷ record { source = Some 7; source_curve = C.Table (fin false 6617445 (pos 77)) (fin false 1 (negsuc 0)); amount = (fin false 1 (pos 0)); polarity = Q.Unipolar; destination = Some (A.LfoBus 0 0); aux = None; aux_invert = false; aux_curve = C.Linear; output = (fin false 1 (pos 0)); bypass = false } ∷ record { source = Some 10; source_curve = C.Linear; amount = (fin false 1 (negsuc 0)); polarity = Q.Unipolar; destination = Some (A.LfoBus 3 0); aux = None; aux_invert = false; aux_curve = C.Linear; output = (fin false 1 (pos 0)); bypass = false } ∷ [])

p48 : Compiles w48
    (record { dest = 3; voice = true; audio = false; min = (inf true); max = (inf false); base = B.Held 9; first = 0; count = 1 } ∷ record { dest = 1; voice = false; audio = false; min = (fin true 1 (pos 0)); max = (fin false 1 (pos 0)); base = B.Set; first = 1; count = 2 } ∷ record { dest = 2; voice = true; audio = false; min = (inf true); max = (inf false); base = B.Held 9; first = 3; count = 1 } ∷ record { dest = 0; voice = true; audio = true; min = (fin false 4748821 (negsuc 21)); max = (fin false 11369727 (negsuc 21)); base = B.Set; first = 4; count = 2 } ∷ [])
    3
    (record { slot = 7; source = record { read = D.Held 10 true; bipolar = false; table = false; slew = None }; aux = None; aux_invert = false; bipolar = false; amount = G.Live; output = G.Live; voice = true; scale = (fin false 1 (pos 0)); offset = (fin false 0 (pos 0)); simple = true } ∷ record { slot = 2; source = record { read = D.Held 2 false; bipolar = true; table = false; slew = None }; aux = Some (record { read = D.Fed 0 true; bipolar = false; table = true; slew = None }); aux_invert = false; bipolar = false; amount = G.Live; output = G.Live; voice = true; scale = (fin false 1 (negsuc 0)); offset = (fin false 1 (negsuc 0)); simple = false } ∷ record { slot = 5; source = record { read = D.Signal 5 true; bipolar = true; table = false; slew = None }; aux = None; aux_invert = false; bipolar = false; amount = G.Live; output = G.Live; voice = true; scale = (fin false 1 (negsuc 0)); offset = (fin false 1 (negsuc 0)); simple = false } ∷ record { slot = 1; source = record { read = D.Fed 0 true; bipolar = false; table = false; slew = None }; aux = None; aux_invert = false; bipolar = true; amount = G.Live; output = G.Live; voice = true; scale = (fin false 1 (pos 1)); offset = (fin true 1 (pos 0)); simple = true } ∷ record { slot = 0; source = record { read = D.Signal 5 true; bipolar = true; table = true; slew = Some (record { up = (fin false 1 (negsuc 4)); down = (fin false 1 (negsuc 5)) }) }; aux = None; aux_invert = false; bipolar = false; amount = G.Live; output = G.Live; voice = true; scale = (fin false 1 (negsuc 0)); offset = (fin false 1 (negsuc 0)); simple = false } ∷ record { slot = 6; source = record { read = D.Signal 7 true; bipolar = false; table = true; slew = Some (record { up = (fin false 332307 (negsuc 123)); down = (fin false 1 (negsuc 4)) }) }; aux = None; aux_invert = false; bipolar = false; amount = G.Live; output = G.Live; voice = true; scale = (fin false 1 (pos 0)); offset = (fin false 0 (pos 0)); simple = false } ∷ [])
    (record { slot = 3; reason = E.UnknownSource } ∷ [])
unfolding w48 target_place verdict verdicts_from verdicts candidates skipped_of in_use counted_feed used_dests feeder_of readers_of reads hears_audio is_audio controls audios plan_order slew_for input_by route_by route_in plan_by plans_of all_routes order seconds_of rate_per_sample max32 is_nan lt eq mul div
p48 = (refl, refl, refl, refl)

-- gen.py 34
w49 : Wiring
w49 =
    wired (fin false 1 (pos 6))
    (source (K.ReleaseVelocity) S.Voice R.Unipolar ∷ source (K.Key) S.Global R.Unipolar ∷ source (K.Velocity) S.Voice R.Unipolar ∷ source (K.Key) S.Voice R.Unipolar ∷ source (K.Velocity) S.Voice R.Bipolar ∷ [])
    (record { target = (A.Param 0); scope = S.Global; rate = T.Control; min = (fin true 1 (pos 0)); max = (fin false 1 (pos 0)); feed = F.Nothing } ∷ record { target = (A.Param 7); scope = S.Global; rate = T.Adaptive; min = (fin false 0 (pos 0)); max = (fin false 1 (pos 0)); feed = (F.Source 1) } ∷ record { target = (A.Param 14); scope = S.Global; rate = T.Control; min = (fin true 0 (pos 0)); max = (fin false 1 (pos 0)); feed = (F.Output 3) } ∷ record { target = (A.LfoBus 3 0); scope = S.Voice; rate = T.Control; min = (inf true); max = (inf false); feed = F.Nothing } ∷ record { target = (A.Param 28); scope = S.Voice; rate = T.Control; min = (inf true); max = (inf false); feed = F.Nothing } ∷ [])
    (record { source = Some 0; source_curve = C.Linear; amount = (fin true 1 (negsuc 0)); polarity = Q.Bipolar; destination = Some (A.Param 0); aux = None; aux_invert = false; aux_curve = C.Linear; output = (fin false 1 (pos 0)); bypass = false } ∷ record { source = Some 3; source_curve = C.Linear; amount = (fin false 1 (negsuc 0)); polarity = Q.Unipolar; destination = Some (A.LfoBus 3 0); aux = None; aux_invert = false; aux_curve = C.Linear; output = (fin false 1 (pos 0)); bypass = false } ∷ record { source = Some 2; source_curve = C.Table (fin false 1 (negsuc 0)) (fin false 10497613 (negsuc 20)); amount = (fin true 1 (pos 0)); polarity = Q.Unipolar; destination = Some (A.Param 14); aux = None; aux_invert = false; aux_curve = C.Linear; output = (fin false 1 (pos 0)); bypass = false } ∷ record { source = Some 1; source_curve = C.Table (fin false 9624269 (negsuc 19)) (fin false 0 (pos 0)); amount = (fin false 1 (pos 0)); polarity = Q.Unipolar; destination = Some (A.Param 7); aux = Some 1; aux_invert = true; aux_curve = C.Table (fin false 1 (negsuc 5)) (fin false 6617445 (pos 77)); output = (fin false 1 (pos 0)); bypass = false } ∷ record { source = Some 1; source_curve = C.Table (fin false 1 (negsuc 5)) (fin false 0 (pos 0)); amount = (fin false 1 (pos 0)); polarity = Q.Bipolar; destination = Some (A.Param 14); aux = Some 2; aux_invert = true; aux_curve = C.Table (fin false 1 (negsuc 5)) (fin false 332307 (negsuc 117)); output = (fin true 0 (pos 0)); bypass = false } ∷ record { source = Some 1; source_curve = C.Linear; amount = (fin true 0 (pos 0)); polarity = Q.Unipolar; destination = Some (A.Param 14); aux = None; aux_invert = false; aux_curve = C.Linear; output = (fin false 1 (pos 0)); bypass = false } ∷ record { source = Some 4; source_curve = C.Linear; amount = (fin false 1 (pos 0)); polarity = Q.Unipolar; destination = Some (A.Param 28); aux = None; aux_invert = false; aux_curve = C.Linear; output = (fin false 1 (pos 0)); bypass = false } ∷ [])

p49 : Compiles w49
    (record { dest = 0; voice = false; audio = false; min = (fin true 1 (pos 0)); max = (fin false 1 (pos 0)); base = B.Set; first = 0; count = 1 } ∷ record { dest = 2; voice = false; audio = false; min = (fin true 0 (pos 0)); max = (fin false 1 (pos 0)); base = B.Output 3; first = 1; count = 3 } ∷ record { dest = 1; voice = false; audio = false; min = (fin false 0 (pos 0)); max = (fin false 1 (pos 0)); base = B.Set; first = 4; count = 1 } ∷ record { dest = 3; voice = true; audio = false; min = (inf true); max = (inf false); base = B.Set; first = 5; count = 1 } ∷ record { dest = 4; voice = true; audio = false; min = (inf true); max = (inf false); base = B.Set; first = 6; count = 1 } ∷ [])
    5
    (record { slot = 0; source = record { read = D.Held 0 true; bipolar = false; table = false; slew = None }; aux = None; aux_invert = false; bipolar = true; amount = G.Live; output = G.Live; voice = true; scale = (fin false 1 (pos 1)); offset = (fin true 1 (pos 0)); simple = false } ∷ record { slot = 2; source = record { read = D.Held 2 true; bipolar = false; table = true; slew = Some (record { up = (fin false 1 (negsuc 4)); down = (fin false 6703309 (negsuc 30)) }) }; aux = None; aux_invert = false; bipolar = false; amount = G.Live; output = G.Live; voice = true; scale = (fin false 1 (pos 0)); offset = (fin false 0 (pos 0)); simple = false } ∷ record { slot = 4; source = record { read = D.Held 1 false; bipolar = false; table = true; slew = Some (record { up = (fin false 1 (pos 0)); down = (inf false) }) }; aux = Some (record { read = D.Held 2 true; bipolar = false; table = true; slew = Some (record { up = (fin false 1 (pos 0)); down = (fin false 6617445 (pos 71)) }) }); aux_invert = true; bipolar = true; amount = G.Live; output = G.Live; voice = true; scale = (fin false 1 (pos 1)); offset = (fin true 1 (pos 0)); simple = false } ∷ record { slot = 5; source = record { read = D.Held 1 false; bipolar = false; table = false; slew = None }; aux = None; aux_invert = false; bipolar = false; amount = G.Live; output = G.Live; voice = false; scale = (fin false 1 (pos 0)); offset = (fin false 0 (pos 0)); simple = false } ∷ record { slot = 3; source = record { read = D.Held 1 false; bipolar = false; table = true; slew = Some (record { up = (fin false 14623187 (negsuc 32)); down = (inf false) }) }; aux = Some (record { read = D.Held 1 false; bipolar = false; table = true; slew = Some (record { up = (fin false 1 (pos 0)); down = (fin false 332307 (negsuc 123)) }) }); aux_invert = true; bipolar = false; amount = G.Live; output = G.Fed 1 false; voice = false; scale = (fin false 1 (pos 0)); offset = (fin false 0 (pos 0)); simple = false } ∷ record { slot = 1; source = record { read = D.Held 3 true; bipolar = false; table = false; slew = None }; aux = None; aux_invert = false; bipolar = false; amount = G.Live; output = G.Live; voice = true; scale = (fin false 1 (pos 0)); offset = (fin false 0 (pos 0)); simple = true } ∷ record { slot = 6; source = record { read = D.Held 4 true; bipolar = true; table = false; slew = None }; aux = None; aux_invert = false; bipolar = false; amount = G.Live; output = G.Live; voice = true; scale = (fin false 1 (negsuc 0)); offset = (fin false 1 (negsuc 0)); simple = true } ∷ [])
    ([])
unfolding w49 target_place verdict verdicts_from verdicts candidates skipped_of in_use counted_feed used_dests feeder_of readers_of reads hears_audio is_audio controls audios plan_order slew_for input_by route_by route_in plan_by plans_of all_routes order seconds_of rate_per_sample max32 is_nan lt eq mul div
p49 = (refl, refl, refl, refl)

-- gen.py 45
w50 : Wiring
w50 =
    wired (fin false 1 (pos 6))
    (source (K.Held) S.Global R.Unipolar ∷ source (K.Held) S.Global R.Unipolar ∷ source (K.Signal) S.Global R.Unipolar ∷ source (K.Held) S.Global R.Unipolar ∷ source (K.ReleaseVelocity) S.Voice R.Unipolar ∷ [])
    (record { target = (A.Param 0); scope = S.Voice; rate = T.Control; min = (fin false 0 (pos 0)); max = (fin false 1 (pos 0)); feed = F.Nothing } ∷ record { target = (A.Param 7); scope = S.Voice; rate = T.Control; min = (inf true); max = (inf false); feed = (F.Amount 0) } ∷ record { target = (A.Param 14); scope = S.Global; rate = T.Control; min = (fin false 0 (pos 0)); max = (fin false 1 (pos 0)); feed = (F.Amount 0) } ∷ record { target = (A.LfoBus 3 0); scope = S.Global; rate = T.Audio; min = (inf true); max = (inf false); feed = (F.Source 1) } ∷ record { target = (A.Param 28); scope = S.Global; rate = T.Adaptive; min = (fin false 0 (pos 0)); max = (fin false 1 (pos 0)); feed = (F.Amount 1) } ∷ record { target = (A.LfoBus 5 0); scope = S.Global; rate = T.Control; min = (fin false 12786621 (negsuc 25)); max = (fin false 1248367 (negsuc 19)); feed = F.Nothing } ∷ record { target = (A.Param 42); scope = S.Global; rate = T.Control; min = (inf true); max = (inf false); feed = F.Nothing } ∷ [])
    (record { source = Some 4; source_curve = C.Linear; amount = (fin false 8927507 (negsuc 23)); polarity = Q.Bipolar; destination = Some (A.Param 28); aux = None; aux_invert = false; aux_curve = C.Linear; output = (fin false 1 (pos 0)); bypass = false } ∷ record { source = Some 3; source_curve = C.Linear; amount = (fin false 9400281 (negsuc 26)); polarity = Q.Unipolar; destination = Some (A.Param 14); aux = None; aux_invert = false; aux_curve = C.Linear; output = (fin false 1 (pos 0)); bypass = false } ∷ [])

p50 : Compiles w50
    (record { dest = 2; voice = false; audio = false; min = (fin false 0 (pos 0)); max = (fin false 1 (pos 0)); base = B.Amount 0; first = 0; count = 1 } ∷ record { dest = 4; voice = false; audio = false; min = (fin false 0 (pos 0)); max = (fin false 1 (pos 0)); base = B.Amount 1; first = 1; count = 1 } ∷ [])
    2
    (record { slot = 1; source = record { read = D.Held 3 false; bipolar = false; table = false; slew = None }; aux = None; aux_invert = false; bipolar = false; amount = G.Fed 1 false; output = G.Live; voice = false; scale = (fin false 1 (pos 0)); offset = (fin false 0 (pos 0)); simple = false } ∷ record { slot = 0; source = record { read = D.Held 4 true; bipolar = false; table = false; slew = None }; aux = None; aux_invert = false; bipolar = true; amount = G.Fed 0 false; output = G.Live; voice = true; scale = (fin false 1 (pos 1)); offset = (fin true 1 (pos 0)); simple = false } ∷ [])
    ([])
unfolding w50 target_place verdict verdicts_from verdicts candidates skipped_of in_use counted_feed used_dests feeder_of readers_of reads hears_audio is_audio controls audios plan_order slew_for input_by route_by route_in plan_by plans_of all_routes order seconds_of rate_per_sample max32 is_nan lt eq mul div
p50 = (refl, refl, refl, refl)

-- gen.py 45
w51 : Wiring
w51 =
    wired (fin false 1 (pos 6))
    (source (K.Held) S.Global R.Unipolar ∷ source (K.Held) S.Global R.Unipolar ∷ source (K.Signal) S.Global R.Unipolar ∷ source (K.Held) S.Global R.Unipolar ∷ source (K.ReleaseVelocity) S.Voice R.Unipolar ∷ [])
    (record { target = (A.Param 0); scope = S.Voice; rate = T.Control; min = (fin false 0 (pos 0)); max = (fin false 1 (pos 0)); feed = F.Nothing } ∷ record { target = (A.Param 7); scope = S.Voice; rate = T.Control; min = (inf true); max = (inf false); feed = (F.Amount 0) } ∷ record { target = (A.Param 14); scope = S.Global; rate = T.Control; min = (fin false 0 (pos 0)); max = (fin false 1 (pos 0)); feed = (F.Amount 0) } ∷ record { target = (A.LfoBus 3 0); scope = S.Global; rate = T.Audio; min = (inf true); max = (inf false); feed = (F.Source 1) } ∷ record { target = (A.Param 28); scope = S.Global; rate = T.Adaptive; min = (fin false 0 (pos 0)); max = (fin false 1 (pos 0)); feed = (F.Amount 1) } ∷ record { target = (A.LfoBus 5 0); scope = S.Global; rate = T.Control; min = (fin false 12786621 (negsuc 25)); max = (fin false 1248367 (negsuc 19)); feed = F.Nothing } ∷ record { target = (A.Param 42); scope = S.Global; rate = T.Control; min = (inf true); max = (inf false); feed = F.Nothing } ∷ [])
    (record { source = Some 2; source_curve = C.Linear; amount = (fin false 1 (pos 0)); polarity = Q.Unipolar; destination = Some (A.Param 7); aux = Some 3; aux_invert = false; aux_curve = C.Linear; output = (fin false 1 (pos 0)); bypass = false } ∷ record { source = Some 1; source_curve = C.Table (fin false 0 (pos 0)) (fin false 0 (pos 0)); amount = (fin false 1 (pos 0)); polarity = Q.Bipolar; destination = Some (A.Param 28); aux = None; aux_invert = false; aux_curve = C.Linear; output = (fin false 14591193 (negsuc 23)); bypass = false } ∷ record { source = Some 1; source_curve = C.Linear; amount = (fin false 413445 (negsuc 18)); polarity = Q.Bipolar; destination = Some (A.LfoBus 5 0); aux = None; aux_invert = false; aux_curve = C.Linear; output = (fin false 1 (pos 0)); bypass = false } ∷ [])

p51 : Compiles w51
    (record { dest = 1; voice = true; audio = false; min = (inf true); max = (inf false); base = B.Amount 0; first = 0; count = 1 } ∷ record { dest = 4; voice = false; audio = false; min = (fin false 0 (pos 0)); max = (fin false 1 (pos 0)); base = B.Amount 1; first = 1; count = 1 } ∷ record { dest = 5; voice = false; audio = false; min = (fin false 12786621 (negsuc 25)); max = (fin false 1248367 (negsuc 19)); base = B.Set; first = 2; count = 1 } ∷ [])
    3
    (record { slot = 0; source = record { read = D.Signal 2 false; bipolar = false; table = false; slew = None }; aux = Some (record { read = D.Held 3 false; bipolar = false; table = false; slew = None }); aux_invert = false; bipolar = false; amount = G.Fed 0 true; output = G.Live; voice = true; scale = (fin false 1 (pos 0)); offset = (fin false 0 (pos 0)); simple = false } ∷ record { slot = 1; source = record { read = D.Held 1 false; bipolar = false; table = true; slew = None }; aux = None; aux_invert = false; bipolar = true; amount = G.Fed 1 false; output = G.Live; voice = false; scale = (fin false 1 (pos 1)); offset = (fin true 1 (pos 0)); simple = false } ∷ record { slot = 2; source = record { read = D.Held 1 false; bipolar = false; table = false; slew = None }; aux = None; aux_invert = false; bipolar = true; amount = G.Live; output = G.Live; voice = false; scale = (fin false 1 (pos 1)); offset = (fin true 1 (pos 0)); simple = false } ∷ [])
    ([])
unfolding w51 target_place verdict verdicts_from verdicts candidates skipped_of in_use counted_feed used_dests feeder_of readers_of reads hears_audio is_audio controls audios plan_order slew_for input_by route_by route_in plan_by plans_of all_routes order seconds_of rate_per_sample max32 is_nan lt eq mul div
p51 = (refl, refl, refl, refl)

-- gen.py 45
w52 : Wiring
w52 =
    wired (fin false 1 (pos 6))
    (source (K.Held) S.Global R.Unipolar ∷ source (K.Held) S.Global R.Unipolar ∷ source (K.Signal) S.Global R.Unipolar ∷ source (K.Held) S.Global R.Unipolar ∷ source (K.ReleaseVelocity) S.Voice R.Unipolar ∷ [])
    (record { target = (A.Param 0); scope = S.Voice; rate = T.Control; min = (fin false 0 (pos 0)); max = (fin false 1 (pos 0)); feed = F.Nothing } ∷ record { target = (A.Param 7); scope = S.Voice; rate = T.Control; min = (inf true); max = (inf false); feed = (F.Amount 0) } ∷ record { target = (A.Param 14); scope = S.Global; rate = T.Control; min = (fin false 0 (pos 0)); max = (fin false 1 (pos 0)); feed = (F.Amount 0) } ∷ record { target = (A.LfoBus 3 0); scope = S.Global; rate = T.Audio; min = (inf true); max = (inf false); feed = (F.Source 1) } ∷ record { target = (A.Param 28); scope = S.Global; rate = T.Adaptive; min = (fin false 0 (pos 0)); max = (fin false 1 (pos 0)); feed = (F.Amount 1) } ∷ record { target = (A.LfoBus 5 0); scope = S.Global; rate = T.Control; min = (fin false 12786621 (negsuc 25)); max = (fin false 1248367 (negsuc 19)); feed = F.Nothing } ∷ record { target = (A.Param 42); scope = S.Global; rate = T.Control; min = (inf true); max = (inf false); feed = F.Nothing } ∷ [])
    (record { source = Some 2; source_curve = C.Linear; amount = (fin false 1 (pos 0)); polarity = Q.Unipolar; destination = Some (A.Param 7); aux = Some 3; aux_invert = false; aux_curve = C.Linear; output = (fin false 1 (pos 0)); bypass = false } ∷ record { source = Some 2; source_curve = C.Table (fin false 0 (pos 0)) (fin false 0 (pos 0)); amount = (fin false 0 (pos 0)); polarity = Q.Bipolar; destination = Some (A.LfoBus 3 0); aux = Some 1; aux_invert = false; aux_curve = C.Linear; output = (fin false 1 (negsuc 0)); bypass = false } ∷ record { source = Some 1; source_curve = C.Table (fin false 6617445 (pos 77)) (fin false 5368709 (negsuc 28)); amount = (fin true 1 (pos 0)); polarity = Q.Bipolar; destination = Some (A.Param 28); aux = Some 1; aux_invert = false; aux_curve = C.Linear; output = (fin false 1055485 (negsuc 23)); bypass = false } ∷ [])

p52 : Compiles w52
    (record { dest = 1; voice = true; audio = false; min = (inf true); max = (inf false); base = B.Amount 0; first = 0; count = 1 } ∷ record { dest = 3; voice = false; audio = false; min = (inf true); max = (inf false); base = B.Held 1; first = 1; count = 1 } ∷ record { dest = 4; voice = false; audio = false; min = (fin false 0 (pos 0)); max = (fin false 1 (pos 0)); base = B.Amount 1; first = 2; count = 1 } ∷ [])
    3
    (record { slot = 0; source = record { read = D.Signal 2 false; bipolar = false; table = false; slew = None }; aux = Some (record { read = D.Held 3 false; bipolar = false; table = false; slew = None }); aux_invert = false; bipolar = false; amount = G.Fed 0 true; output = G.Live; voice = true; scale = (fin false 1 (pos 0)); offset = (fin false 0 (pos 0)); simple = false } ∷ record { slot = 1; source = record { read = D.Signal 2 false; bipolar = false; table = true; slew = None }; aux = Some (record { read = D.Fed 1 false; bipolar = false; table = false; slew = None }); aux_invert = false; bipolar = true; amount = G.Fed 2 false; output = G.Live; voice = false; scale = (fin false 1 (pos 1)); offset = (fin true 1 (pos 0)); simple = false } ∷ record { slot = 2; source = record { read = D.Fed 1 false; bipolar = false; table = true; slew = Some (record { up = (fin false 332307 (negsuc 123)); down = (fin false 25 (negsuc 3)) }) }; aux = Some (record { read = D.Fed 1 false; bipolar = false; table = false; slew = None }); aux_invert = false; bipolar = true; amount = G.Live; output = G.Live; voice = false; scale = (fin false 1 (pos 1)); offset = (fin true 1 (pos 0)); simple = false } ∷ [])
    ([])
unfolding w52 target_place verdict verdicts_from verdicts candidates skipped_of in_use counted_feed used_dests feeder_of readers_of reads hears_audio is_audio controls audios plan_order slew_for input_by route_by route_in plan_by plans_of all_routes order seconds_of rate_per_sample max32 is_nan lt eq mul div
p52 = (refl, refl, refl, refl)

-- gen.py 47
w53 : Wiring
w53 =
    wired (fin false 1 (pos 0))
    (source (K.Held) S.Global R.Unipolar ∷ source (K.Held) S.Global R.Unipolar ∷ source (K.Held) S.Global R.Unipolar ∷ source (K.Constant) S.Global R.Bipolar ∷ source (K.RandomPerRoute) S.Voice R.Unipolar ∷ source (K.Held) S.Global R.Unipolar ∷ source (K.Key) S.Voice R.Unipolar ∷ source (K.Held) S.Voice R.Unipolar ∷ source (K.Held) S.Global R.Unipolar ∷ source (K.Audio) S.Voice R.Bipolar ∷ source (K.Held) S.Global R.Unipolar ∷ [])
    (record { target = (A.Param 0); scope = S.Voice; rate = T.Control; min = (inf true); max = (fin false 0 (pos 0)); feed = (F.Amount 0) } ∷ record { target = (A.Param 7); scope = S.Global; rate = T.Adaptive; min = (fin false 11577881 (negsuc 22)); max = (inf false); feed = F.Nothing } ∷ record { target = (A.Param 14); scope = S.Voice; rate = T.Control; min = (fin false 2413261 (negsuc 20)); max = (fin false 5764839 (negsuc 20)); feed = (F.Source 8) } ∷ record { target = (A.Param 21); scope = S.Voice; rate = T.Audio; min = (fin false 0 (pos 0)); max = (fin false 1 (pos 0)); feed = (F.Amount 0) } ∷ record { target = (A.LfoBus 4 0); scope = S.Global; rate = T.Control; min = (fin false 0 (pos 0)); max = (fin false 1 (pos 0)); feed = F.Nothing } ∷ record { target = (A.Param 35); scope = S.Global; rate = T.Control; min = (fin false 0 (pos 0)); max = (fin false 1 (pos 0)); feed = (F.Amount 9) } ∷ record { target = (A.Param 42); scope = S.Voice; rate = T.Audio; min = (fin false 0 (pos 0)); max = (fin false 1 (pos 0)); feed = (F.Output 8) } ∷ record { target = (A.Param 49); scope = S.Global; rate = T.Control; min = (inf true); max = (inf false); feed = (F.Amount 0) } ∷ [])
    (record { source = Some 1; source_curve = C.Linear; amount = (fin false 0 (pos 0)); polarity = Q.Bipolar; destination = Some (A.Param 49); aux = None; aux_invert = false; aux_curve = C.Linear; output = (fin false 1 (pos 0)); bypass = false } ∷ record { source = Some 7; source_curve = C.Linear; amount = (fin false 1 (negsuc 0)); polarity = Q.Unipolar; destination = Some (A.Param 21); aux = None; aux_invert = false; aux_curve = C.Linear; output = (fin false 1 (negsuc 0)); bypass = false } ∷ record { source = Some 8; source_curve = C.Table (fin false 0 (pos 0)) (fin false 0 (pos 0)); amount = (fin false 1 (negsuc 0)); polarity = Q.Bipolar; destination = Some (A.Param 14); aux = None; aux_invert = false; aux_curve = C.Linear; output = (fin false 1 (pos 0)); bypass = true } ∷ record { source = Some 8; source_curve = C.Linear; amount = (fin false 16323989 (negsuc 24)); polarity = Q.Bipolar; destination = Some (A.Param 42); aux = None; aux_invert = false; aux_curve = C.Linear; output = (fin false 1 (pos 0)); bypass = false } ∷ record { source = Some 8; source_curve = C.Table (fin false 0 (pos 0)) (fin false 0 (pos 0)); amount = (fin false 0 (pos 0)); polarity = Q.Unipolar; destination = Some (A.LfoBus 4 0); aux = None; aux_invert = false; aux_curve = C.Linear; output = (fin false 1 (pos 0)); bypass = false } ∷ record { source = Some 6; source_curve = C.Table (fin false 0 (pos 0)) (fin false 0 (pos 0)); amount = (fin false 0 (pos 0)); polarity = Q.Unipolar; destination = Some (A.Param 14); aux = Some 9; aux_invert = true; aux_curve = C.Linear; output = (fin false 1 (pos 0)); bypass = false } ∷ record { source = Some 8; source_curve = C.Table (fin false 6617445 (pos 77)) (fin false 1 (negsuc 0)); amount = (fin false 1 (negsuc 0)); polarity = Q.Bipolar; destination = Some (A.Param 42); aux = None; aux_invert = false; aux_curve = C.Linear; output = (fin false 5598635 (negsuc 23)); bypass = true } ∷ record { source = Some 8; source_curve = C.Linear; amount = (fin false 2633097 (negsuc 21)); polarity = Q.Bipolar; destination = Some (A.Param 42); aux = None; aux_invert = false; aux_curve = C.Linear; output = (fin false 11375051 (negsuc 24)); bypass = true } ∷ record { source = Some 8; source_curve = C.Linear; amount = (fin true 1 (pos 0)); polarity = Q.Bipolar; destination = Some (A.LfoBus 4 0); aux = None; aux_invert = false; aux_curve = C.Linear; output = (fin false 1 (pos 0)); bypass = false } ∷ record { source = None; source_curve = C.Linear; amount = (fin false 0 (pos 0)); polarity = Q.Unipolar; destination = None; aux = None; aux_invert = false; aux_curve = C.Linear; output = (fin false 1 (pos 0)); bypass = false } ∷ record { source = Some 8; source_curve = C.Table (fin false 0 (pos 0)) (fin false 0 (pos 0)); amount = (fin true 1 (pos 0)); polarity = Q.Unipolar; destination = Some (A.Param 42); aux = None; aux_invert = false; aux_curve = C.Linear; output = (fin false 1 (pos 0)); bypass = false } ∷ record { source = Some 8; source_curve = C.Table (fin false 0 (pos 0)) (fin false 0 (pos 0)); amount = (fin false 1485869 (negsuc 20)); polarity = Q.Unipolar; destination = Some (A.LfoBus 4 0); aux = None; aux_invert = false; aux_curve = C.Linear; output = (fin false 1 (pos 0)); bypass = false } ∷ [])

p53 : Compiles w53
    (record { dest = 2; voice = true; audio = false; min = (fin false 2413261 (negsuc 20)); max = (fin false 5764839 (negsuc 20)); base = B.Held 8; first = 0; count = 1 } ∷ record { dest = 3; voice = true; audio = false; min = (fin false 0 (pos 0)); max = (fin false 1 (pos 0)); base = B.Amount 0; first = 1; count = 1 } ∷ record { dest = 6; voice = true; audio = false; min = (fin false 0 (pos 0)); max = (fin false 1 (pos 0)); base = B.Output 8; first = 2; count = 2 } ∷ record { dest = 4; voice = false; audio = false; min = (fin false 0 (pos 0)); max = (fin false 1 (pos 0)); base = B.Set; first = 4; count = 3 } ∷ record { dest = 7; voice = false; audio = false; min = (inf true); max = (inf false); base = B.Amount 0; first = 7; count = 1 } ∷ [])
    5
    (record { slot = 5; source = record { read = D.Held 6 true; bipolar = false; table = true; slew = None }; aux = Some (record { read = D.Signal 9 true; bipolar = true; table = false; slew = None }); aux_invert = true; bipolar = false; amount = G.Live; output = G.Live; voice = true; scale = (fin false 1 (pos 0)); offset = (fin false 0 (pos 0)); simple = false } ∷ record { slot = 1; source = record { read = D.Held 7 true; bipolar = false; table = false; slew = None }; aux = None; aux_invert = false; bipolar = false; amount = G.Live; output = G.Live; voice = true; scale = (fin false 1 (pos 0)); offset = (fin false 0 (pos 0)); simple = true } ∷ record { slot = 3; source = record { read = D.Fed 0 true; bipolar = false; table = false; slew = None }; aux = None; aux_invert = false; bipolar = true; amount = G.Live; output = G.Live; voice = true; scale = (fin false 1 (pos 1)); offset = (fin true 1 (pos 0)); simple = true } ∷ record { slot = 10; source = record { read = D.Fed 0 true; bipolar = false; table = true; slew = None }; aux = None; aux_invert = false; bipolar = false; amount = G.Live; output = G.Live; voice = true; scale = (fin false 1 (pos 0)); offset = (fin false 0 (pos 0)); simple = false } ∷ record { slot = 4; source = record { read = D.Fed 0 true; bipolar = false; table = true; slew = None }; aux = None; aux_invert = false; bipolar = false; amount = G.Live; output = G.Live; voice = true; scale = (fin false 1 (pos 0)); offset = (fin false 0 (pos 0)); simple = false } ∷ record { slot = 8; source = record { read = D.Fed 0 true; bipolar = false; table = false; slew = None }; aux = None; aux_invert = false; bipolar = true; amount = G.Live; output = G.Fed 2 true; voice = true; scale = (fin false 1 (pos 1)); offset = (fin true 1 (pos 0)); simple = false } ∷ record { slot = 11; source = record { read = D.Fed 0 true; bipolar = false; table = true; slew = None }; aux = None; aux_invert = false; bipolar = false; amount = G.Live; output = G.Live; voice = true; scale = (fin false 1 (pos 0)); offset = (fin false 0 (pos 0)); simple = false } ∷ record { slot = 0; source = record { read = D.Held 1 false; bipolar = false; table = false; slew = None }; aux = None; aux_invert = false; bipolar = true; amount = G.Fed 4 false; output = G.Live; voice = false; scale = (fin false 1 (pos 1)); offset = (fin true 1 (pos 0)); simple = false } ∷ [])
    ([])
unfolding w53 target_place verdict verdicts_from verdicts candidates skipped_of in_use counted_feed used_dests feeder_of readers_of reads hears_audio is_audio controls audios plan_order slew_for input_by route_by route_in plan_by plans_of all_routes order seconds_of rate_per_sample max32 is_nan lt eq mul div
p53 = (refl, refl, refl, refl)

-- gen.py 47
w54 : Wiring
w54 =
    wired (fin false 1 (pos 0))
    (source (K.Held) S.Global R.Unipolar ∷ source (K.Held) S.Global R.Unipolar ∷ source (K.Held) S.Global R.Unipolar ∷ source (K.Constant) S.Global R.Bipolar ∷ source (K.RandomPerRoute) S.Voice R.Unipolar ∷ source (K.Held) S.Global R.Unipolar ∷ source (K.Key) S.Voice R.Unipolar ∷ source (K.Held) S.Voice R.Unipolar ∷ source (K.Held) S.Global R.Unipolar ∷ source (K.Audio) S.Voice R.Bipolar ∷ source (K.Held) S.Global R.Unipolar ∷ [])
    (record { target = (A.Param 0); scope = S.Voice; rate = T.Control; min = (inf true); max = (fin false 0 (pos 0)); feed = (F.Amount 0) } ∷ record { target = (A.Param 7); scope = S.Global; rate = T.Adaptive; min = (fin false 11577881 (negsuc 22)); max = (inf false); feed = F.Nothing } ∷ record { target = (A.Param 14); scope = S.Voice; rate = T.Control; min = (fin false 2413261 (negsuc 20)); max = (fin false 5764839 (negsuc 20)); feed = (F.Source 8) } ∷ record { target = (A.Param 21); scope = S.Voice; rate = T.Audio; min = (fin false 0 (pos 0)); max = (fin false 1 (pos 0)); feed = (F.Amount 0) } ∷ record { target = (A.LfoBus 4 0); scope = S.Global; rate = T.Control; min = (fin false 0 (pos 0)); max = (fin false 1 (pos 0)); feed = F.Nothing } ∷ record { target = (A.Param 35); scope = S.Global; rate = T.Control; min = (fin false 0 (pos 0)); max = (fin false 1 (pos 0)); feed = (F.Amount 9) } ∷ record { target = (A.Param 42); scope = S.Voice; rate = T.Audio; min = (fin false 0 (pos 0)); max = (fin false 1 (pos 0)); feed = (F.Output 8) } ∷ record { target = (A.Param 49); scope = S.Global; rate = T.Control; min = (inf true); max = (inf false); feed = (F.Amount 0) } ∷ [])
    (record { source = Some 4; source_curve = C.Linear; amount = (fin true 15177187 (negsuc 24)); polarity = Q.Bipolar; destination = Some (A.Param 49); aux = None; aux_invert = false; aux_curve = C.Linear; output = (fin false 1 (pos 0)); bypass = false } ∷ record { source = Some 7; source_curve = C.Linear; amount = (fin false 1 (negsuc 0)); polarity = Q.Unipolar; destination = Some (A.Param 21); aux = None; aux_invert = false; aux_curve = C.Linear; output = (fin false 1 (negsuc 0)); bypass = false } ∷ record { source = Some 8; source_curve = C.Table (fin false 0 (pos 0)) (fin false 0 (pos 0)); amount = (fin false 1 (negsuc 0)); polarity = Q.Bipolar; destination = Some (A.Param 14); aux = None; aux_invert = false; aux_curve = C.Linear; output = (fin false 1 (pos 0)); bypass = true } ∷ record { source = Some 8; source_curve = C.Linear; amount = (fin false 16323989 (negsuc 24)); polarity = Q.Bipolar; destination = Some (A.Param 42); aux = None; aux_invert = false; aux_curve = C.Linear; output = (fin false 1 (pos 0)); bypass = false } ∷ record { source = Some 8; source_curve = C.Table (fin false 0 (pos 0)) (fin false 0 (pos 0)); amount = (fin false 0 (pos 0)); polarity = Q.Unipolar; destination = Some (A.LfoBus 4 0); aux = None; aux_invert = false; aux_curve = C.Linear; output = (fin false 1 (pos 0)); bypass = false } ∷ record { source = Some 6; source_curve = C.Table (fin false 0 (pos 0)) (fin false 0 (pos 0)); amount = (fin false 0 (pos 0)); polarity = Q.Unipolar; destination = Some (A.Param 14); aux = Some 9; aux_invert = true; aux_curve = C.Linear; output = (fin false 1 (pos 0)); bypass = false } ∷ record { source = Some 8; source_curve = C.Table (fin false 6617445 (pos 77)) (fin false 1 (negsuc 0)); amount = (fin false 1 (negsuc 0)); polarity = Q.Bipolar; destination = Some (A.Param 42); aux = None; aux_invert = false; aux_curve = C.Linear; output = (fin false 5598635 (negsuc 23)); bypass = true } ∷ record { source = Some 8; source_curve = C.Linear; amount = (fin false 2633097 (negsuc 21)); polarity = Q.Bipolar; destination = Some (A.Param 42); aux = None; aux_invert = false; aux_curve = C.Linear; output = (fin false 11375051 (negsuc 24)); bypass = true } ∷ record { source = Some 10; source_curve = C.Table (fin true 0 (pos 0)) (fin false 1 (pos 0)); amount = (fin true 1 (pos 0)); polarity = Q.Bipolar; destination = Some (A.Param 21); aux = Some 3; aux_invert = true; aux_curve = C.Linear; output = (fin false 1 (pos 0)); bypass = false } ∷ record { source = Some 8; source_curve = C.Linear; amount = (fin true 13431299 (negsuc 23)); polarity = Q.Unipolar; destination = Some (A.Param 42); aux = None; aux_invert = false; aux_curve = C.Linear; output = (fin false 1 (pos 0)); bypass = false } ∷ record { source = Some 7; source_curve = C.Table (fin false 0 (pos 0)) (fin false 1 (pos 5)); amount = (fin false 1 (negsuc 0)); polarity = Q.Bipolar; destination = Some (A.Param 49); aux = None; aux_invert = false; aux_curve = C.Linear; output = (fin false 1460845 (negsuc 20)); bypass = false } ∷ record { source = Some 8; source_curve = C.Table (fin false 0 (pos 0)) (fin false 0 (pos 0)); amount = (fin true 1 (pos 0)); polarity = Q.Bipolar; destination = Some (A.Param 0); aux = None; aux_invert = false; aux_curve = C.Linear; output = (fin false 1 (pos 0)); bypass = false } ∷ [])

p54 : Compiles w54
    (record { dest = 2; voice = true; audio = false; min = (fin false 2413261 (negsuc 20)); max = (fin false 5764839 (negsuc 20)); base = B.Held 8; first = 0; count = 1 } ∷ record { dest = 0; voice = true; audio = false; min = (inf true); max = (fin false 0 (pos 0)); base = B.Amount 0; first = 1; count = 1 } ∷ record { dest = 4; voice = false; audio = false; min = (fin false 0 (pos 0)); max = (fin false 1 (pos 0)); base = B.Set; first = 2; count = 1 } ∷ record { dest = 6; voice = true; audio = false; min = (fin false 0 (pos 0)); max = (fin false 1 (pos 0)); base = B.Output 8; first = 3; count = 2 } ∷ record { dest = 3; voice = true; audio = false; min = (fin false 0 (pos 0)); max = (fin false 1 (pos 0)); base = B.Amount 0; first = 5; count = 2 } ∷ record { dest = 7; voice = false; audio = false; min = (inf true); max = (inf false); base = B.Amount 0; first = 7; count = 2 } ∷ [])
    6
    (record { slot = 5; source = record { read = D.Held 6 true; bipolar = false; table = true; slew = None }; aux = Some (record { read = D.Signal 9 true; bipolar = true; table = false; slew = None }); aux_invert = true; bipolar = false; amount = G.Live; output = G.Live; voice = true; scale = (fin false 1 (pos 0)); offset = (fin false 0 (pos 0)); simple = false } ∷ record { slot = 11; source = record { read = D.Fed 0 true; bipolar = false; table = true; slew = None }; aux = None; aux_invert = false; bipolar = true; amount = G.Live; output = G.Live; voice = true; scale = (fin false 1 (pos 1)); offset = (fin true 1 (pos 0)); simple = false } ∷ record { slot = 4; source = record { read = D.Fed 0 true; bipolar = false; table = true; slew = None }; aux = None; aux_invert = false; bipolar = false; amount = G.Live; output = G.Live; voice = true; scale = (fin false 1 (pos 0)); offset = (fin false 0 (pos 0)); simple = false } ∷ record { slot = 3; source = record { read = D.Fed 0 true; bipolar = false; table = false; slew = None }; aux = None; aux_invert = false; bipolar = true; amount = G.Live; output = G.Live; voice = true; scale = (fin false 1 (pos 1)); offset = (fin true 1 (pos 0)); simple = true } ∷ record { slot = 9; source = record { read = D.Fed 0 true; bipolar = false; table = false; slew = None }; aux = None; aux_invert = false; bipolar = false; amount = G.Live; output = G.Live; voice = true; scale = (fin false 1 (pos 0)); offset = (fin false 0 (pos 0)); simple = true } ∷ record { slot = 1; source = record { read = D.Held 7 true; bipolar = false; table = false; slew = None }; aux = None; aux_invert = false; bipolar = false; amount = G.Live; output = G.Live; voice = true; scale = (fin false 1 (pos 0)); offset = (fin false 0 (pos 0)); simple = true } ∷ record { slot = 8; source = record { read = D.Held 10 false; bipolar = false; table = true; slew = Some (record { up = (inf false); down = (fin false 1 (pos 0)) }) }; aux = Some (record { read = D.Constant; bipolar = true; table = false; slew = None }); aux_invert = true; bipolar = true; amount = G.Live; output = G.Fed 3 true; voice = true; scale = (fin false 1 (pos 1)); offset = (fin true 1 (pos 0)); simple = false } ∷ record { slot = 0; source = record { read = D.RouteRandom; bipolar = false; table = false; slew = None }; aux = None; aux_invert = false; bipolar = true; amount = G.Fed 5 false; output = G.Live; voice = true; scale = (fin false 1 (pos 1)); offset = (fin true 1 (pos 0)); simple = false } ∷ record { slot = 10; source = record { read = D.Held 7 true; bipolar = false; table = true; slew = Some (record { up = (inf false); down = (fin false 1 (negsuc 4)) }) }; aux = None; aux_invert = false; bipolar = true; amount = G.Live; output = G.Live; voice = true; scale = (fin false 1 (pos 1)); offset = (fin true 1 (pos 0)); simple = false } ∷ [])
    ([])
unfolding w54 target_place verdict verdicts_from verdicts candidates skipped_of in_use counted_feed used_dests feeder_of readers_of reads hears_audio is_audio controls audios plan_order slew_for input_by route_by route_in plan_by plans_of all_routes order seconds_of rate_per_sample max32 is_nan lt eq mul div
p54 = (refl, refl, refl, refl)

-- gen.py 52
w55 : Wiring
w55 =
    wired (fin false 125 (pos 3))
    (source (K.Held) S.Global R.Unipolar ∷ source (K.Signal) S.Global R.Unipolar ∷ source (K.Held) S.Voice R.Unipolar ∷ source (K.Held) S.Global R.Unipolar ∷ source (K.Held) S.Voice R.Unipolar ∷ source (K.Held) S.Voice R.Unipolar ∷ [])
    (record { target = (A.LfoBus 0 0); scope = S.Voice; rate = T.Control; min = (fin true 1 (pos 0)); max = (fin false 1 (pos 0)); feed = (F.Source 1) } ∷ record { target = (A.Param 7); scope = S.Voice; rate = T.Control; min = (fin false 0 (pos 0)); max = (fin false 1 (pos 0)); feed = (F.Source 1) } ∷ record { target = (A.Param 14); scope = S.Voice; rate = T.Audio; min = (fin false 0 (pos 0)); max = (fin false 1 (pos 0)); feed = F.Nothing } ∷ record { target = (A.Param 21); scope = S.Voice; rate = T.Audio; min = (fin false 0 (pos 0)); max = (fin false 1 (pos 0)); feed = (F.Source 0) } ∷ record { target = (A.Param 28); scope = S.Voice; rate = T.Control; min = (inf true); max = (inf false); feed = (F.Output 1) } ∷ record { target = (A.Param 35); scope = S.Voice; rate = T.Control; min = (fin false 0 (pos 0)); max = (fin false 1 (pos 0)); feed = (F.Output 1) } ∷ record { target = (A.LfoBus 6 0); scope = S.Global; rate = T.Control; min = (inf true); max = (inf false); feed = F.Nothing } ∷ record { target = (A.Param 49); scope = S.Voice; rate = T.Audio; min = (inf true); max = (inf false); feed = (F.Source 3) } ∷ [])
    (record { source = Some 0; source_curve = C.Linear; amount = (fin true 0 (pos 0)); polarity = Q.Unipolar; destination = Some (A.Param 21); aux = Some 0; aux_invert = false; aux_curve = C.Table (fin false 0 (pos 0)) (fin false 0 (pos 0)); output = (fin false 1 (pos 0)); bypass = false } ∷ record { source = Some 1; source_curve = C.Linear; amount = (fin false 5123451 (negsuc 23)); polarity = Q.Unipolar; destination = Some (A.Param 28); aux = None; aux_invert = false; aux_curve = C.Linear; output = (fin false 1 (pos 0)); bypass = false } ∷ record { source = Some 2; source_curve = C.Linear; amount = (fin true 15925493 (negsuc 24)); polarity = Q.Bipolar; destination = Some (A.Param 35); aux = None; aux_invert = false; aux_curve = C.Linear; output = (fin false 1 (pos 0)); bypass = false } ∷ record { source = Some 0; source_curve = C.Linear; amount = (fin true 7972783 (negsuc 22)); polarity = Q.Bipolar; destination = Some (A.Param 21); aux = None; aux_invert = false; aux_curve = C.Linear; output = (fin false 1 (pos 0)); bypass = false } ∷ record { source = Some 0; source_curve = C.Table (fin false 0 (pos 0)) (fin false 0 (pos 0)); amount = (fin true 1 (pos 0)); polarity = Q.Unipolar; destination = Some (A.Param 21); aux = None; aux_invert = false; aux_curve = C.Linear; output = (fin false 1 (pos 0)); bypass = false } ∷ record { source = Some 0; source_curve = C.Linear; amount = (fin false 0 (pos 0)); polarity = Q.Bipolar; destination = Some (A.Param 7); aux = None; aux_invert = false; aux_curve = C.Linear; output = (fin false 1 (pos 0)); bypass = false } ∷ record { source = Some 0; source_curve = C.Linear; amount = (fin false 3726407 (negsuc 21)); polarity = Q.Bipolar; destination = Some (A.Param 14); aux = None; aux_invert = false; aux_curve = C.Linear; output = (fin false 1 (pos 0)); bypass = false } ∷ record { source = Some 0; source_curve = C.Table (fin false 0 (pos 0)) (fin false 0 (pos 0)); amount = (fin true 6617445 (pos 77)); polarity = Q.Unipolar; destination = Some (A.Param 7); aux = Some 0; aux_invert = true; aux_curve = C.Linear; output = (fin false 1 (pos 0)); bypass = false } ∷ record { source = Some 5; source_curve = C.Linear; amount = (fin false 16561139 (negsuc 24)); polarity = Q.Unipolar; destination = Some (A.LfoBus 6 0); aux = Some 3; aux_invert = false; aux_curve = C.Table (fin false 13117255 (negsuc 26)) (fin false 7890601 (negsuc 26)); output = (fin false 1 (pos 0)); bypass = false } ∷ record { source = Some 4; source_curve = C.Linear; amount = (fin false 1 (pos 0)); polarity = Q.Unipolar; destination = Some (A.Param 49); aux = None; aux_invert = false; aux_curve = C.Linear; output = (fin false 1 (pos 0)); bypass = false } ∷ record { source = Some 0; source_curve = C.Linear; amount = (fin true 1 (pos 0)); polarity = Q.Bipolar; destination = Some (A.Param 21); aux = None; aux_invert = false; aux_curve = C.Linear; output = (fin false 1 (pos 0)); bypass = false } ∷ record { source = Some 0; source_curve = C.Linear; amount = (fin false 2955705 (negsuc 22)); polarity = Q.Bipolar; destination = Some (A.Param 7); aux = None; aux_invert = false; aux_curve = C.Linear; output = (fin false 1 (pos 0)); bypass = false } ∷ [])

p55 : Compiles w55
    (record { dest = 3; voice = true; audio = false; min = (fin false 0 (pos 0)); max = (fin false 1 (pos 0)); base = B.Held 0; first = 0; count = 4 } ∷ record { dest = 1; voice = true; audio = false; min = (fin false 0 (pos 0)); max = (fin false 1 (pos 0)); base = B.Set; first = 4; count = 3 } ∷ record { dest = 5; voice = true; audio = false; min = (fin false 0 (pos 0)); max = (fin false 1 (pos 0)); base = B.Output 1; first = 7; count = 1 } ∷ record { dest = 4; voice = true; audio = false; min = (inf true); max = (inf false); base = B.Output 1; first = 8; count = 1 } ∷ record { dest = 7; voice = true; audio = false; min = (inf true); max = (inf false); base = B.Held 3; first = 9; count = 1 } ∷ record { dest = 6; voice = false; audio = false; min = (inf true); max = (inf false); base = B.Set; first = 10; count = 1 } ∷ record { dest = 2; voice = true; audio = true; min = (fin false 0 (pos 0)); max = (fin false 1 (pos 0)); base = B.Set; first = 11; count = 1 } ∷ [])
    6
    (record { slot = 0; source = record { read = D.Fed 0 true; bipolar = false; table = false; slew = None }; aux = Some (record { read = D.Fed 0 true; bipolar = false; table = true; slew = None }); aux_invert = false; bipolar = false; amount = G.Live; output = G.Live; voice = true; scale = (fin false 1 (pos 0)); offset = (fin false 0 (pos 0)); simple = false } ∷ record { slot = 3; source = record { read = D.Fed 0 true; bipolar = false; table = false; slew = None }; aux = None; aux_invert = false; bipolar = true; amount = G.Live; output = G.Live; voice = true; scale = (fin false 1 (pos 1)); offset = (fin true 1 (pos 0)); simple = true } ∷ record { slot = 4; source = record { read = D.Fed 0 true; bipolar = false; table = true; slew = None }; aux = None; aux_invert = false; bipolar = false; amount = G.Live; output = G.Live; voice = true; scale = (fin false 1 (pos 0)); offset = (fin false 0 (pos 0)); simple = false } ∷ record { slot = 10; source = record { read = D.Fed 0 true; bipolar = false; table = false; slew = None }; aux = None; aux_invert = false; bipolar = true; amount = G.Live; output = G.Live; voice = true; scale = (fin false 1 (pos 1)); offset = (fin true 1 (pos 0)); simple = true } ∷ record { slot = 5; source = record { read = D.Fed 0 true; bipolar = false; table = false; slew = None }; aux = None; aux_invert = false; bipolar = true; amount = G.Live; output = G.Live; voice = true; scale = (fin false 1 (pos 1)); offset = (fin true 1 (pos 0)); simple = true } ∷ record { slot = 7; source = record { read = D.Fed 0 true; bipolar = false; table = true; slew = None }; aux = Some (record { read = D.Fed 0 true; bipolar = false; table = false; slew = None }); aux_invert = true; bipolar = false; amount = G.Live; output = G.Live; voice = true; scale = (fin false 1 (pos 0)); offset = (fin false 0 (pos 0)); simple = false } ∷ record { slot = 11; source = record { read = D.Fed 0 true; bipolar = false; table = false; slew = None }; aux = None; aux_invert = false; bipolar = true; amount = G.Live; output = G.Live; voice = true; scale = (fin false 1 (pos 1)); offset = (fin true 1 (pos 0)); simple = true } ∷ record { slot = 2; source = record { read = D.Held 2 true; bipolar = false; table = false; slew = None }; aux = None; aux_invert = false; bipolar = true; amount = G.Live; output = G.Live; voice = true; scale = (fin false 1 (pos 1)); offset = (fin true 1 (pos 0)); simple = true } ∷ record { slot = 1; source = record { read = D.Signal 1 false; bipolar = false; table = false; slew = None }; aux = None; aux_invert = false; bipolar = false; amount = G.Live; output = G.Fed 2 true; voice = true; scale = (fin false 1 (pos 0)); offset = (fin false 0 (pos 0)); simple = false } ∷ record { slot = 9; source = record { read = D.Held 4 true; bipolar = false; table = false; slew = None }; aux = None; aux_invert = false; bipolar = false; amount = G.Live; output = G.Live; voice = true; scale = (fin false 1 (pos 0)); offset = (fin false 0 (pos 0)); simple = true } ∷ record { slot = 8; source = record { read = D.Held 5 true; bipolar = false; table = false; slew = None }; aux = Some (record { read = D.Fed 4 true; bipolar = false; table = true; slew = Some (record { up = (fin false 171667 (negsuc 23)); down = (fin false 9132079 (negsuc 28)) }) }); aux_invert = false; bipolar = false; amount = G.Live; output = G.Live; voice = true; scale = (fin false 1 (pos 0)); offset = (fin false 0 (pos 0)); simple = false } ∷ record { slot = 6; source = record { read = D.Fed 0 true; bipolar = false; table = false; slew = None }; aux = None; aux_invert = false; bipolar = true; amount = G.Live; output = G.Live; voice = true; scale = (fin false 1 (pos 1)); offset = (fin true 1 (pos 0)); simple = true } ∷ [])
    ([])
unfolding w55 target_place verdict verdicts_from verdicts candidates skipped_of in_use counted_feed used_dests feeder_of readers_of reads hears_audio is_audio controls audios plan_order slew_for input_by route_by route_in plan_by plans_of all_routes order seconds_of rate_per_sample max32 is_nan lt eq mul div
p55 = (refl, refl, refl, refl)

-- gen.py 57
w56 : Wiring
w56 =
    wired (fin false 1 (pos 0))
    (source (K.Constant) S.Global R.Unipolar ∷ source (K.Held) S.Global R.Unipolar ∷ source (K.Held) S.Voice R.Unipolar ∷ source (K.Audio) S.Global R.Bipolar ∷ source (K.Held) S.Global R.Bipolar ∷ [])
    (record { target = (A.LfoBus 0 0); scope = S.Voice; rate = T.Control; min = (fin false 0 (pos 0)); max = (fin false 1 (pos 0)); feed = F.Nothing } ∷ record { target = (A.Param 7); scope = S.Global; rate = T.Control; min = (fin true 1 (pos 0)); max = (fin false 1 (pos 0)); feed = F.Nothing } ∷ record { target = (A.Param 14); scope = S.Voice; rate = T.Audio; min = (inf true); max = (inf false); feed = F.Nothing } ∷ record { target = (A.LfoBus 3 0); scope = S.Voice; rate = T.Control; min = (fin false 0 (pos 0)); max = (fin false 1 (pos 0)); feed = F.Nothing } ∷ record { target = (A.Param 28); scope = S.Voice; rate = T.Control; min = (inf true); max = (inf false); feed = F.Nothing } ∷ record { target = (A.Param 35); scope = S.Voice; rate = T.Control; min = (fin false 0 (pos 0)); max = (fin false 1 (pos 0)); feed = (F.Amount 2) } ∷ record { target = (A.Param 42); scope = S.Voice; rate = T.Control; min = (fin false 0 (pos 0)); max = (fin false 1 (pos 0)); feed = (F.Source 3) } ∷ [])
    (record { source = Some 1; source_curve = C.Linear; amount = (fin false 1 (negsuc 0)); polarity = Q.Unipolar; destination = Some (A.Param 28); aux = None; aux_invert = false; aux_curve = C.Linear; output = (fin false 12801061 (negsuc 24)); bypass = false } ∷ record { source = Some 0; source_curve = C.Linear; amount = (fin false 0 (pos 0)); polarity = Q.Bipolar; destination = Some (A.Param 7); aux = None; aux_invert = false; aux_curve = C.Linear; output = (fin false 1 (pos 0)); bypass = false } ∷ record { source = Some 4; source_curve = C.Table (fin false 0 (pos 0)) (fin false 0 (pos 0)); amount = (fin true 1 (pos 0)); polarity = Q.Unipolar; destination = Some (A.Param 7); aux = Some 1; aux_invert = true; aux_curve = C.Linear; output = (fin false 1 (pos 0)); bypass = false } ∷ record { source = Some 0; source_curve = C.Linear; amount = (fin false 1 (pos 0)); polarity = Q.Bipolar; destination = Some (A.LfoBus 3 0); aux = None; aux_invert = false; aux_curve = C.Linear; output = (fin false 1 (pos 0)); bypass = false } ∷ record { source = Some 0; source_curve = C.Table (fin false 0 (pos 0)) (fin false 0 (pos 0)); amount = (fin false 1 (pos 0)); polarity = Q.Unipolar; destination = Some (A.LfoBus 3 0); aux = None; aux_invert = false; aux_curve = C.Linear; output = (fin false 1 (pos 0)); bypass = false } ∷ record { source = Some 0; source_curve = C.Linear; amount = (fin false 14939887 (negsuc 24)); polarity = Q.Bipolar; destination = Some (A.LfoBus 0 0); aux = None; aux_invert = false; aux_curve = C.Linear; output = (fin false 2164507 (negsuc 23)); bypass = false } ∷ record { source = Some 1; source_curve = C.Linear; amount = (fin false 1 (pos 0)); polarity = Q.Bipolar; destination = Some (A.LfoBus 3 0); aux = Some 1; aux_invert = false; aux_curve = C.Linear; output = (fin false 1 (pos 0)); bypass = false } ∷ record { source = None; source_curve = C.Linear; amount = (fin false 0 (pos 0)); polarity = Q.Unipolar; destination = None; aux = None; aux_invert = false; aux_curve = C.Linear; output = (fin false 1 (pos 0)); bypass = false } ∷ record { source = Some 0; source_curve = C.Table (fin false 15288043 (negsuc 14)) (fin false 1 (pos 0)); amount = (fin false 1 (pos 0)); polarity = Q.Bipolar; destination = Some (A.LfoBus 0 0); aux = None; aux_invert = false; aux_curve = C.Linear; output = (fin false 1 (pos 0)); bypass = false } ∷ record { source = Some 0; source_curve = C.Linear; amount = (fin true 10553299 (negsuc 24)); polarity = Q.Bipolar; destination = Some (A.Param 35); aux = None; aux_invert = false; aux_curve = C.Linear; output = (fin false 1 (negsuc 0)); bypass = false } ∷ record { source = Some 1; source_curve = C.Table (fin false 0 (pos 0)) (fin false 0 (pos 0)); amount = (fin false 16625083 (negsuc 23)); polarity = Q.Bipolar; destination = Some (A.Param 14); aux = None; aux_invert = false; aux_curve = C.Linear; output = (fin false 1 (negsuc 0)); bypass = false } ∷ record { source = Some 0; source_curve = C.Linear; amount = (fin false 1 (pos 0)); polarity = Q.Unipolar; destination = Some (A.LfoBus 3 0); aux = None; aux_invert = false; aux_curve = C.Linear; output = (fin false 1 (pos 0)); bypass = false } ∷ [])

p56 : Compiles w56
    (record { dest = 0; voice = true; audio = false; min = (fin false 0 (pos 0)); max = (fin false 1 (pos 0)); base = B.Set; first = 0; count = 2 } ∷ record { dest = 3; voice = true; audio = false; min = (fin false 0 (pos 0)); max = (fin false 1 (pos 0)); base = B.Set; first = 2; count = 4 } ∷ record { dest = 4; voice = true; audio = false; min = (inf true); max = (inf false); base = B.Set; first = 6; count = 1 } ∷ record { dest = 5; voice = true; audio = false; min = (fin false 0 (pos 0)); max = (fin false 1 (pos 0)); base = B.Amount 2; first = 7; count = 1 } ∷ record { dest = 1; voice = false; audio = false; min = (fin true 1 (pos 0)); max = (fin false 1 (pos 0)); base = B.Set; first = 8; count = 2 } ∷ record { dest = 2; voice = true; audio = true; min = (inf true); max = (inf false); base = B.Set; first = 10; count = 1 } ∷ [])
    5
    (record { slot = 5; source = record { read = D.Constant; bipolar = false; table = false; slew = None }; aux = None; aux_invert = false; bipolar = true; amount = G.Live; output = G.Live; voice = false; scale = (fin false 1 (pos 1)); offset = (fin true 1 (pos 0)); simple = false } ∷ record { slot = 8; source = record { read = D.Constant; bipolar = false; table = true; slew = Some (record { up = (fin false 9205723 (negsuc 31)); down = (fin false 1 (pos 0)) }) }; aux = None; aux_invert = false; bipolar = true; amount = G.Live; output = G.Live; voice = false; scale = (fin false 1 (pos 1)); offset = (fin true 1 (pos 0)); simple = false } ∷ record { slot = 3; source = record { read = D.Constant; bipolar = false; table = false; slew = None }; aux = None; aux_invert = false; bipolar = true; amount = G.Live; output = G.Live; voice = false; scale = (fin false 1 (pos 1)); offset = (fin true 1 (pos 0)); simple = false } ∷ record { slot = 4; source = record { read = D.Constant; bipolar = false; table = true; slew = None }; aux = None; aux_invert = false; bipolar = false; amount = G.Live; output = G.Live; voice = false; scale = (fin false 1 (pos 0)); offset = (fin false 0 (pos 0)); simple = false } ∷ record { slot = 6; source = record { read = D.Held 1 false; bipolar = false; table = false; slew = None }; aux = Some (record { read = D.Held 1 false; bipolar = false; table = false; slew = None }); aux_invert = false; bipolar = true; amount = G.Live; output = G.Live; voice = false; scale = (fin false 1 (pos 1)); offset = (fin true 1 (pos 0)); simple = false } ∷ record { slot = 11; source = record { read = D.Constant; bipolar = false; table = false; slew = None }; aux = None; aux_invert = false; bipolar = false; amount = G.Live; output = G.Live; voice = false; scale = (fin false 1 (pos 0)); offset = (fin false 0 (pos 0)); simple = false } ∷ record { slot = 0; source = record { read = D.Held 1 false; bipolar = false; table = false; slew = None }; aux = None; aux_invert = false; bipolar = false; amount = G.Live; output = G.Live; voice = false; scale = (fin false 1 (pos 0)); offset = (fin false 0 (pos 0)); simple = false } ∷ record { slot = 9; source = record { read = D.Constant; bipolar = false; table = false; slew = None }; aux = None; aux_invert = false; bipolar = true; amount = G.Live; output = G.Live; voice = false; scale = (fin false 1 (pos 1)); offset = (fin true 1 (pos 0)); simple = false } ∷ record { slot = 1; source = record { read = D.Constant; bipolar = false; table = false; slew = None }; aux = None; aux_invert = false; bipolar = true; amount = G.Live; output = G.Live; voice = false; scale = (fin false 1 (pos 1)); offset = (fin true 1 (pos 0)); simple = false } ∷ record { slot = 2; source = record { read = D.Held 4 false; bipolar = true; table = true; slew = None }; aux = Some (record { read = D.Held 1 false; bipolar = false; table = false; slew = None }); aux_invert = true; bipolar = false; amount = G.Fed 3 true; output = G.Live; voice = true; scale = (fin false 1 (negsuc 0)); offset = (fin false 1 (negsuc 0)); simple = false } ∷ record { slot = 10; source = record { read = D.Held 1 false; bipolar = false; table = true; slew = None }; aux = None; aux_invert = false; bipolar = true; amount = G.Live; output = G.Live; voice = false; scale = (fin false 1 (pos 1)); offset = (fin true 1 (pos 0)); simple = false } ∷ [])
    ([])
unfolding w56 target_place verdict verdicts_from verdicts candidates skipped_of in_use counted_feed used_dests feeder_of readers_of reads hears_audio is_audio controls audios plan_order slew_for input_by route_by route_in plan_by plans_of all_routes order seconds_of rate_per_sample max32 is_nan lt eq mul div
p56 = (refl, refl, refl, refl)

-- gen.py 99
w57 : Wiring
w57 =
    wired (fin false 375 (pos 7))
    (source (K.Audio) S.Voice R.Bipolar ∷ source (K.Signal) S.Voice R.Unipolar ∷ source (K.Signal) S.Voice R.Unipolar ∷ source (K.RandomPerRoute) S.Voice R.Unipolar ∷ source (K.Signal) S.Voice R.Unipolar ∷ source (K.Signal) S.Voice R.Unipolar ∷ source (K.VoiceLoad) S.Global R.Unipolar ∷ source (K.Alternate false) S.Voice R.Unipolar ∷ source (K.Signal) S.Voice R.Unipolar ∷ source (K.RandomPerRoute) S.Voice R.Bipolar ∷ [])
    (record { target = (A.LfoBus 0 0); scope = S.Voice; rate = T.Audio; min = (inf true); max = (inf false); feed = F.Nothing } ∷ record { target = (A.Param 7); scope = S.Voice; rate = T.Adaptive; min = (fin false 0 (pos 0)); max = (fin false 1 (pos 0)); feed = (F.Source 9) } ∷ record { target = (A.Param 14); scope = S.Voice; rate = T.Audio; min = (inf true); max = (fin false 0 (pos 0)); feed = F.Nothing } ∷ record { target = (A.Param 21); scope = S.Voice; rate = T.Audio; min = (fin true 1 (pos 0)); max = (fin false 1 (pos 0)); feed = F.Nothing } ∷ record { target = (A.Param 28); scope = S.Voice; rate = T.Audio; min = (inf true); max = (inf false); feed = (F.Source 11) } ∷ record { target = (A.Param 35); scope = S.Voice; rate = T.Control; min = (fin false 0 (pos 0)); max = (fin false 1 (pos 0)); feed = F.Nothing } ∷ record { target = (A.Param 42); scope = S.Voice; rate = T.Adaptive; min = (fin true 0 (pos 0)); max = (fin false 1 (pos 0)); feed = F.Nothing } ∷ [])
    (record { source = Some 0; source_curve = C.Linear; amount = (fin false 0 (pos 0)); polarity = Q.Bipolar; destination = Some (A.Param 28); aux = None; aux_invert = false; aux_curve = C.Linear; output = (fin false 1 (pos 0)); bypass = false } ∷ record { source = Some 5; source_curve = C.Linear; amount = (fin true 3960991 (negsuc 22)); polarity = Q.Bipolar; destination = Some (A.LfoBus 0 0); aux = Some 200; aux_invert = false; aux_curve = C.Linear; output = (fin false 1 (pos 0)); bypass = false } ∷ record { source = Some 2; source_curve = C.Linear; amount = (fin true 1 (pos 0)); polarity = Q.Unipolar; destination = Some (A.Param 14); aux = None; aux_invert = false; aux_curve = C.Linear; output = (fin false 1 (pos 0)); bypass = false } ∷ [])

p57 : Compiles w57
    (record { dest = 2; voice = true; audio = true; min = (inf true); max = (fin false 0 (pos 0)); base = B.Set; first = 0; count = 1 } ∷ record { dest = 4; voice = true; audio = true; min = (inf true); max = (inf false); base = B.Set; first = 1; count = 1 } ∷ [])
    0
    (record { slot = 2; source = record { read = D.Signal 2 true; bipolar = false; table = false; slew = None }; aux = None; aux_invert = false; bipolar = false; amount = G.Live; output = G.Live; voice = true; scale = (fin false 1 (pos 0)); offset = (fin false 0 (pos 0)); simple = true } ∷ record { slot = 0; source = record { read = D.Signal 0 true; bipolar = true; table = false; slew = None }; aux = None; aux_invert = false; bipolar = true; amount = G.Live; output = G.Live; voice = true; scale = (fin false 1 (pos 0)); offset = (fin false 0 (pos 0)); simple = true } ∷ [])
    (record { slot = 1; reason = E.UnknownAux } ∷ [])
unfolding w57 target_place verdict verdicts_from verdicts candidates skipped_of in_use counted_feed used_dests feeder_of readers_of reads hears_audio is_audio controls audios plan_order slew_for input_by route_by route_in plan_by plans_of all_routes order seconds_of rate_per_sample max32 is_nan lt eq mul div
p57 = (refl, refl, refl, refl)

-- gen.py 166
w58 : Wiring
w58 =
    wired (fin false 10830605 (negsuc 6))
    (source (K.Audio) S.Voice R.Bipolar ∷ source (K.Held) S.Global R.Unipolar ∷ source (K.Alternate false) S.Voice R.Unipolar ∷ source (K.Constant) S.Global R.Unipolar ∷ source (K.Signal) S.Voice R.Unipolar ∷ source (K.Constant) S.Global R.Bipolar ∷ source (K.ReleaseVelocity) S.Voice R.Unipolar ∷ source (K.Held) S.Global R.Unipolar ∷ source (K.Constant) S.Global R.Unipolar ∷ source (K.Constant) S.Global R.Unipolar ∷ source (K.Signal) S.Voice R.Unipolar ∷ source (K.Signal) S.Global R.Unipolar ∷ source (K.Alternate false) S.Voice R.Unipolar ∷ source (K.Signal) S.Voice R.Unipolar ∷ source (K.RandomPerRoute) S.Voice R.Unipolar ∷ source (K.Signal) S.Global R.Unipolar ∷ source (K.RandomPerRoute) S.Voice R.Unipolar ∷ source (K.Held) S.Global R.Unipolar ∷ source (K.Held) S.Global R.Unipolar ∷ source (K.Audio) S.Global R.Bipolar ∷ [])
    (record { target = (A.Param 0); scope = S.Voice; rate = T.Adaptive; min = (fin false 0 (pos 0)); max = (inf false); feed = (F.Source 17) } ∷ [])
    (record { source = Some 1; source_curve = C.Linear; amount = (fin true 1 (pos 0)); polarity = Q.Unipolar; destination = Some (A.Param 0); aux = None; aux_invert = false; aux_curve = C.Linear; output = (fin false 1 (pos 0)); bypass = false } ∷ record { source = Some 17; source_curve = C.Linear; amount = (fin true 1 (pos 0)); polarity = Q.Bipolar; destination = Some (A.Param 0); aux = None; aux_invert = false; aux_curve = C.Linear; output = (fin false 1 (pos 0)); bypass = false } ∷ record { source = Some 8; source_curve = C.Linear; amount = (fin false 11928295 (negsuc 23)); polarity = Q.Unipolar; destination = Some (A.Param 0); aux = Some 19; aux_invert = true; aux_curve = C.Linear; output = (fin false 1 (pos 0)); bypass = false } ∷ record { source = Some 14; source_curve = C.Linear; amount = (fin false 13700791 (negsuc 24)); polarity = Q.Unipolar; destination = Some (A.Param 0); aux = Some 20; aux_invert = false; aux_curve = C.Table (fin false 0 (pos 0)) (fin false 0 (pos 0)); output = (fin true 3883599 (negsuc 21)); bypass = false } ∷ record { source = Some 3; source_curve = C.Linear; amount = (fin false 1 (negsuc 0)); polarity = Q.Unipolar; destination = Some (A.Param 0); aux = None; aux_invert = false; aux_curve = C.Linear; output = (fin false 1 (pos 0)); bypass = false } ∷ record { source = Some 7; source_curve = C.Table (fin false 0 (pos 0)) (fin false 0 (pos 0)); amount = (fin false 9014775 (negsuc 23)); polarity = Q.Unipolar; destination = Some (A.Param 0); aux = None; aux_invert = false; aux_curve = C.Linear; output = (fin false 1 (pos 0)); bypass = false } ∷ record { source = Some 19; source_curve = C.Table (fin false 0 (pos 0)) (fin false 0 (pos 0)); amount = (fin true 1 (pos 0)); polarity = Q.Bipolar; destination = None; aux = Some 17; aux_invert = true; aux_curve = C.Linear; output = (fin false 2225387 (negsuc 22)); bypass = false } ∷ record { source = Some 15; source_curve = C.Table (fin false 1 (pos 0)) (fin false 5368709 (negsuc 28)); amount = (fin true 1 (pos 0)); polarity = Q.Unipolar; destination = Some (A.Param 0); aux = Some 14; aux_invert = true; aux_curve = C.Table (fin false 2937657 (negsuc 31)) (fin false 12994425 (negsuc 39)); output = (fin false 1 (pos 0)); bypass = false } ∷ [])

p58 : Compiles w58
    (record { dest = 0; voice = true; audio = false; min = (fin false 0 (pos 0)); max = (inf false); base = B.Held 17; first = 0; count = 6 } ∷ [])
    1
    (record { slot = 0; source = record { read = D.Held 1 false; bipolar = false; table = false; slew = None }; aux = None; aux_invert = false; bipolar = false; amount = G.Live; output = G.Live; voice = false; scale = (fin false 1 (pos 0)); offset = (fin false 0 (pos 0)); simple = false } ∷ record { slot = 1; source = record { read = D.Fed 0 true; bipolar = false; table = false; slew = None }; aux = None; aux_invert = false; bipolar = true; amount = G.Live; output = G.Live; voice = true; scale = (fin false 1 (pos 1)); offset = (fin true 1 (pos 0)); simple = true } ∷ record { slot = 2; source = record { read = D.Constant; bipolar = false; table = false; slew = None }; aux = Some (record { read = D.Signal 19 false; bipolar = true; table = false; slew = None }); aux_invert = true; bipolar = false; amount = G.Live; output = G.Live; voice = false; scale = (fin false 1 (pos 0)); offset = (fin false 0 (pos 0)); simple = false } ∷ record { slot = 4; source = record { read = D.Constant; bipolar = false; table = false; slew = None }; aux = None; aux_invert = false; bipolar = false; amount = G.Live; output = G.Live; voice = false; scale = (fin false 1 (pos 0)); offset = (fin false 0 (pos 0)); simple = false } ∷ record { slot = 5; source = record { read = D.Held 7 false; bipolar = false; table = true; slew = None }; aux = None; aux_invert = false; bipolar = false; amount = G.Live; output = G.Live; voice = false; scale = (fin false 1 (pos 0)); offset = (fin false 0 (pos 0)); simple = false } ∷ record { slot = 7; source = record { read = D.Signal 15 false; bipolar = false; table = true; slew = Some (record { up = (fin false 12994425 (negsuc 39)); down = (fin false 10151895 (negsuc 32)) }) }; aux = Some (record { read = D.RouteRandom; bipolar = false; table = true; slew = Some (record { up = (fin false 4638269 (negsuc 27)); down = (fin false 1 (pos 0)) }) }); aux_invert = true; bipolar = false; amount = G.Live; output = G.Live; voice = true; scale = (fin false 1 (pos 0)); offset = (fin false 0 (pos 0)); simple = false } ∷ [])
    (record { slot = 3; reason = E.UnknownAux } ∷ [])
unfolding w58 target_place verdict verdicts_from verdicts candidates skipped_of in_use counted_feed used_dests feeder_of readers_of reads hears_audio is_audio controls audios plan_order slew_for input_by route_by route_in plan_by plans_of all_routes order seconds_of rate_per_sample max32 is_nan lt eq mul div
p58 = (refl, refl, refl, refl)

-- gen.py 200
w59 : Wiring
w59 =
    wired (fin false 11729461 (negsuc 6))
    (source (K.Audio) S.Voice R.Bipolar ∷ source (K.Held) S.Voice R.Unipolar ∷ source (K.Signal) S.Global R.Unipolar ∷ source (K.Velocity) S.Voice R.Unipolar ∷ source (K.Held) S.Voice R.Unipolar ∷ source (K.Held) S.Voice R.Unipolar ∷ [])
    (record { target = (A.Param 0); scope = S.Global; rate = T.Control; min = (fin true 1322649 (negsuc 19)); max = (fin false 9600021 (negsuc 21)); feed = (F.Amount 0) } ∷ record { target = (A.Param 7); scope = S.Voice; rate = T.Adaptive; min = (fin false 0 (pos 0)); max = (fin false 1 (pos 0)); feed = (F.Amount 3) } ∷ record { target = (A.Param 14); scope = S.Global; rate = T.Control; min = (inf true); max = (inf false); feed = (F.Amount 3) } ∷ [])
    (record { source = Some 5; source_curve = C.Linear; amount = (fin false 1 (negsuc 0)); polarity = Q.Bipolar; destination = Some (A.Param 14); aux = None; aux_invert = false; aux_curve = C.Linear; output = (fin false 1 (pos 0)); bypass = false } ∷ unused ∷ unused ∷ record { source = Some 4; source_curve = C.Linear; amount = (fin false 1 (negsuc 0)); polarity = Q.Unipolar; destination = Some (A.Param 7); aux = None; aux_invert = false; aux_curve = C.Linear; output = (fin false 1 (pos 0)); bypass = false } ∷ [])

p59 : Compiles w59
    (record { dest = 2; voice = false; audio = false; min = (inf true); max = (inf false); base = B.Amount 3; first = 0; count = 1 } ∷ record { dest = 1; voice = true; audio = false; min = (fin false 0 (pos 0)); max = (fin false 1 (pos 0)); base = B.Amount 3; first = 1; count = 1 } ∷ [])
    2
    (record { slot = 0; source = record { read = D.Held 5 true; bipolar = false; table = false; slew = None }; aux = None; aux_invert = false; bipolar = true; amount = G.Live; output = G.Live; voice = true; scale = (fin false 1 (pos 1)); offset = (fin true 1 (pos 0)); simple = false } ∷ record { slot = 3; source = record { read = D.Held 4 true; bipolar = false; table = false; slew = None }; aux = None; aux_invert = false; bipolar = false; amount = G.Fed 0 false; output = G.Live; voice = true; scale = (fin false 1 (pos 0)); offset = (fin false 0 (pos 0)); simple = false } ∷ [])
    ([])
unfolding w59 target_place verdict verdicts_from verdicts candidates skipped_of in_use counted_feed used_dests feeder_of readers_of reads hears_audio is_audio controls audios plan_order slew_for input_by route_by route_in plan_by plans_of all_routes order seconds_of rate_per_sample max32 is_nan lt eq mul div
p59 = (refl, refl, refl, refl)

-- gen.py 206
w60 : Wiring
w60 =
    wired (fin false 125 (pos 3))
    (source (K.Signal) S.Voice R.Unipolar ∷ source (K.Signal) S.Voice R.Bipolar ∷ source (K.Random) S.Voice R.Unipolar ∷ source (K.VoiceLoad) S.Global R.Unipolar ∷ [])
    (record { target = (A.Param 0); scope = S.Global; rate = T.Control; min = (fin false 3900787 (negsuc 21)); max = (inf false); feed = F.Nothing } ∷ record { target = (A.Param 7); scope = S.Voice; rate = T.Audio; min = (fin true 1 (pos 0)); max = (fin false 1 (pos 0)); feed = F.Nothing } ∷ record { target = (A.Param 14); scope = S.Global; rate = T.Adaptive; min = (fin false 0 (pos 0)); max = (fin false 1 (pos 0)); feed = F.Nothing } ∷ record { target = (A.Param 21); scope = S.Global; rate = T.Control; min = (inf true); max = (inf false); feed = F.Nothing } ∷ record { target = (A.Param 28); scope = S.Global; rate = T.Audio; min = (fin true 1 (pos 0)); max = (fin false 1 (pos 0)); feed = F.Nothing } ∷ record { target = (A.Param 35); scope = S.Voice; rate = T.Adaptive; min = (inf true); max = (inf false); feed = (F.Source 1) } ∷ [])
    (record { source = Some 1; source_curve = C.Table (fin false 0 (pos 0)) (fin false 8589935 (negsuc 32)); amount = (fin false 1 (negsuc 0)); polarity = Q.Unipolar; destination = Some (A.Param 35); aux = None; aux_invert = false; aux_curve = C.Linear; output = (fin false 1 (pos 0)); bypass = false } ∷ record { source = Some 1; source_curve = C.Table (fin false 0 (pos 0)) (fin false 0 (pos 0)); amount = (fin false 1 (pos 0)); polarity = Q.Bipolar; destination = Some (A.Param 14); aux = None; aux_invert = false; aux_curve = C.Linear; output = (fin false 9816459 (negsuc 27)); bypass = false } ∷ record { source = Some 0; source_curve = C.Linear; amount = (fin true 1 (pos 0)); polarity = Q.Unipolar; destination = Some (A.Param 21); aux = None; aux_invert = false; aux_curve = C.Linear; output = (fin false 1 (pos 0)); bypass = false } ∷ [])

p60 : Compiles w60
    (record { dest = 2; voice = false; audio = false; min = (fin false 0 (pos 0)); max = (fin false 1 (pos 0)); base = B.Set; first = 0; count = 1 } ∷ record { dest = 3; voice = false; audio = false; min = (inf true); max = (inf false); base = B.Set; first = 1; count = 1 } ∷ record { dest = 5; voice = true; audio = false; min = (inf true); max = (inf false); base = B.Set; first = 2; count = 1 } ∷ [])
    3
    (record { slot = 1; source = record { read = D.Signal 1 true; bipolar = true; table = true; slew = None }; aux = None; aux_invert = false; bipolar = true; amount = G.Live; output = G.Live; voice = true; scale = (fin false 1 (pos 0)); offset = (fin false 0 (pos 0)); simple = false } ∷ record { slot = 2; source = record { read = D.Signal 0 true; bipolar = false; table = false; slew = None }; aux = None; aux_invert = false; bipolar = false; amount = G.Live; output = G.Live; voice = true; scale = (fin false 1 (pos 0)); offset = (fin false 0 (pos 0)); simple = false } ∷ record { slot = 0; source = record { read = D.Signal 1 true; bipolar = true; table = true; slew = Some (record { up = (inf false); down = (fin false 1 (pos 0)) }) }; aux = None; aux_invert = false; bipolar = false; amount = G.Live; output = G.Live; voice = true; scale = (fin false 1 (negsuc 0)); offset = (fin false 1 (negsuc 0)); simple = false } ∷ [])
    ([])
unfolding w60 target_place verdict verdicts_from verdicts candidates skipped_of in_use counted_feed used_dests feeder_of readers_of reads hears_audio is_audio controls audios plan_order slew_for input_by route_by route_in plan_by plans_of all_routes order seconds_of rate_per_sample max32 is_nan lt eq mul div
p60 = (refl, refl, refl, refl)

-- gen.py 348
w61 : Wiring
w61 =
    wired (fin false 1 (pos 6))
    (source (K.ReleaseVelocity) S.Voice R.Unipolar ∷ source (K.Audio) S.Voice R.Bipolar ∷ source (K.Velocity) S.Voice R.Unipolar ∷ source (K.Audio) S.Voice R.Bipolar ∷ source (K.Alternate false) S.Voice R.Bipolar ∷ source (K.Audio) S.Global R.Bipolar ∷ source (K.Held) S.Voice R.Bipolar ∷ source (K.Alternate false) S.Voice R.Unipolar ∷ [])
    (record { target = (A.Param 0); scope = S.Global; rate = T.Adaptive; min = (fin true 0 (pos 0)); max = (fin false 1 (pos 0)); feed = F.Nothing } ∷ record { target = (A.Param 7); scope = S.Voice; rate = T.Adaptive; min = (inf true); max = (fin false 0 (pos 0)); feed = F.Nothing } ∷ [])
    (record { source = Some 1; source_curve = C.Table (fin false 0 (pos 0)) (fin false 0 (pos 0)); amount = (fin false 1 (negsuc 0)); polarity = Q.Bipolar; destination = Some (A.Param 7); aux = None; aux_invert = false; aux_curve = C.Linear; output = (fin false 1 (negsuc 0)); bypass = true } ∷ record { source = Some 0; source_curve = C.Linear; amount = (fin true 1 (pos 0)); polarity = Q.Unipolar; destination = Some (A.Param 0); aux = None; aux_invert = false; aux_curve = C.Linear; output = (fin false 15389841 (negsuc 23)); bypass = false } ∷ record { source = Some 5; source_curve = C.Linear; amount = (fin true 0 (pos 0)); polarity = Q.Bipolar; destination = Some (A.Param 0); aux = None; aux_invert = false; aux_curve = C.Linear; output = (fin false 0 (pos 0)); bypass = false } ∷ record { source = Some 3; source_curve = C.Linear; amount = (fin true 2969159 (negsuc 22)); polarity = Q.Unipolar; destination = Some (A.Param 999999999); aux = Some 7; aux_invert = true; aux_curve = C.Linear; output = (fin false 1 (pos 0)); bypass = false } ∷ [])

p61 : Compiles w61
    (record { dest = 0; voice = false; audio = true; min = (fin true 0 (pos 0)); max = (fin false 1 (pos 0)); base = B.Set; first = 0; count = 2 } ∷ [])
    0
    (record { slot = 1; source = record { read = D.Held 0 true; bipolar = false; table = false; slew = None }; aux = None; aux_invert = false; bipolar = false; amount = G.Live; output = G.Live; voice = true; scale = (fin false 1 (pos 0)); offset = (fin false 0 (pos 0)); simple = false } ∷ record { slot = 2; source = record { read = D.Signal 5 false; bipolar = true; table = false; slew = None }; aux = None; aux_invert = false; bipolar = true; amount = G.Live; output = G.Live; voice = false; scale = (fin false 1 (pos 0)); offset = (fin false 0 (pos 0)); simple = false } ∷ [])
    (record { slot = 3; reason = E.UnknownDestination } ∷ [])
unfolding w61 target_place verdict verdicts_from verdicts candidates skipped_of in_use counted_feed used_dests feeder_of readers_of reads hears_audio is_audio controls audios plan_order slew_for input_by route_by route_in plan_by plans_of all_routes order seconds_of rate_per_sample max32 is_nan lt eq mul div
p61 = (refl, refl, refl, refl)

-- gen.py 354
w62 : Wiring
w62 =
    wired (fin false 1 (pos 6))
    (source (K.Held) S.Global R.Unipolar ∷ source (K.Held) S.Global R.Unipolar ∷ source (K.Held) S.Global R.Unipolar ∷ source (K.Held) S.Global R.Unipolar ∷ source (K.Held) S.Global R.Bipolar ∷ source (K.Constant) S.Global R.Unipolar ∷ source (K.Constant) S.Voice R.Unipolar ∷ source (K.Constant) S.Global R.Unipolar ∷ source (K.Held) S.Voice R.Unipolar ∷ source (K.Velocity) S.Voice R.Unipolar ∷ [])
    (record { target = (A.LfoBus 0 0); scope = S.Voice; rate = T.Audio; min = (fin true 1286415 (negsuc 19)); max = (fin true 237839 (negsuc 19)); feed = (F.Amount 0) } ∷ record { target = (A.LfoBus 1 0); scope = S.Global; rate = T.Control; min = (inf true); max = (inf false); feed = (F.Amount 3) } ∷ record { target = (A.LfoBus 2 0); scope = S.Voice; rate = T.Control; min = (inf true); max = (inf false); feed = (F.Amount 3) } ∷ record { target = (A.Param 21); scope = S.Voice; rate = T.Control; min = (fin false 0 (pos 0)); max = (fin false 1 (pos 0)); feed = (F.Amount 0) } ∷ record { target = (A.Param 28); scope = S.Global; rate = T.Control; min = (inf true); max = (inf false); feed = F.Nothing } ∷ record { target = (A.Param 35); scope = S.Global; rate = T.Control; min = (inf true); max = (fin false 0 (pos 0)); feed = (F.Output 1) } ∷ record { target = (A.Param 42); scope = S.Global; rate = T.Control; min = (fin true 11572919 (negsuc 23)); max = (fin false 8896925 (negsuc 21)); feed = (F.Source 1) } ∷ record { target = (A.Param 49); scope = S.Voice; rate = T.Adaptive; min = (inf true); max = (fin false 0 (pos 0)); feed = (F.Amount 3) } ∷ record { target = (A.Param 56); scope = S.Global; rate = T.Audio; min = (inf true); max = (fin false 0 (pos 0)); feed = F.Nothing } ∷ record { target = (A.LfoBus 9 0); scope = S.Voice; rate = T.Control; min = (inf true); max = (inf false); feed = (F.Output 6) } ∷ record { target = (A.Param 70); scope = S.Global; rate = T.Control; min = (inf true); max = (inf false); feed = (F.Output 6) } ∷ [])
    (record { source = Some 2; source_curve = C.Linear; amount = (fin true 6694217 (negsuc 22)); polarity = Q.Bipolar; destination = Some (A.Param 35); aux = None; aux_invert = false; aux_curve = C.Linear; output = (fin false 1 (pos 0)); bypass = false } ∷ record { source = Some 1; source_curve = C.Linear; amount = (fin false 3571109 (negsuc 21)); polarity = Q.Bipolar; destination = Some (A.LfoBus 0 0); aux = None; aux_invert = false; aux_curve = C.Linear; output = (fin false 1 (pos 0)); bypass = false } ∷ record { source = None; source_curve = C.Linear; amount = (fin false 1086831 (negsuc 20)); polarity = Q.Bipolar; destination = Some (A.LfoBus 0 0); aux = None; aux_invert = false; aux_curve = C.Linear; output = (fin false 1 (pos 0)); bypass = false } ∷ record { source = Some 1; source_curve = C.Linear; amount = (fin false 10678225 (negsuc 25)); polarity = Q.Bipolar; destination = Some (A.LfoBus 1 0); aux = None; aux_invert = false; aux_curve = C.Linear; output = (fin false 1 (pos 0)); bypass = false } ∷ unused ∷ record { source = Some 9; source_curve = C.Linear; amount = (fin true 16520017 (negsuc 23)); polarity = Q.Bipolar; destination = Some (A.Param 70); aux = None; aux_invert = false; aux_curve = C.Linear; output = (fin false 1 (pos 0)); bypass = false } ∷ record { source = Some 8; source_curve = C.Linear; amount = (fin false 4174735 (negsuc 21)); polarity = Q.Bipolar; destination = Some (A.LfoBus 9 0); aux = None; aux_invert = false; aux_curve = C.Linear; output = (fin false 1 (pos 0)); bypass = false } ∷ [])

p62 : Compiles w62
    (record { dest = 1; voice = false; audio = false; min = (inf true); max = (inf false); base = B.Amount 3; first = 0; count = 1 } ∷ record { dest = 10; voice = false; audio = false; min = (inf true); max = (inf false); base = B.Output 6; first = 1; count = 1 } ∷ record { dest = 9; voice = true; audio = false; min = (inf true); max = (inf false); base = B.Output 6; first = 2; count = 1 } ∷ record { dest = 0; voice = true; audio = false; min = (fin true 1286415 (negsuc 19)); max = (fin true 237839 (negsuc 19)); base = B.Amount 0; first = 3; count = 1 } ∷ record { dest = 5; voice = false; audio = false; min = (inf true); max = (fin false 0 (pos 0)); base = B.Output 1; first = 4; count = 1 } ∷ [])
    5
    (record { slot = 3; source = record { read = D.Held 1 false; bipolar = false; table = false; slew = None }; aux = None; aux_invert = false; bipolar = true; amount = G.Fed 0 false; output = G.Live; voice = false; scale = (fin false 1 (pos 1)); offset = (fin true 1 (pos 0)); simple = false } ∷ record { slot = 5; source = record { read = D.Held 9 true; bipolar = false; table = false; slew = None }; aux = None; aux_invert = false; bipolar = true; amount = G.Live; output = G.Live; voice = true; scale = (fin false 1 (pos 1)); offset = (fin true 1 (pos 0)); simple = false } ∷ record { slot = 6; source = record { read = D.Held 8 true; bipolar = false; table = false; slew = None }; aux = None; aux_invert = false; bipolar = true; amount = G.Live; output = G.Fed 1 false; voice = true; scale = (fin false 1 (pos 1)); offset = (fin true 1 (pos 0)); simple = false } ∷ record { slot = 1; source = record { read = D.Held 1 false; bipolar = false; table = false; slew = None }; aux = None; aux_invert = false; bipolar = true; amount = G.Live; output = G.Fed 4 false; voice = false; scale = (fin false 1 (pos 1)); offset = (fin true 1 (pos 0)); simple = false } ∷ record { slot = 0; source = record { read = D.Held 2 false; bipolar = false; table = false; slew = None }; aux = None; aux_invert = false; bipolar = true; amount = G.Fed 3 true; output = G.Live; voice = true; scale = (fin false 1 (pos 1)); offset = (fin true 1 (pos 0)); simple = false } ∷ [])
    ([])
unfolding w62 target_place verdict verdicts_from verdicts candidates skipped_of in_use counted_feed used_dests feeder_of readers_of reads hears_audio is_audio controls audios plan_order slew_for input_by route_by route_in plan_by plans_of all_routes order seconds_of rate_per_sample max32 is_nan lt eq mul div
p62 = (refl, refl, refl, refl)

-- gen.py 368
w63 : Wiring
w63 =
    wired (fin false 1953125 (pos 9))
    (source (K.Signal) S.Global R.Unipolar ∷ source (K.Signal) S.Voice R.Unipolar ∷ [])
    (record { target = (A.Param 0); scope = S.Global; rate = T.Control; min = (fin true 1 (pos 0)); max = (fin false 1 (pos 0)); feed = F.Nothing } ∷ record { target = (A.Param 7); scope = S.Voice; rate = T.Adaptive; min = (fin false 0 (pos 0)); max = (fin false 1 (pos 0)); feed = (F.Output 1) } ∷ record { target = (A.Param 14); scope = S.Global; rate = T.Audio; min = (inf true); max = (inf false); feed = (F.Output 1) } ∷ record { target = (A.Param 21); scope = S.Global; rate = T.Adaptive; min = (inf true); max = (inf false); feed = F.Nothing } ∷ [])
    (record { source = None; source_curve = C.Linear; amount = (fin false 0 (pos 0)); polarity = Q.Unipolar; destination = None; aux = None; aux_invert = false; aux_curve = C.Linear; output = (fin false 1 (pos 0)); bypass = false } ∷ record { source = Some 0; source_curve = C.Linear; amount = (fin false 1 (negsuc 0)); polarity = Q.Bipolar; destination = Some (A.Param 14); aux = None; aux_invert = false; aux_curve = C.Linear; output = (fin false 1 (pos 0)); bypass = false } ∷ record { source = Some 128; source_curve = C.Linear; amount = (fin true 1 (pos 0)); polarity = Q.Unipolar; destination = Some (A.Param 14); aux = None; aux_invert = false; aux_curve = C.Linear; output = (fin false 1 (pos 0)); bypass = true } ∷ [])

p63 : Compiles w63
    (record { dest = 2; voice = false; audio = false; min = (inf true); max = (inf false); base = B.Output 1; first = 0; count = 1 } ∷ [])
    1
    (record { slot = 1; source = record { read = D.Signal 0 false; bipolar = false; table = false; slew = None }; aux = None; aux_invert = false; bipolar = true; amount = G.Live; output = G.Fed 0 false; voice = false; scale = (fin false 1 (pos 1)); offset = (fin true 1 (pos 0)); simple = false } ∷ [])
    ([])
unfolding w63 target_place verdict verdicts_from verdicts candidates skipped_of in_use counted_feed used_dests feeder_of readers_of reads hears_audio is_audio controls audios plan_order slew_for input_by route_by route_in plan_by plans_of all_routes order seconds_of rate_per_sample max32 is_nan lt eq mul div
p63 = (refl, refl, refl, refl)
