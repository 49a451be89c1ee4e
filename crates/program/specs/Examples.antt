-- The definitions, computed.
use Rattle.std.specs.Prelude.{◌≡◌, refl, Bool, true, false, List, [], ◌∷◌, ◌++◌, ℕ, ◌+◌, ◌-◌, ◌*◌, pos, replicate}
use Rattle.std.specs.Prelude.{Float, Some, None}
use Rattle.std.specs.Float.{nan, fin}
use Rattle.std.specs.Float.Ieee.{le}
use Rattle.config.specs.Sizes.{slots}
use Rattle.config.specs.declared.Config.{Config}
use Rattle.feed.specs.Order.{order}
use Rattle.refusal.specs.Judge.{judged}
use Rattle.list.specs.Padded.{padded}
use Rattle.list.specs.Part.{part}
use Rattle.list.specs.Rows.{row_at}
use Rattle.number.specs.Number.{zero32, one32, finite}
use Rattle.curve_table.specs.Table.{points, allowed, all_allowed}
use Rattle.curve_table.specs.Curve.{seconds_finite}
use Rattle.state.specs.declared.NoteCurve.TheVariants as N
use Rattle.state.specs.declared.Base.TheVariants as B
use Rattle.state.specs.declared.Reason.TheVariants as E
use Rattle.state.specs.declared.Rate.TheVariants as R
use Rattle.state.specs.declared.Plan.{Plan}
use Rattle.state.specs.declared.Matrix.{Matrix}
use Rattle.state.specs.declared.Program.{Program}
use Rattle.state.specs.declared.Wiring.{Wiring}
use Rattle.slots.specs.Slots.{empty_slot, numbers_finite, all_finite, with_amount}
use Rattle.slots.specs.Matrix.{new_matrix, with_slots, with_slot, with_velocity}
use Rattle.slots_tables.specs.Tables.{velocity_place, slot_names, any_names, names_table, place_allowed, slot_allowed}
use Rattle.slots_tables.specs.Tables.{slots_allowed, named_allowed}
use Rattle.model.specs.Wiring.{verdict, verdicts_from, verdicts, candidates, skipped_of}
use Rattle.model.specs.Feeds.{in_use, controls, audios, reads, readers_of, is_audio, plan_order}
use Rattle.model.specs.Plans.{plans_of, all_routes, compiled}
use Rattle.model.specs.Compile.{empty_of, empty_program, compile}
use Rattle.program.specs.Readers.{route_count, plan_count, skip_count, plan_at, route_at, skipped_at, rate_from}
use Rattle.program.specs.Readers.{rate_of}
use Rattle.program.specs.Readers.{config_of}

-- ---- what a program tells: destination 5 at audio rate, 7 at control rate; more routes than there can be; slot 9 left
-- out

abbrev plan_of : ℕ → Bool → Plan
plan_of d audio =
    record { dest = d; voice = false; audio = audio; min = zero32; max = one32; base = B.Set; first = 0; count = 1 }

abbrev sized : Config
sized = record { sample_rate = one32; max_frames = 64; voices = 1 }

some : Program
some =
    record {
      config = sized;
      sources = 1;
      dests = 8;
      plans = 2;
      control = 1;
      routes = slots + 1;
      plan = plan_of 7 false ∷ plan_of 5 true ∷ plan_of 6 true ∷ [];
      route = [];
      gains = record { amount = []; output = [] };
      velocity = N.Linear;
      key = N.Linear;
      glide = false;
      velocity_legato = false;
      tabled = false;
      skips = 1;
      skipped = record { slot = 9; reason = E.UnknownAux } ∷ [];
    }

counts : (route_count some ≡ slots) × (plan_count some ≡ 2) × (skip_count some ≡ 1) × (config_of some ≡ sized)
unfolding some route_count plan_count skip_count config_of
counts = (refl, refl, refl, refl)

plans : (plan_at some 1 ≡ Some (plan_of 5 true)) × (plan_at some 2 ≡ None) × (route_at some slots ≡ None)
unfolding some plan_at plan_count route_at route_count
plans = (refl, refl, refl)

left_out : (skipped_at some 0 ≡ Some (record { slot = 9; reason = E.UnknownAux }))
    × (skipped_at some 1 ≡ None)
unfolding some skipped_at skip_count
left_out = (refl, refl)

-- a plan past the count is none: destination 6 has no rate
rates : (rate_of some 5 ≡ Some R.Audio) × (rate_of some 7 ≡ Some R.Control) × (rate_of some 6 ≡ None)
unfolding some rate_of rate_from plan_count
rates = (refl, refl, refl)

-- ---- the rows of `empty` and `compile`

abbrev at : Float → ℕ → Config
at rate frames = record { sample_rate = rate; max_frames = frames; voices = 1 }

empties : (empty_program (at one32 64) ≡ record { code = 0; program = empty_of (at one32 64) })
    × ((empty_program (at nan 5000)).code ≡ 6) × ((empty_program (at one32 4097)).code ≡ 13)
unfolding empty_program finite le
empties = (refl, refl, refl)

abbrev wired : Matrix → Config → Wiring
wired m c =
    record {
      matrix = m;
      sources = record { count = 0; entry = [] };
      dests = record { count = 0; entry = [] };
      config = c;
    }

-- the number of compiling m for c with tables lent and no other memory
abbrev code : Matrix → Config → List Float → ℕ
code m c tables = (compile (wired m c) tables (record { values = []; audio = []; tables = [] })).answer.code

-- a slot's amount that is not a number is 6, before a rate of 0; a named table that is not there is 14, and one that
-- holds 17 is 6; a program without plans needs nothing
codes : (code new_matrix (at one32 64) [] ≡ 0) × (code new_matrix (at zero32 64) [] ≡ 13)
    × (code (with_slot new_matrix (slots - 1) (with_amount nan empty_slot)) (at zero32 64) [] ≡ 6)
    × (code (with_velocity new_matrix N.Table) (at one32 64) [] ≡ 14)
    × (code (with_velocity new_matrix N.Table) (at one32 64)
    (replicate (velocity_place * points) zero32 ++ (fin false 17 (pos 0) ∷ [])) ≡ 6)
unfolding compile judged names_table any_names slot_names named_allowed slots_allowed slot_allowed place_allowed row_at
    part all_allowed allowed all_finite numbers_finite seconds_finite finite le new_matrix with_slot with_slots
    with_velocity with_amount empty_slot compiled padded verdict verdicts_from verdicts candidates skipped_of in_use
    controls audios reads readers_of is_audio plan_order order plans_of all_routes
codes = (refl, refl, refl, refl, refl)
