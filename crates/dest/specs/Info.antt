-- Entries by steps, as a plug-in writes them (dest.rs 87-195). Labels are left out. Definitions only.
use Rattle.std.specs.Prelude.{◌≡◌, refl, true, false, ℕ, pos, Float}
use Rattle.std.specs.Float.{inf, fin}
use Rattle.number.specs.Number.{zero32, one32}
use Rattle.state.specs.declared.Target.TheVariants.{Param, LfoBus}
use Rattle.state.specs.declared.Scope.{Scope}
use Rattle.state.specs.declared.Scope.TheVariants as S
use Rattle.state.specs.declared.Rate.{Rate}
use Rattle.state.specs.declared.Rate.TheVariants as R
use Rattle.state.specs.declared.Feed.{Feed}
use Rattle.state.specs.declared.Feed.TheVariants as F
use Rattle.dest.specs.declared.DestInfo.{DestInfo}

abbrev pub minus_one32 : Float
minus_one32 = fin true 1 (pos 0)

-- ---- one field at a time

abbrev pub with_scope : Scope → DestInfo → DestInfo
with_scope s d = record { target = d.target; scope = s; rate = d.rate; min = d.min; max = d.max; feed = d.feed }

abbrev pub with_rate : Rate → DestInfo → DestInfo
with_rate r d = record { target = d.target; scope = d.scope; rate = r; min = d.min; max = d.max; feed = d.feed }

-- dest.rs 139-142
abbrev pub dest_voice : DestInfo → DestInfo
dest_voice d = with_scope S.Voice d

-- dest.rs 146-149
abbrev pub dest_global : DestInfo → DestInfo
dest_global d = with_scope S.Global d

-- dest.rs 153-156
abbrev pub dest_audio : DestInfo → DestInfo
dest_audio d = with_rate R.Audio d

-- dest.rs 160-163
abbrev pub dest_control : DestInfo → DestInfo
dest_control d = with_rate R.Control d

-- dest.rs 167-170
abbrev pub dest_adaptive : DestInfo → DestInfo
dest_adaptive d = with_rate R.Adaptive d

-- dest.rs 174-178
abbrev pub dest_bounds : DestInfo → Float → Float → DestInfo
dest_bounds d lo hi = record { target = d.target; scope = d.scope; rate = d.rate; min = lo; max = hi; feed = d.feed }

-- dest.rs 183-185
abbrev pub dest_unbounded : DestInfo → DestInfo
dest_unbounded d = dest_bounds d (inf true) (inf false)

-- the feed, and control rate (dest.rs 190-194)
abbrev pub dest_feeds : DestInfo → Feed → DestInfo
dest_feeds d f = record { target = d.target; scope = d.scope; rate = R.Control; min = d.min; max = d.max; feed = f }

-- ---- whole entries

-- dest.rs 90-100
abbrev pub param_info : ℕ → DestInfo
param_info id =
    record { target = Param id; scope = S.Global; rate = R.Control; min = zero32; max = one32; feed = F.Nothing }

-- dest.rs 105-115
abbrev pub lfo_bus_info : ℕ → ℕ → DestInfo
lfo_bus_info lfo bus =
    record {
      target = LfoBus lfo bus;
      scope = S.Voice;
      rate = R.Control;
      min = minus_one32;
      max = one32;
      feed = F.Nothing;
    }

-- dest.rs 119-121
abbrev pub macro_info : ℕ → ℕ → DestInfo
macro_info id source = dest_feeds (param_info id) (F.Source source)

-- dest.rs 125-129
abbrev pub slot_amount_info : ℕ → ℕ → DestInfo
slot_amount_info id slot = dest_feeds (dest_bounds (param_info id) minus_one32 one32) (F.Amount slot)

-- dest.rs 133-135
abbrev pub slot_output_info : ℕ → ℕ → DestInfo
slot_output_info id slot = dest_feeds (param_info id) (F.Output slot)

-- ---- examples

amount : slot_amount_info 7 3 ≡ record {
  target = Param 7;
  scope = S.Global;
  rate = R.Control;
  min = minus_one32;
  max = one32;
  feed = F.Amount 3;
}
amount = refl

-- a feed takes the rate back to control; a later step may set it again
fed : dest_feeds (dest_audio (dest_voice (param_info 7))) (F.Source 2)
    ≡ record { target = Param 7; scope = S.Voice; rate = R.Control; min = zero32; max = one32; feed = F.Source 2 }
fed = refl

tuning : dest_adaptive (dest_unbounded (lfo_bus_info 1 2))
    ≡ record {
      target = LfoBus 1 2;
      scope = S.Voice;
      rate = R.Adaptive;
      min = inf true;
      max = inf false;
      feed = F.Nothing;
    }
tuning = refl
