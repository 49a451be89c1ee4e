-- Lists of at most as many things as there are slots. Definitions only.
use Rattle.std.specs.Prelude.{cond, false, List, [], ◌∷◌, ◌++◌, ltb, length}
use Rattle.config.specs.Sizes.{slots}
use Rattle.number.specs.Number.{zero32}
use Rattle.state.specs.declared.Skipped.{Skipped}
use Rattle.state.specs.declared.Plan.{Plan}
use Rattle.state.specs.declared.Input.{Input}
use Rattle.state.specs.declared.Route.{Route}
use Rattle.std.specs.Prelude.{None}
use Rattle.state.specs.declared.Base.TheVariants as B
use Rattle.state.specs.declared.Read.TheVariants as D
use Rattle.state.specs.declared.Gain.TheVariants as G
use Rattle.state.specs.declared.Reason.TheVariants as R

-- ---- what stands past the last

abbrev pub no_skip : Skipped
no_skip = record { slot = 0; reason = R.UnknownSource }

abbrev pub no_plan : Plan
no_plan =
    record { dest = 0; voice = false; audio = false; min = zero32; max = zero32; base = B.Set; first = 0; count = 0 }

abbrev pub no_input : Input
no_input = record { read = D.Constant; bipolar = false; table = false; slew = None }

abbrev pub no_route : Route
no_route =
    record {
      slot = 0;
      source = no_input;
      aux = None;
      aux_invert = false;
      bipolar = false;
      amount = G.Live;
      output = G.Live;
      voice = false;
      scale = zero32;
      offset = zero32;
      simple = false;
    }

-- ---- one more

-- one more behind the list, where there is room
abbrev pub added : {A : Type 0} → List A → A → List A
added l x = cond (ltb (length l) slots) (l ++ x ∷ []) l
