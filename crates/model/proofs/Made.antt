-- What is known of the calls that make programs: a refused compile leaves the memories as they came, and the empty program is what compiling an empty
-- matrix against empty registries gives. Assumes nothing.
use mathlib.Core.Path.{◌≡◌, refl}
use mathlib.Core.Logic.{◌≢◌}
use mathlib.Core.List.{List}
use borrow.Author.Tests.{ne_eqb}
use lib.Ieee.{Float}
use Rattle.config.specs.declared.Config.{Config}
use Rattle.refusal.specs.Judge.{judged}
use Rattle.list.specs.Padded.{padded}
use Rattle.feed.specs.Order.{order}
use Rattle.state.specs.declared.Source.{Source}
use Rattle.state.specs.declared.Dest.{Dest}
use Rattle.state.specs.declared.Wiring.{Wiring}
use Rattle.slots.specs.Slots.{empty_slot}
use Rattle.slots.specs.Matrix.{new_matrix}
use Rattle.slots_tables.specs.Tables.{slot_names, any_names, names_table}
use Rattle.model.specs.Wiring.{verdict, verdicts_from, verdicts, candidates, skipped_of}
use Rattle.model.specs.Feeds.{in_use, controls, audios, reads, readers_of, is_audio, plan_order}
use Rattle.model.specs.Plans.{plans_of, all_routes, compiled}
use Rattle.model.specs.Compile.{Memories, empty_of, compile_rows, compile}

-- a refused compile leaves every lent number as it was
pub compile-refused : (w : Wiring) (tables : List Float) (l : Memories) → (compile w tables l).answer.code ≢ 0 → (compile w tables l).lent ≡ l
unfolding compile
compile-refused w tables l h = simp (ne_eqb (judged (compile_rows w tables l)) 0 h)

-- nothing registered, whatever the entries hold
abbrev pub nothing : List Source → List Dest → Config → Wiring
nothing ss ds c =
    record { matrix = new_matrix; sources = record { count = 0; entry = ss }; dests = record { count = 0; entry = ds }; config = c }

pub empty-is-compiled : (ss : List Source) (ds : List Dest) (c : Config) → compiled (nothing ss ds c) ≡ empty_of c
unfolding compiled empty_of padded verdict verdicts_from verdicts candidates skipped_of in_use controls audios reads readers_of is_audio plan_order order plans_of all_routes new_matrix empty_slot slot_names any_names names_table
empty-is-compiled ss ds c = refl
