-- A note as the model has it, and what it sets by the curves and switches of a program. Definitions only.
use Rattle.std.specs.Prelude.{not, ◌||◌, List, Float}
use Rattle.number.specs.Number.{over}
use Rattle.slots_tables.specs.Tables.{velocity_place, key_place}
use Rattle.voice.specs.Notes.{legato_time}
use Rattle.model.specs.NoteCalls.{Note, note_curve, most_key32}
use Rattle.engine_notes.specs.declared.Setting.{Setting}
use Rattle.engine.specs.declared.NoteOn.{NoteOn}
use Rattle.engine.specs.declared.Curves.{Curves}

abbrev pub note_of : NoteOn → Note
note_of n = record { key = n.key; velocity = n.velocity; legato = n.legato; glide_seconds = n.glide_seconds }

abbrev pub setting_by : List Float → Curves → Float → Note → Setting
setting_by tables curves rate n =
    record {
      legato = n.legato;
      time = legato_time n.legato curves.glide n.glide_seconds;
      rate = rate;
      takes = not n.legato || curves.velocity_legato;
      velocity = note_curve tables velocity_place curves.velocity n.velocity;
      key = note_curve tables key_place curves.key (over n.key most_key32);
    }
