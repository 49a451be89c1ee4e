-- What moves from chunk to chunk of a block whose plans all have audio and are swept. Definitions only.
use Rattle.std.specs.Prelude.{false, ◌-◌}
use Rattle.state.specs.declared.Block.{Block}
use Rattle.state.specs.declared.Chunk.{Chunk}
use Rattle.state.specs.declared.State.{State}
use Rattle.model.specs.Counts.{voice_count, stride_of, engine_sources}
use Rattle.model.specs.States.{with_velocity, with_key, with_primed}
use Rattle.block.specs.declared.Glides.{Glides}
use Rattle.block.specs.declared.Moving.{Moving}

-- as it stands in st
abbrev pub moving_of : State → Moving
moving_of st = record { primed = st.primed; velocity = st.velocity; key = st.key }

-- st with what has moved
abbrev pub moved_by : State → Moving → State
moved_by st m = with_key (with_velocity (with_primed st m.primed) m.velocity) m.key

-- what its glides go by
abbrev pub glides_of : State → Glides
glides_of st = record { mark = st.mark; stride = stride_of st; sources = engine_sources st; voices = voice_count st }

-- a block as one chunk
abbrev pub whole_of : Block → Chunk
whole_of b = record { start = b.start; len = b.end - b.start; phase = 0; tick = false }
