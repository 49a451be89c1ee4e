-- Where the numbers of a destination stand, as it is read (model's specs/Outputs has what is read there). Definitions
-- only.
use Rattle.std.specs.Prelude.{cond, ℕ, ◌+◌, ◌*◌, ◌≤◌}
use Rattle.config.specs.Sizes.{slots, most_frames, most_stride}
use Rattle.state.specs.declared.State.{State}
use Rattle.model.specs.Counts.{frame_count, stride_of, chunks_most, plan_at}
use Rattle.model.specs.Layout.{plan_size, audio_size}
use Rattle.model.specs.Outputs.{plan_place, is_audio_plan, is_control_plan, width_of}
use Rattle.engine_reads.specs.declared.Output.{Output}
use Rattle.engine_reads.specs.declared.Output.TheVariants as O
use Rattle.engine_reads.specs.declared.Spot.{Spot}

unfoldable pub spot_of : State → ℕ → Spot
spot_of st d =
    record {
      audio = is_audio_plan st d;
      control = is_control_plan st d;
      voice = (plan_at st (plan_place st d)).voice;
      width = width_of st d;
      from = plan_place st d * plan_size (stride_of st) (chunks_most st) + 2 * stride_of st;
      to = plan_place st d * plan_size (stride_of st) (chunks_most st) + (2 + chunks_most st) * stride_of st;
      rows = plan_place st d * audio_size (stride_of st) (frame_count st);
    }

-- the shape of an output
abbrev pub shape_by : Spot → ℕ → Output
shape_by s n = cond s.audio (O.Audio s.width) (cond s.control (O.Control s.width n) O.Unmodulated)

-- the furthest that a plan's numbers start: where the audio rows of all plans end
abbrev pub most_start : ℕ
most_start = slots * audio_size most_stride most_frames

-- its numbers are small
pub record Bounded (s : Spot) : Type 0 where
  pub width-least : 1 ≤ s.width
  pub width-most : s.width ≤ most_stride
  pub from_most : s.from ≤ most_start
  pub to_most : s.to ≤ most_start
  pub rows_most : s.rows ≤ most_start
