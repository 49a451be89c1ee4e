-- What dragging a source onto a control makes: the polarity and the amount of its route (matrix.rs 350-365, 416-441).
-- Definitions only.
use Rattle.std.specs.Prelude.{Bool, false, not, cond, ◌&&◌, negsuc, Float}
use Rattle.std.specs.Float.{fin}
use Rattle.std.specs.Float.Ieee.{neg, le}
use Rattle.number.specs.Number.{zero32, half32, one32, less, finite, min32, clamp_to, abs_of}
use Rattle.state.specs.declared.Polarity.{Polarity}
use Rattle.state.specs.declared.Polarity.TheVariants as L

-- row 6 of a call that takes two numbers
unfoldable pub both_finite : Float → Float → Bool
both_finite a b = finite a && finite b

-- ---- polarity

-- the binary32 nearest to 0.005 (matrix.rs 18)
abbrev pub centre_tolerance : Float
centre_tolerance = fin false 5368709 (negsuc 29)

-- within the tolerance of the middle of the travel (matrix.rs 421)
unfoldable pub centred : Float → Bool
centred at = le (abs_of (less at half32)) centre_tolerance

-- both ways, or one way
unfoldable pub two_way : Bool → Polarity
two_way both = cond both L.Bipolar L.Unipolar

-- both ways where the control is centred; the other one with the toggle (matrix.rs 420-426)
unfoldable pub polarity_at : Float → Bool → Polarity
polarity_at at toggle = two_way (cond toggle (not (centred at)) (centred at))

-- ---- depth

-- up to the top, or down to the bottom for an amount below 0 (matrix.rs 436-437)
unfoldable pub one_way_room : Float → Float → Float
one_way_room at x = cond (le zero32 x) (less one32 at) at

-- a route both ways has the room to the nearer end (matrix.rs 435-439)
abbrev pub room_at : Float → Polarity → Float → Float
room_at at L.Unipolar x = one_way_room at x
room_at at L.Bipolar x = min32 at (less one32 at)

-- the amount clamped to the room (matrix.rs 440)
unfoldable pub within : Float → Float → Float
within room x = clamp_to (neg room) room x

-- the room is that of the position held to the travel (matrix.rs 433-441)
unfoldable pub depth_at : Float → Polarity → Float → Float
depth_at at p x = within (room_at (clamp_to zero32 one32 at) p x) x

-- the amount of a drag, before it is kept (matrix.rs 359-363)
unfoldable pub dragged_amount : Float → Polarity → Float → Bool → Float
dragged_amount at p x limit = cond limit (depth_at at p x) x
