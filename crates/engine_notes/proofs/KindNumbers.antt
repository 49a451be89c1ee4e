-- Kinds by number: each test of a kind is one of its number. Assumes nothing.
use mathlib.Core.Path.{◌≡◌, refl}
use mathlib.Core.Bool.{Bool, true, false, cond}
use mathlib.Core.List.{List}
use Prim.Native.Nat.{ℕ}
use lib.Dec.{eqb, leb}
use lib.ListN.{set}
use lib.Ieee.{Float}
use Rattle.number.specs.Number.{zero32}
use Rattle.state.specs.declared.Kind.{Kind}
use Rattle.state.specs.declared.Kind.TheVariants as K
use Rattle.model.specs.World.{is_velocity, is_key, is_release, is_random}
use Rattle.model.specs.NoteCalls.{is_alternate, alternate_in}
use Rattle.engine_notes.specs.Noting.{note_kind, alternate_by}

pub velocity-kind : (k : Kind) → is_velocity k ≡ eqb (note_kind k) 1
velocity-kind K.Signal = refl
velocity-kind K.Audio = refl
velocity-kind K.Held = refl
velocity-kind K.Velocity = refl
velocity-kind K.Key = refl
velocity-kind K.ReleaseVelocity = refl
velocity-kind K.Random = refl
velocity-kind (K.Alternate true) = refl
velocity-kind (K.Alternate false) = refl
velocity-kind K.RandomPerRoute = refl
velocity-kind K.VoiceLoad = refl
velocity-kind K.Constant = refl

pub key-kind : (k : Kind) → is_key k ≡ eqb (note_kind k) 2
key-kind K.Signal = refl
key-kind K.Audio = refl
key-kind K.Held = refl
key-kind K.Velocity = refl
key-kind K.Key = refl
key-kind K.ReleaseVelocity = refl
key-kind K.Random = refl
key-kind (K.Alternate true) = refl
key-kind (K.Alternate false) = refl
key-kind K.RandomPerRoute = refl
key-kind K.VoiceLoad = refl
key-kind K.Constant = refl

pub release-kind : (k : Kind) → is_release k ≡ eqb (note_kind k) 3
release-kind K.Signal = refl
release-kind K.Audio = refl
release-kind K.Held = refl
release-kind K.Velocity = refl
release-kind K.Key = refl
release-kind K.ReleaseVelocity = refl
release-kind K.Random = refl
release-kind (K.Alternate true) = refl
release-kind (K.Alternate false) = refl
release-kind K.RandomPerRoute = refl
release-kind K.VoiceLoad = refl
release-kind K.Constant = refl

pub random-kind : (k : Kind) → is_random k ≡ eqb (note_kind k) 4
random-kind K.Signal = refl
random-kind K.Audio = refl
random-kind K.Held = refl
random-kind K.Velocity = refl
random-kind K.Key = refl
random-kind K.ReleaseVelocity = refl
random-kind K.Random = refl
random-kind (K.Alternate true) = refl
random-kind (K.Alternate false) = refl
random-kind K.RandomPerRoute = refl
random-kind K.VoiceLoad = refl
random-kind K.Constant = refl

-- only an alternate kind is written, so only there the values have to agree
pub alternate-kind : (k : Kind) (on : Bool) (m : List Float) (i : ℕ)
    → cond (is_alternate k) (set m i (alternate_in on k zero32)) m ≡ cond (leb 5 (note_kind k)) (set m i (alternate_by (note_kind k) on)) m
alternate-kind K.Signal on m i = refl
alternate-kind K.Audio on m i = refl
alternate-kind K.Held on m i = refl
alternate-kind K.Velocity on m i = refl
alternate-kind K.Key on m i = refl
alternate-kind K.ReleaseVelocity on m i = refl
alternate-kind K.Random on m i = refl
alternate-kind (K.Alternate true) on m i = refl
alternate-kind (K.Alternate false) on m i = refl
alternate-kind K.RandomPerRoute on m i = refl
alternate-kind K.VoiceLoad on m i = refl
alternate-kind K.Constant on m i = refl
