-- `engine_notes::no_voice` meets its contract.
use mathlib.Core.Path.{◌≡◌}
use Prim.Native.Nat.{min}
use native.Mathlib.Omega.{arith}
use Rattle.engine_notes.proofs.no_voice.Goals as goal

pub returns-then-voices-gt-VOICES : goal.returns-then-voices-gt-VOICES
returns-then-voices-gt-VOICES c =
    let e : min c.args.voices 64 ≡ 64 = omega arith in
    rw e

pub returns : goal.returns
returns c =
    let e : min c.args.voices 64 ≡ c.args.voices = omega arith in
    rw e
