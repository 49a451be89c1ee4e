-- `engine_reads::write_latest` meets its contract.
use mathlib.Core.Path.{◌∙◌}
use Rattle.engine_reads.proofs.Latests.{by-none, by-audio, by-control, by-neither}
use Rattle.engine_reads.proofs.write_latest.Goals as goal

pub returns-in_default : goal.returns-in_default
returns-in_default c =
    let a = c.args in
    c.write_none.ensures ∙ by-none a.values.now a.audio.now a.spot a.last a.active a.voices a.out.now c.in_default.is

pub returns-then-spot : goal.returns-then-spot
returns-then-spot c =
    let a = c.args in
    c.write_lanes.ensures ∙ by-audio a.values.now a.audio.now a.spot a.last a.active a.voices a.out.now _ c.in-Some.is c.if-spot.true

pub returns-then-spot-2 : goal.returns-then-spot-2
returns-then-spot-2 c =
    let a = c.args in
    c.write_lanes-then-spot-2.ensures ∙ by-control a.values.now a.audio.now a.spot a.last a.active a.voices a.out.now _ c.in-Some.is c.if-spot.false c.if-spot-2.true

pub returns : goal.returns
returns c =
    let a = c.args in
    c.write_none-2.ensures ∙ by-neither a.values.now a.audio.now a.spot a.last a.active a.voices a.out.now _ c.in-Some.is c.if-spot.false c.if-spot-2.false
