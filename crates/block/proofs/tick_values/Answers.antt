-- `block::tick_values` meets its contract.
use native.Mathlib.Omega.{arith}
use Rattle.lane_input.specs.Scene.{env_of}
use Rattle.block.specs.Scenes.{scene_of}
use Rattle.block.proofs.Steps.{scene-fits, is-tick, given}
use Rattle.block.proofs.tick_values.Goals as goal

pub tick-requires : goal.tick-requires
tick-requires c =
    let a = c.args in
    let s = c.scene_of-scene in
    (scene-fits a.state a.chunk a.snap a.signals s.result s.ensures _ _ c.most_chunks-chunks.ensures c.at_most-plans.ensures, omega (arith, c.at_most-control.ensures))

pub returns : goal.returns
returns c =
    let a = c.args in
    let s = c.scene_of-scene in
    let t = env_of (scene_of a.state a.chunk a.snap) a.held.now a.globals.now a.bases.now a.tables.now a.samples.now a.signals in
    c.tick.ensures a.state t
    (is-tick a.state a.chunk a.snap a.signals s.result s.ensures _ _ _ c.at_most-control.ensures c.most_chunks-chunks.ensures c.at_most-plans.ensures)
    (given a.state a.chunk a.snap a.signals s.result s.ensures a.held.now a.globals.now a.bases.now a.tables.now a.samples.now)
