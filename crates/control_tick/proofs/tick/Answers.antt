-- `control_tick::tick` meets its contract.
use mathlib.Core.Path.{sym}
use Rattle.control_tick.proofs.Turned.{turns-none, tick-end}
use borrow.Author.Rules.{rules}
use Rattle.control_tick.proofs.tick.Goals as goal

pub returns-then-control-eq0 : goal.returns-then-control-eq0
returns-then-control-eq0 c =
    let a = c.args in
    λ st t of g. tick-end st t a.phase a.values.now 0 a.control _ (turns-none st t _ _) (sym c.if-control-eq0.true) of.control

pub turns_of-requires : goal.turns_of-requires
turns_of-requires c =
    (record { fits = c.requires.0; control = c.requires.1; simples = c.simples_of-simples.ensures }, search rules)

pub returns : goal.returns
returns c =
    λ st t of g. c.turns_of.ensures st t (of, g)
