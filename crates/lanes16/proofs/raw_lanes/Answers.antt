-- `lanes16::raw_lanes` meets its contract.
use mathlib.Core.Path.{sym, ◌∙◌}
use Prim.Native.Nat.{◌+◌}
use native.Mathlib.Omega.{arith}
use native.Mathlib.Nat.{add_assoc}
use Rattle.lanes16.proofs.raw_lanes.Goals as goal

pub overflow_add-start : goal.overflow_add-start
overflow_add-start c = let p = c.requires in omega (arith, p.2, rw c.in-Held.is at p.3)

pub copied-requires : goal.copied-requires
copied-requires c = let p = c.requires in omega (arith, p.2, rw c.in-Held.is at p.3)

pub overflow_add-start-in-Values : goal.overflow_add-start-in-Values
overflow_add-start-in-Values c = let p = c.requires in omega (arith, p.2, rw c.in-Values.is at p.3)

pub copied-requires-in-Values : goal.copied-requires-in-Values
copied-requires-in-Values c = let p = c.requires in omega (arith, p.2, rw c.in-Values.is at p.3)

pub overflow_add-start-in-Samples : goal.overflow_add-start-in-Samples
overflow_add-start-in-Samples c = let p = c.requires in omega (arith, p.2, rw c.in-Samples.is at p.3)

pub copied-requires-in-Samples : goal.copied-requires-in-Samples
copied-requires-in-Samples c = let p = c.requires in omega (arith, p.2, rw c.in-Samples.is at p.3)

pub returns-in-Held : goal.returns-in-Held
returns-in-Held c = λ t f s j e d l h. let p = c.requires in (rw add_assoc at (c.copied.ensures l h)) ∙ sym (rw c.in-Held.is at (d (c.args.lane + l) (omega (arith, p.2))))

pub returns-in-Values : goal.returns-in-Values
returns-in-Values c = λ t f s j e d l h. let p = c.requires in (rw add_assoc at (c.copied-in-Values.ensures l h)) ∙ sym (rw c.in-Values.is at (d (c.args.lane + l) (omega (arith, p.2))))

pub returns-in-Samples : goal.returns-in-Samples
returns-in-Samples c = λ t f s j e d l h. let p = c.requires in (rw add_assoc at (c.copied-in-Samples.ensures l h)) ∙ sym (rw c.in-Samples.is at (d (c.args.lane + l) (omega (arith, p.2))))

pub returns-in-Nowhere : goal.returns-in-Nowhere
returns-in-Nowhere c = λ t f s j e d l h. c.read_lanes.ensures t f s j e l h
