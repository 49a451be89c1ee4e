-- `slots::clear_all` meets its contract. The loop's invariant: the slots before the one at hand are cleared.
use lib.ListN.{get_or}
use Rattle.list.proofs.Filled.{Filled}
use Rattle.slots.specs.Slots.{empty_slot, cleared}
use Rattle.slots.proofs.clear_all.Given as goal

abbrev pub invariant-loop-s : goal.invariant-loop-s
invariant-loop-s l = Filled l.fn.slot (λ k. cleared l.target (get_or l.fn.slot k empty_slot)) l.s-index l.s-items
