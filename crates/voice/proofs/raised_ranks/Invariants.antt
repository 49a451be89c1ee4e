-- `voice::raised_ranks` meets its contract. The invariant: the ranks before the one at hand are raised.
use Prim.Native.Nat.{ℕ}
use lib.ListN.{get_or}
use Rattle.list.proofs.Filled.{Filled}
use Rattle.voice.specs.Voices.{raised}
use Rattle.voice.proofs.raised_ranks.Given as goal

abbrev pub invariant-loop-x : goal.invariant-loop-x
invariant-loop-x l = Filled l.fn.rank (λ (i : ℕ). raised l.limit (get_or l.fn.rank i 0)) l.x-index l.x-items
