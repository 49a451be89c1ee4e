-- What a line in hand is, from what the grammar says of the line and from its stop. Assumes nothing.
use Rattle.std.proofs.Common.{◌≡◌, Bool, List, ℕ, Option, Some, ap, ◌∙◌}
use Rattle.trace_stops.specs.declared.Stop.{Stop}
use Rattle.trace_grammar.specs.Grammar.{line_of}
use Rattle.trace_lines_answer.specs.declared.Hand.{Hand}
use Rattle.trace_lines_answer.specs.Endings.{after_stop, stop_of, Begun}

-- a stop stands, whatever came before it
stop-stands : (n k b r : Option Stop) (s : Stop) → k ≡ n → r ≡ after_stop b k → n ≡ Some s → r ≡ Some s
unfolding after_stop
stop-stands n k b r s same joined here = joined ∙ ap (after_stop b) (same ∙ here)

pub begun-so :
    (l : List ℕ) (all : Bool) (h : Hand) (k b : Option Stop) →
    h.said ≡ line_of l → k ≡ stop_of h.said all → h.stop ≡ after_stop b k → Begun l all h
begun-so l all h k b said stop joined =
    record { said = said; stopped = λ s. stop-stands (stop_of (line_of l) all) k b h.stop s (stop ∙ ap (λ x. stop_of x all) said) joined }
