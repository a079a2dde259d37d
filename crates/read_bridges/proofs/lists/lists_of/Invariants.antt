-- `read_bridges::lists::lists_of` meets its contract. The loop's invariant: the lists are summed as far as the bridges have been seen.
-- Assumes nothing.
use mathlib.Core.Path.{◌≡◌}
use mathlib.Core.List.{List}
use lib.ListN.{take}
use Rattle.circuit.specs.Circuit.{Listed}
use Rattle.read_bridges.specs.ListSums.{lists_of}
use Rattle.read_bridges.proofs.ListLaws.{ToldBy}
use Rattle.read_bridges.proofs.lists.lists_of.Given as goal

abbrev pub invariant-loop-b : goal.invariant-loop-b
invariant-loop-b l = (bs : List Listed) → ToldBy l.bridges bs → l.lists ≡ lists_of (take l.b-index bs)
