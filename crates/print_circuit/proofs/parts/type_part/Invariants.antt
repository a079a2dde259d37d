-- `print_circuit::parts::type_part`: the lines of the types passed end before the one that is sought. Assumes nothing.
use mathlib.Core.List.{map}
use Rattle.switch.specs.Records.{type_of}
use Rattle.print_circuit.specs.Listing.{type_lines}
use Rattle.print_circuit.specs.Sought.{most_of_type}
use Rattle.print_circuit.proofs.SoughtLaws.{PastThings}
use Rattle.print_circuit.proofs.parts.type_part.Given as goal

abbrev pub invariant-loop-i : goal.invariant-loop-i
invariant-loop-i l = PastThings type_lines most_of_type (map type_of l.types) l.i l.n l.left
