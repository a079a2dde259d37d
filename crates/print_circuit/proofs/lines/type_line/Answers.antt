-- `print_circuit::lines::type_line` meets its contract. Assumes nothing.
use mathlib.Core.List.{append-nil, append_assoc}
use Rattle.std.proofs.Common.{rules}
use Rattle.circuit.specs.Circuit.{join_lists}
use Rattle.switch.specs.Records.{type_of}
use Rattle.print_circuit.specs.Lines.{type_line}
use Rattle.print_circuit.proofs.lines.type_line.Goals as goal

pub returns : goal.returns
unfolding type_line type_of join_lists
returns c = search (rules, append-nil, append_assoc)
