-- `print_circuit::lines::pass_line` meets its contract. Assumes nothing.
use mathlib.Core.List.{append-nil, append_assoc}
use Rattle.std.proofs.Common.{rules}
use Rattle.switch.specs.Records.{edge_of}
use Rattle.circuit.specs.Circuit.{join_lists}
use Rattle.print_circuit.specs.Lines.{edge_line_by}
use Rattle.print_circuit.proofs.lines.pass_line.Goals as goal

pub returns : goal.returns
unfolding edge_line_by edge_of join_lists
returns c = search (rules, append-nil, append_assoc)
