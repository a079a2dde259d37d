-- `print_circuit::lines::inputs_line` meets its contract. Assumes nothing.
use mathlib.Core.List.{append-nil}
use Rattle.std.proofs.Common.{rules}
use Rattle.circuit.specs.Circuit.{join_lists}
use Rattle.print_circuit.specs.Lines.{inputs_line}
use Rattle.print_circuit.proofs.lines.inputs_line.Goals as goal

pub returns : goal.returns
unfolding inputs_line join_lists
returns c = search (rules, append-nil)
