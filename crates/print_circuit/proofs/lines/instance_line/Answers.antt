-- `print_circuit::lines::instance_line` meets its contract. Assumes nothing.
use mathlib.Core.List.{append_assoc}
use Rattle.std.proofs.Common.{rules}
use Rattle.print_circuit.specs.Lines.{instance_line}
use Rattle.print_circuit.specs.Told.{instance_with}
use Rattle.print_circuit.proofs.LineLaws.{fields_one}
use Rattle.print_circuit.proofs.TextLaws.{references_are}
use Rattle.print_circuit.proofs.lines.instance_line.Goals as goal

pub returns : goal.returns
unfolding instance_line instance_with
returns c = search (rules, append_assoc, fields_one, references_are)
