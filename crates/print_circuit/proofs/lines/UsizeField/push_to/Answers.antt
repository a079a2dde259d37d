-- A number meets what `Field` asks. Assumes nothing.
use mathlib.Core.List.{append_assoc}
use Rattle.std.proofs.Common.{rules}
use Rattle.print_circuit.specs.Lines.{spaced}
use Rattle.print_circuit.proofs.lines.UsizeField.push_to.Goals as goal

pub returns-clause-text : goal.returns-clause-text
unfolding spaced
returns-clause-text c = search (rules, append_assoc)
