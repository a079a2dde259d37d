-- A reference meets what `Field` asks. Assumes nothing.
use mathlib.Core.List.{append_assoc}
use Rattle.std.proofs.Common.{rules}
use Rattle.print_circuit.specs.Lines.{reference_text}
use Rattle.print_circuit.specs.Told.{reference_told}
use Rattle.print_circuit.proofs.lines.ReferenceField.push_to.Goals as goal

pub returns-in-Input-clause-text : goal.returns-in-Input-clause-text
unfolding reference_text reference_told
returns-in-Input-clause-text c = search rules

pub returns-in-Earlier-clause-text : goal.returns-in-Earlier-clause-text
unfolding reference_text reference_told
returns-in-Earlier-clause-text c = search (rules, append_assoc)
