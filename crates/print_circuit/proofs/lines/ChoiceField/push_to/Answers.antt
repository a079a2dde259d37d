-- A list choice meets what `Field` asks. Assumes nothing.
use Rattle.std.proofs.Common.{rules}
use Rattle.print_circuit.proofs.TextLaws.{choice_255, choice-other}
use Rattle.print_circuit.proofs.lines.ChoiceField.push_to.Goals as goal

pub returns-then-self-clause-text : goal.returns-then-self-clause-text
returns-then-self-clause-text c = search (rules, choice_255)

pub returns-else-self-clause-text : goal.returns-else-self-clause-text
returns-else-self-clause-text c = search (rules, choice-other)
