-- `print_circuit::lines::kind_text` meets its contract. Assumes nothing.
use Rattle.print_circuit.proofs.TextLaws.{kind-n, kind-i}
use Rattle.print_circuit.proofs.lines.kind_text.Goals as goal

pub returns-then-kind-eq0-clause-text : goal.returns-then-kind-eq0-clause-text
returns-then-kind-eq0-clause-text c = kind-n c.args.kind c.if-kind-eq0.true

pub returns-else-kind-eq0-clause-text : goal.returns-else-kind-eq0-clause-text
returns-else-kind-eq0-clause-text c = kind-i c.args.kind c.if-kind-eq0.false
