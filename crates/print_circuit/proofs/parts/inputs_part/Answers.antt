-- `print_circuit::parts::inputs_part` meets its contract. Assumes nothing.
use Rattle.print_circuit.proofs.SoughtLaws.{inputs_none, inputs_here, inputs_past}
use Rattle.print_circuit.proofs.parts.inputs_part.Goals as goal

pub returns-then-inputs-eq0 : goal.returns-then-inputs-eq0
returns-then-inputs-eq0 c = inputs_none _ _ c.if-inputs-eq0.true

pub returns-then-n-eq0 : goal.returns-then-n-eq0
returns-then-n-eq0 c = rw c.inputs_line.ensures (inputs_here c.args.inputs c.args.n c.if-inputs-eq0.false c.if-n-eq0.true)

pub returns : goal.returns
returns c = inputs_past _ _ c.if-inputs-eq0.false c.if-n-eq0.false
