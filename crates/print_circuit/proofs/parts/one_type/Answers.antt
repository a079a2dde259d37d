-- `print_circuit::parts::one_type` meets its contract. Assumes nothing.
use native.Mathlib.Omega.{arith}
use Rattle.switch.specs.Records.{type_of}
use Rattle.switch.specs.Modules.{most_edges}
use Rattle.print_circuit.specs.Lines.{type_line}
use Rattle.print_circuit.specs.Listing.{type_lines}
use Rattle.print_circuit.proofs.SoughtLaws.{first_found, later_finds}
use Rattle.print_circuit.proofs.parts.one_type.Goals as goal

pub returns-then-n-eq0 : goal.returns-then-n-eq0
unfolding type_lines
returns-then-n-eq0 c =
    rw c.type_line.ensures (first_found (type_line c.args.number (type_of c.args.t.now)) _ c.if-n-eq0.true (omega arith))

pub returns : goal.returns
unfolding type_lines type_of
returns c = later_finds _ _ most_edges _ c.if-n-eq0.false c.edge_part.result (rw (← c.used.ensures.used) c.edge_part.ensures)
