-- `print_circuit::lines::edge_line` meets its contract. Assumes nothing.
use mathlib.Core.List.{append-nil, append_assoc}
use mathlib.Core.Path.{◌≡◌, ◌∙◌}
use mathlib.Core.Bool.{true, false}
use Rattle.std.proofs.Common.{rules}
use Rattle.switch.specs.Conduction.{by_position}
use Rattle.switch.specs.Records.{edge_of}
use Rattle.circuit.specs.Circuit.{join_lists}
use Rattle.print_circuit.specs.Lines.{edge_line_by}
use Rattle.print_circuit.proofs.TextLaws.{edge-line-is}
use Rattle.print_circuit.proofs.lines.edge_line.Goals as goal

pub returns-then-is_stated : goal.returns-then-is_stated
returns-then-is_stated c = c.pass_line.ensures ∙ edge-line-is c.args.e.now _ true c.if-is_stated.true c.is_stated.ensures

pub returns : goal.returns
unfolding edge_line_by edge_of join_lists
returns c =
    let made : c.push.new.self ≡ edge_line_by by_position (edge_of c.args.e.now) = search (rules, append-nil, append_assoc) in
    made ∙ edge-line-is c.args.e.now _ false c.if-is_stated.false c.is_stated.ensures
