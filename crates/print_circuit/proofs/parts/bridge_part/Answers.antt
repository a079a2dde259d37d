-- `print_circuit::parts::bridge_part` meets its contract. Assumes nothing.
use borrow.Author.Rules.{rules}
use Rattle.circuit.specs.Limits.{most_bridges}
use Rattle.print_circuit.specs.Lines.{bridge_line}
use Rattle.print_circuit.specs.Told.{listed_told}
use Rattle.print_circuit.proofs.SoughtLaws.{found_item, mapped_size, mapped_at}
use Rattle.print_circuit.proofs.parts.bridge_part.Goals as goal

pub returns : goal.returns
returns c =
    let bridges = c.args.bridges.now in
    found_item bridges c.args.n (λ b. bridge_line (listed_told b)) _ most_bridges (mapped_size listed_told bridges bridge_line) c.requires
    (λ b at. mapped_at listed_told bridges bridge_line _ at) (λ b line says. search rules)
    c.item_part.result c.item_part.ensures
