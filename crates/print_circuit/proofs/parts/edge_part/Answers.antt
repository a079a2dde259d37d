-- `print_circuit::parts::edge_part` meets its contract. Assumes nothing.
use borrow.Author.Rules.{rules}
use Rattle.switch.specs.Modules.{most_edges}
use Rattle.switch.specs.Records.{edge_of, edges_of}
use Rattle.print_circuit.specs.Lines.{edge_line}
use Rattle.print_circuit.proofs.SoughtLaws.{found_item, mapped_size, mapped_at}
use Rattle.print_circuit.proofs.parts.edge_part.Goals as goal

pub returns : goal.returns
unfolding edges_of
returns c =
    let edges = c.args.edges.now in
    found_item edges c.args.n (λ e. edge_line (edge_of e)) _ most_edges (mapped_size edge_of edges edge_line) c.requires
    (λ e at. mapped_at edge_of edges edge_line _ at) (λ e line says. search rules)
    c.item_part.result c.item_part.ensures
