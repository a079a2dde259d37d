-- `print_circuit::parts::vector_part` meets its contract. Assumes nothing.
use Prim.Native.Nat.{◌+◌}
use borrow.Author.Rules.{rules}
use Rattle.circuit.specs.Limits.{most_vectors}
use Rattle.print_circuit.specs.Lines.{vector_line}
use Rattle.print_circuit.specs.Told.{vector_told}
use Rattle.print_circuit.proofs.SoughtLaws.{found_item, numbered_size, numbered_at}
use Rattle.print_circuit.proofs.parts.vector_part.Goals as goal

pub returns : goal.returns
returns c =
    let vectors = c.args.vectors.now in
    let told = vector_told c.args.inputs in
    found_item vectors c.args.n (λ v. vector_line (c.args.n + 1) (told v)) _ most_vectors (numbered_size told vectors vector_line) c.requires
    (λ v at. numbered_at told vectors vector_line _ at) (λ v line says. search rules)
    c.item_part.result c.item_part.ensures
