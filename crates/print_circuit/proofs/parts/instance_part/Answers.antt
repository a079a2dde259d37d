-- `print_circuit::parts::instance_part` meets its contract. Assumes nothing.
use Prim.Native.Nat.{◌+◌}
use mathlib.Core.List.{map}
use borrow.Author.Rules.{rules}
use Rattle.switch.specs.Records.{type_of}
use Rattle.circuit.specs.Limits.{most_instances}
use Rattle.print_circuit.specs.Lines.{instance_line}
use Rattle.print_circuit.specs.Told.{instance_told}
use Rattle.print_circuit.proofs.SoughtLaws.{found_item, numbered_size, numbered_at}
use Rattle.print_circuit.proofs.parts.instance_part.Goals as goal

pub returns : goal.returns
unfolding instance_told
returns c =
    let instances = c.args.instances.now in
    let told = instance_told (map type_of c.args.types.now) in
    found_item instances c.args.n (λ i. instance_line (c.args.n + 1) (told i)) _ most_instances (numbered_size told instances instance_line) c.requires
    (λ i at. numbered_at told instances instance_line _ at) (λ i line says. search rules)
    c.item_part.result c.item_part.ensures
