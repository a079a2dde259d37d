-- `print_circuit::parts::item_part` meets its contract. Assumes nothing.
use mathlib.Core.Path.{refl}
use Rattle.std.proofs.lemmas.Option.{slice_get_read}
use Rattle.print_circuit.proofs.parts.item_part.Goals as goal

pub returns-in-Some : goal.returns-in-Some
returns-in-Some g c =
    let item = c.in-Some.item in
    let lookup = c.in-Some.ensures.lookup in
    (item.now, slice_get_read _ _ _ item.now refl lookup.3.0 lookup.1, (item, c.line_of.ensures, refl))
