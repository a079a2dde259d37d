-- `print_circuit::parts::type_part` meets its contract. Assumes nothing.
use mathlib.Core.Path.{◌≡◌, ap, ◌∙◌}
use mathlib.Core.List.{List, map}
use Prim.Native.Nat.{ℕ, ◌<◌}
use native.Mathlib.Numerals.{add-one}
use native.Mathlib.Omega.{arith}
use lib.ListN.{length, get_or, length-map}
use Rattle.std.specs.Prelude.{Some, slice_get}
use Rattle.std.specs.Option.{option_map}
use Rattle.std.proofs.lemmas.Option.{slice_get-get_or, slice_get-map}
use Rattle.switch.specs.Records.{type_of}
use Rattle.switch.specs.declared.ModuleType.{ModuleType as TypeRecord}
use Rattle.circuit.specs.Limits.{most_types}
use Rattle.print_circuit.specs.Listing.{type_lines}
use Rattle.print_circuit.proofs.SoughtLaws.{past_none, past_more, found_thing, past_all}
use Rattle.print_circuit.proofs.parts.type_part.Goals as goal

here : (types : List TypeRecord) (i : ℕ) (none : TypeRecord) → i < length types → slice_get (map type_of types) i ≡ Some (type_of (get_or types i none))
here types i none h = slice_get-map type_of types i ∙ ap (option_map type_of) (slice_get-get_or types i none h)

pub loop-i-init : goal.loop-i-init
loop-i-init c = past_none type_lines

pub returns-in_err-left : goal.returns-in_err-left
returns-in_err-left c =
    let types = c.args.types.now in
    rw c.from_residual.ensures (found_thing type_lines c.loop-i.invariant (here types c.loop-i.i _ c.loop-i-test.true) most_types
    (omega (arith, length-map types type_of, c.requires)) c.in_err-left.ensures)

pub loop-i-preserved : goal.loop-i-preserved
loop-i-preserved c =
    rw (add-one c.loop-i.i) (past_more type_lines c.loop-i.invariant (here c.args.types.now c.loop-i.i _ c.loop-i-test.true) c.in_ok-left.ensures)

pub returns : goal.returns
returns c =
    let size = length-map c.args.types.now type_of in
    past_all type_lines c.loop-i.invariant most_types (omega (arith, size)) (omega (arith, size, c.requires))
