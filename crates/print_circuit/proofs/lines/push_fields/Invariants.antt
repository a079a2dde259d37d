-- `print_circuit::lines::push_fields`: the fields passed stand behind what the line had. Assumes nothing.
use Prim.Native.Nat.{◌+◌, ◌*◌, ◌≤◌}
use mathlib.Core.Path.{◌≡◌}
use mathlib.Core.List.{◌++◌, map}
use lib.ListN.{length, take}
use Rattle.circuit.specs.Circuit.{join_lists}
use Rattle.print_circuit.proofs.lines.push_fields.Given as goal

abbrev pub invariant-loop-field : goal.invariant-loop-field
invariant-loop-field g l = record {
  text : l.line ≡ l.initial.line ++ join_lists (map g.T.Field.text (take l.field-index l.fields));
  short : length l.line ≤ length l.initial.line + 23 * l.field-index;
}
