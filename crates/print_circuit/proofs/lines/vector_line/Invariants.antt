-- `print_circuit::lines::vector_line`: the letters of the inputs passed stand behind the line's front. Assumes nothing.
use Prim.Native.Nat.{◌+◌, ◌≤◌}
use mathlib.Core.Path.{◌≡◌}
use mathlib.Core.List.{◌++◌}
use lib.ListN.{length}
use Rattle.words.specs.Tables.{table}
use Rattle.print_circuit.proofs.TextLaws.{letter_at}
use Rattle.print_circuit.proofs.lines.vector_line.Given as goal

abbrev pub invariant-loop-i : goal.invariant-loop-i
invariant-loop-i l = record {
  text : l.line ≡ l.initial.line ++ table l.i (letter_at l.v);
  short : length l.line ≤ 53 + l.i;
}
