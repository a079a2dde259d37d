-- `print_circuit::show_piece`: the lines passed stand at the buffer's front. Assumes nothing.
use Prim.Native.Nat.{◌-◌}
use lib.ListN.{length}
use Rattle.print_lines.specs.Pieces.{line_in}
use Rattle.print_lines.proofs.PieceLoop.{PieceSoFar}
use Rattle.print_circuit.specs.Told.{listing_told}
use Rattle.print_circuit.proofs.show_piece.Given as goal

abbrev pub invariant-loop-given : goal.invariant-loop-given
invariant-loop-given l = PieceSoFar (line_in (listing_told l.reading)) (length (listing_told l.reading)) l.from l.initial.out l.next l.count l.out

abbrev pub decreases-loop-given : goal.decreases-loop-given
decreases-loop-given l = length l.initial.out - l.count
