-- `print_report::report_piece` meets its contract. The loop's invariant: the lines passed stand at the buffer's front. Assumes nothing.
use Rattle.print_lines.proofs.PieceLoop.{PieceSoFar}
use Rattle.print_report.specs.Held.{held_line, held_count}
use Rattle.print_report.proofs.report_piece.Given as goal

abbrev pub invariant-loop-next : goal.invariant-loop-next
invariant-loop-next l =
    let held = l.held in
    let line = held_line held.answer held.codes.now held.matrix.now held.classes.now in
    PieceSoFar line (held_count held.answer) l.from l.initial.out l.next l.count l.out
