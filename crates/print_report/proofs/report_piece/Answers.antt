-- `print_report::report_piece` meets its contract. The loop's invariant: the lines passed stand at the buffer's front. Assumes nothing.
use mathlib.Core.Path.{◌≡◌}
use native.Mathlib.Omega.{arith}
use Rattle.print_lines.proofs.PieceLoop.{piece-begins, piece_ends, piece_grows, piece_full}
use Rattle.print_report.proofs.HeldIsReport.{report_piece}
use Rattle.print_report.proofs.report_piece.Goals as goal

pub loop-next-init : goal.loop-next-init
loop-next-init c = piece-begins

pub loop-next-preserved : goal.loop-next-preserved
loop-next-preserved c = piece_grows c.loop-next.invariant c.line.ensures c.in-Some.is (omega arith)

pub returns-in_default : goal.returns-in_default
returns-in_default c = report_piece _ _ _ _ _ _ _ _ (piece_full c.loop-next.invariant c.line.ensures c.in_default.is)

pub returns : goal.returns
returns c =
    let end : c.max.result ≡ c.loop-next.next = omega (arith, c.max.ensures, c.loop-next.invariant.within) in
    report_piece _ _ _ _ _ _ _ _ (rw end (piece_ends c.loop-next.invariant (omega arith)))
