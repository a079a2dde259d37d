-- `print_report::Held::line` meets its contract: a refusal, the counts, a row or the rounds, by the line's number. Assumes nothing.
use mathlib.Core.Path.{◌≡◌, ◌∙◌}
use native.Mathlib.Omega.{arith}
use Rattle.std.proofs.Common.{rules}
use Rattle.grading.specs.Promise.{number_why, place_why}
use Rattle.print_lines.specs.Lines.{refusal_line}
use Rattle.print_lines.proofs.Within.{given-line}
use Rattle.print_report.specs.Held.{held_row}
use Rattle.print_report.proofs.HeldLaws.{refused_line, counts_line_lem, row_line_held, rounds_line_held}
use Rattle.print_report.proofs.Held.line.Goals as goal

pub returns-in-Err : goal.returns-in-Err
returns-in-Err c =
    let inside = rw c.in-Err.is at c.requires in
    let said : refusal_line c.number.result c.place.result ≡ refusal_line (number_why c.in-Err.why) (place_why c.in-Err.why)
    = rw (c.number.ensures, c.place.ensures) in
    rw c.in-Err.is (given-line (said ∙ refused_line c.in-Err.why _ _ _ _ inside) c.refusal_line.ensures)

pub returns-in-0 : goal.returns-in-0
returns-in-0 c = rw c.in-Ok.is (given-line (counts_line_lem c.in-Ok.counts _ _ _ _ c.in-0.is) c.first_line.ensures)

pub returns-in_default : goal.returns-in_default
unfolding held_row
returns-in_default c =
    rw c.in-Ok.is (given-line (row_line_held c.in-Ok.counts _ _ _ c.args.number (search rules) c.if-row-counts.true) c.row_line.ensures)

pub returns-in_default-2 : goal.returns-in_default-2
returns-in_default-2 c =
    let inside = rw c.in-Ok.is at c.requires in
    rw c.in-Ok.is (given-line (rounds_line_held c.in-Ok.counts _ _ _ _ inside (omega arith)) c.rounds_line.ensures)
