-- `print_report::row_line` meets its contract: the pieces that the calls add make the promised line. Assumes nothing.
use Rattle.std.proofs.Common.{rules}
use Rattle.print_report.specs.Lines.{row_line}
use Rattle.print_lines.proofs.Within.{given-line}
use Rattle.print_report.proofs.row_line.Goals as goal

pub returns : goal.returns
unfolding row_line
returns c = given-line (search rules) c.give.ensures
