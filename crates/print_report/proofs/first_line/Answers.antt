-- `print_report::first_line` meets its contract: the pieces that the calls add make the promised line. Assumes nothing.
use mathlib.Core.List.{append_assoc}
use Rattle.std.proofs.Common.{rules}
use Rattle.print_report.specs.Lines.{first_line}
use Rattle.print_lines.proofs.Within.{given-line}
use Rattle.print_report.proofs.first_line.Goals as goal

pub returns : goal.returns
unfolding first_line
returns c = given-line (search (rules, append_assoc)) c.give.ensures
