-- `print_lines::refusal_line` meets its contract: the pieces that the calls add make the promised line. Assumes nothing.
use mathlib.Core.List.{append_assoc}
use Rattle.std.proofs.Common.{rules}
use Rattle.print_lines.specs.Lines.{refusal_line}
use Rattle.print_lines.proofs.Within.{given-line}
use Rattle.print_lines.proofs.refusal_line.Goals as goal

pub returns : goal.returns
unfolding refusal_line
returns c = given-line (search (rules, append_assoc)) c.give.ensures
