-- `print_circuit::lines::channel_text` meets its contract. Assumes nothing.
use mathlib.Core.Bool.{true, false}
use Rattle.print_circuit.specs.Lines.{channel_text}
use Rattle.print_circuit.proofs.TextLaws.{channel-is}
use Rattle.print_circuit.proofs.lines.channel_text.Goals as goal

pub returns-then-is_p-clause-text : goal.returns-then-is_p-clause-text
unfolding channel_text
returns-then-is_p-clause-text c = channel-is c.args.e _ true c.if-is_p.true c.is_p.ensures

pub returns-else-is_p-clause-text : goal.returns-else-is_p-clause-text
unfolding channel_text
returns-else-is_p-clause-text c = channel-is c.args.e _ false c.if-is_p.false c.is_p.ensures
