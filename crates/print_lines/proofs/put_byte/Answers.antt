-- `print_lines::put_byte` meets its contract: one stored byte is a text of one byte. Assumes nothing.
use mathlib.Core.Path.{refl}
use Rattle.words.proofs.WrittenLaws.{set_written}
use Rattle.print_lines.proofs.put_byte.Goals as goal

pub returns : goal.returns
returns c = (refl, set_written c.args.out.now c.args.at c.args.b c.requires)
