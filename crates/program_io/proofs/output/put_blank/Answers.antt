-- `program_io::output::put_blank` meets its contract. Assumes nothing.
use mathlib.Core.Path.{refl, sym}
use Rattle.words.proofs.WrittenLaws.{written_nothing}
use Rattle.program_io.proofs.output.put_blank.Goals as goal

pub returns : goal.returns
returns c = rw c.if-is_wanted.false (refl, sym (written_nothing c.args.out.now 0))
