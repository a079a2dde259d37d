-- `print_circuit::lines::letter` meets its contract. Assumes nothing.
use native.Mathlib.Omega.{arith}
use Rattle.words.specs.Bits.{bit}
use Rattle.print_circuit.proofs.TextLaws.{letter_1, letter_0, letter_x}
use Rattle.print_circuit.proofs.lines.letter.Goals as goal

pub returns-in-1-default : goal.returns-in-1-default
unfolding bit
returns-in-1-default c = letter_1 _ _ c.in-1-default.is-0

pub returns-in_default-eq1 : goal.returns-in_default-eq1
unfolding bit
returns-in_default-eq1 c = letter_0 _ _ (omega arith) c.in_default-eq1.is-0.1 c.in_default-eq1.is-1

pub returns-in_default : goal.returns-in_default
unfolding bit
returns-in_default c = letter_x _ _ (omega arith) (omega arith) c.in_default.is-0.1 c.in_default.is-1.1
