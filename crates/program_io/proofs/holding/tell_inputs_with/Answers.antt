-- `program_io::holding::tell_inputs_with` meets its contract. Assumes nothing.
use native.Mathlib.Omega.{arith}
use Rattle.program_io.proofs.TellingLaws.{none_told, one_told}
use Rattle.program_io.proofs.holding.tell_inputs_with.Goals as goal

pub loop-number-init : goal.loop-number-init
loop-number-init g c = (omega arith, none_told _ _ _)

pub loop-number-preserved : goal.loop-number-preserved
loop-number-preserved g c =
    let turn = c.loop-number.invariant in
    (omega arith, one_told _ _ _ (omega (arith, turn.0)) _ _ _ _ _ _ turn.1 c.tell_input.ensures)

pub returns-2 : goal.returns-2
returns-2 g c =
    let turn = c.loop-number.invariant in
    (_, turn.0, one_told _ _ _ (omega (arith, turn.0)) _ _ _ _ _ _ turn.1 c.tell_input.ensures)
