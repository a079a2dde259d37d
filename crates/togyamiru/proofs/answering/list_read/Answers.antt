-- `togyamiru::answering::list_read` meets its contract: the file refused, the row buffer too short, or the rows listed; each for every file
-- of which the reading tells. Assumes nothing.
use mathlib.Core.Path.{refl}
use Rattle.circuit.specs.Reading.{reading_of}
use Rattle.grade_file.proofs.GradingLaws.{accepted-here, good_here, given}
use Rattle.togyamiru.proofs.RowsLaws.{refused-rows, faults_few, short_rows, rows_listed}
use Rattle.togyamiru.proofs.answering.list_read.Goals as goal

pub returns-in-Some : goal.returns-in-Some
returns-in-Some c = λ file tells. rw c.into.ensures (refused-rows (reading_of file) c.args.reading _ c.in-Some.is tells _)

pub returns-then-rows-faults : goal.returns-then-rows-faults
returns-then-rows-faults c = λ file tells.
    short_rows _ _ (accepted-here file c.args.reading c.in_default.is tells) _ c.if-rows-faults.true

pub list_circuit-requires : goal.list_circuit-requires
list_circuit-requires c =
    let known = accepted-here c.requires.file c.args.reading c.in_default.is c.requires.tells in
    record { given = given _ _ known; room = (faults_few _ _ known, c.if-rows-faults.false) }

pub returns : goal.returns
returns c = λ file tells.
    let this = accepted-here file c.args.reading c.in_default.is tells in
    rows_listed _ _ this _ c.if-rows-faults.false _ _ refl (c.list_circuit.ensures this.circuit this.is (good_here _ _ this)) _ refl
