-- `grade_file::grade::grade_read` meets its contract: reading's refusal, or what the circuit answers; each for every file of which the
-- reading tells. Assumes nothing.
use Rattle.circuit.specs.Reading.{reading_of}
use Rattle.grading.specs.Grading.{grading_of}
use Rattle.grade_file.proofs.GradingLaws.{refused_answers, accepted-here, given, file_answers}
use Rattle.grade_file.proofs.grade.grade_read.Goals as goal

pub returns-in-Some : goal.returns-in-Some
unfolding grading_of
returns-in-Some c = λ file tells. rw c.into.ensures (refused_answers (reading_of file) c.args.reading _ c.in-Some.is tells _ _)

pub grade_circuit-requires : goal.grade_circuit-requires
grade_circuit-requires c =
    let pre = c.requires in given _ _ (accepted-here pre.file c.args.reading c.in-None.is pre.tells)

pub returns-in-None : goal.returns-in-None
returns-in-None c = λ file tells.
    file_answers _ _ (accepted-here file c.args.reading c.in-None.is tells) _ _ _ c.grade_circuit.ensures
