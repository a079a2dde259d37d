-- `grade_file::grade::grade_circuit` meets its contract: a matrix or a class buffer that is too short, or the circuit graded; each for every
-- good circuit that the record tells. Assumes nothing.
use native.Mathlib.Omega.{arith}
use Rattle.grading.proofs.RowLaws.{few_rows}
use Rattle.grade_file.proofs.Assembly.{faults_are}
use Rattle.grade_file.proofs.GradingLaws.{short_matrix, short_classes, graded_answers}
use Rattle.grade_file.proofs.grade.grade_circuit.Goals as goal

pub overflow_mul-words : goal.overflow_mul-words
overflow_mul-words c =
    let p = c.requires in
    omega (arith, faults_are p.circuit _ p.is, few_rows p.circuit p.good)

pub returns-then-matrix-words : goal.returns-then-matrix-words
returns-then-matrix-words c = λ meant is good. short_matrix meant _ is _ c.if-matrix-words.true

pub returns-then-classes-faults : goal.returns-then-classes-faults
returns-then-classes-faults c = λ meant is good. short_classes meant _ is _ c.if-matrix-words.false c.if-classes-faults.true

pub returns : goal.returns
returns c = λ meant is good.
    graded_answers meant _ is _ c.if-matrix-words.false c.if-classes-faults.false c.fill_buffers.result _
    (c.fill_buffers.ensures meant is good)
