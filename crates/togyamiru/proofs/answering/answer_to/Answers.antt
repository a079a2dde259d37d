-- `togyamiru::answering::answer_to` meets its contract: the reading tells what the file says, and is listed or graded as asked. Assumes
-- nothing.
use Rattle.togyamiru.proofs.answering.answer_to.Goals as goal

pub returns-in-Rows : goal.returns-in-Rows
returns-in-Rows c = rw c.in-Rows.is (c.list_read.ensures _ c.read_stages-reading.ensures.tells)

pub returns-in-Grading : goal.returns-in-Grading
returns-in-Grading c = rw c.in-Grading.is (c.grade_read.ensures _ c.read_stages-reading.ensures.tells)
