-- `togyamiru::togyamiru_grade_numbers` meets its contract: the numbers of the answer in their order, as many as have room, and the buffers as
-- grading leaves them. Assumes nothing.
use Rattle.togyamiru.proofs.Numbers.{numbers_met}
use Rattle.togyamiru.proofs.togyamiru_grade_numbers.Goals as goal

pub returns : goal.returns
returns c = numbers_met _ _ _ _ _ c.answer_to.ensures c.numbers_of-all.ensures _ _ c.put_numbers.ensures
