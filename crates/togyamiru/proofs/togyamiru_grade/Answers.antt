-- `togyamiru::togyamiru_grade` meets its contract: of the numbers six have room. Assumes nothing.
use borrow.Author.Rules.{rules}
use Rattle.togyamiru.proofs.Numbers.{six_numbers_lem}
use Rattle.togyamiru.proofs.togyamiru_grade.Goals as goal

pub returns : goal.returns
returns c = six_numbers_lem _ _ _ c.args.answer.now _ c.togyamiru_grade_numbers.ensures (search rules)
