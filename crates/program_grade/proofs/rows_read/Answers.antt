-- `program_grade::rows_read` meets its contract: a reading that is not refused tells of a circuit. Assumes nothing.
use Prim.Native.Nat.{ℕ}
use lib.ListN.{length-replicate}
use Rattle.grade_file.proofs.GradingLaws.{accepted-here, given}
use Rattle.program_grade.proofs.RowsReadLaws.{none_read, all_read}
use Rattle.program_grade.proofs.rows_read.Goals as goal

pub returns-in-Some : goal.returns-in-Some
returns-in-Some c = none_read _ _ (length-replicate {A = ℕ} 2048 0) _ c.in-Some.is

pub rows_of-requires : goal.rows_of-requires
rows_of-requires c = given _ _ (accepted-here c.requires.file c.args.reading c.in-None.is c.requires.tells)

pub returns-in-None : goal.returns-in-None
returns-in-None c =
    all_read _ _ (given _ _ (accepted-here c.requires.file c.args.reading c.in-None.is c.requires.tells)) c.rows_of.ensures
