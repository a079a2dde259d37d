-- `grade_classes::write_keys` meets its contract. The loop's invariant: the keys of the rows before the present one are written, so that
-- this and later rows are as they were. Assumes nothing.
use Rattle.std.proofs.Common.{◌≡◌, ◌+◌, ◌-◌}
use borrow.Rule.Slice.PartMut.{put_mid}
use Rattle.words.specs.Written.{written}
use Rattle.grade_classes.specs.Model.{keys_of}
use Rattle.grade_classes.proofs.write_keys.Given as goal

abbrev pub invariant-loop-code : goal.invariant-loop-code
invariant-loop-code l =
    put_mid l.from (l.to - l.from) l.fn.codes l.code-items
    ≡ written l.fn.codes l.from (keys_of l.fn.codes l.instance l.output l.labels l.from (l.from + l.code-index))
