-- `grade_classes::class_rows` meets its contract. Assumes nothing.
use Rattle.std.proofs.Common.{ℕ, ◌∙◌, ◌≤◌, length, arith}
use Rattle.std.proofs.lemmas.List.{length-take-le}
use Rattle.grade_classes.proofs.ClassLaws.{found_front}
use Rattle.grade_classes.proofs.class_rows.Goals as goal

pub returns : goal.returns
returns c =
    let rows : ℕ = length c.args.keys.now in
    let classes = c.number_rows-count.new.classes in
    let few : rows ≤ length classes = omega arith in
    record {
      classes_are = c.number_rows-count.ensures.1;
      count_is = c.number_rows-count.ensures.0;
      found_is =
          rw (length-take-le rows classes few) at c.found_in-found.ensures
          ∙ found_front c.args.matrix.now classes rows 0 rows 0 (omega arith);
    }
