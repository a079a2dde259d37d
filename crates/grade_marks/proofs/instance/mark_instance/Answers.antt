-- `grade_marks::instance::mark_instance` meets its contract. Assumes nothing.
use mathlib.Core.Path.{refl}
use Rattle.switch.specs.Records.{type_of}
use Rattle.grade_marks.proofs.instance.mark_instance.Goals as goal

pub returns : goal.returns
unfolding type_of
returns c =
    let told = c.mark_joined.ensures in
    rw (told.output_put, told.rows_put, told.rounds_are, c.join_type.ensures, c.label_planes-labels.ensures)
    record { rows_are = refl; signals_are = refl; rounds_are = refl }
