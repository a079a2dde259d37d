-- `grade_classes::label_wires` meets its contract. The loop's invariant: the labels so far have their wires. Assumes nothing.
use Rattle.std.proofs.Common.{add-one, arith, ◌∙◌}
use Rattle.words.proofs.Tables.{fill_none, fill_more}
use Rattle.grade_classes.proofs.ClassLaws.{labels-all}
use Rattle.grade_classes.proofs.label_wires.Goals as goal

pub loop-l-init : goal.loop-l-init
loop-l-init c = fill_none 12 _

pub loop-l-preserved : goal.loop-l-preserved
loop-l-preserved c = rw (add-one, c.loop-l.invariant, c.reference_wire.ensures) (fill_more 12 _ c.loop-l.l (omega arith))

pub returns : goal.returns
returns c = c.loop-l.invariant ∙ labels-all _ c.loop-l.l (omega arith)
