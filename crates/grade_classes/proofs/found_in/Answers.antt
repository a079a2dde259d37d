-- `grade_classes::found_in` meets its contract. The loop's invariant: what is found so far, with what the rows that are left add to it, is
-- all. Assumes nothing.
use Rattle.std.proofs.Common.{◌≡◌, ℕ, ◌<◌, length, add-one, arith}
use Rattle.grade_classes.specs.Model.{row_marked}
use Rattle.grade_classes.proofs.ClassLaws.{found_begin, found_none, found_old, found_marked, found_unmarked}
use Rattle.grade_classes.proofs.found_in.Goals as goal
use Rattle.grade_classes.proofs.found_in.Goals.{then-last-class+then-matrix-r-ne0, then-last-class+else-matrix-r-ne0, else-last-class}

pub loop-r-init : goal.loop-r-init
loop-r-init c = (omega arith, omega (arith, found_begin c.args.matrix.now c.args.classes.now (length c.args.classes.now) 0))

pub loop-r-preserved : goal.loop-r-preserved
unfolding row_marked
loop-r-preserved c =
    let matrix = c.args.matrix.now in
    let classes = c.args.classes.now in
    let rows : ℕ = length classes in
    let r : ℕ = c.loop-r.r in
    let inside : r < rows = c.loop-r-test.true in
    elim c.if-last-class.branch [
      | then-last-class+then-matrix-r-ne0 w ↦
          let marked = found_marked matrix classes rows r c.loop-r.last inside w.if-last-class.true w.if-matrix-r-ne0.true in
          (rw w.found-is (omega arith), rw (add-one, w.found-is, w.last-is) (omega (arith, marked, c.loop-r.invariant.1)))
      | then-last-class+else-matrix-r-ne0 w ↦
          let unmarked = found_unmarked matrix classes rows r c.loop-r.last inside w.if-last-class.true w.if-matrix-r-ne0.false in
          (rw w.found-is (omega arith), rw (add-one, w.found-is, w.last-is) (omega (arith, unmarked, c.loop-r.invariant.1)))
      | else-last-class w ↦
          let old = found_old matrix classes rows r c.loop-r.last inside w.if-last-class.false in
          (rw w.found-is (omega arith), rw (add-one, w.found-is, w.last-is) (omega (arith, old, c.loop-r.invariant.1)))
    ]

pub returns : goal.returns
returns c =
    let matrix = c.args.matrix.now in
    let classes = c.args.classes.now in
    let last : c.loop-r.r ≡ length classes = omega arith in
    omega (arith, rw last at c.loop-r.invariant.1, found_none matrix classes (length classes) c.loop-r.last)
