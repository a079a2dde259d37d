-- `grade_file::grade::fill_buffers` meets its contract: the rows that are marked and keyed, whatever good circuit the record tells, are
-- classed by their keys. Assumes nothing.
use Prim.Native.Nat.{◌≤◌}
use mathlib.Core.Path.{◌≡◌, sym}
use native.Mathlib.Omega.{arith}
use lib.ListN.{length, take}
use Rattle.grading.specs.Given.{CircuitGiven}
use Rattle.grade_file.proofs.Assembly as assembly
use Rattle.grade_file.proofs.grade.fill_buffers.Goals.{After-mark_rows-rounds}
use Rattle.grade_file.proofs.grade.fill_buffers.Goals as goal

-- ---- with the rows marked
module _ (c : After-mark_rows-rounds) where
  abbrev known : CircuitGiven c.args.c
  known = c.requires.circuit_given

  few : c.args.c.faults ≤ 2048
  few = assembly.faults_few c.args.c known _ _ _ _ (c.mark_rows-rounds.ensures known.circuit known.is known.good)

  used : length (take c.args.c.faults c.mark_rows-rounds.new.codes) ≡ c.args.c.faults
  used = assembly.keys_used c.args.c known _ _ _ _ (c.mark_rows-rounds.ensures known.circuit known.is known.good)

  long : length c.mark_rows-rounds.new.matrix ≡ length c.args.matrix.now
  long = assembly.marked_long c.args.c known _ _ _ _ (c.mark_rows-rounds.ensures known.circuit known.is known.good) c.requires.matrix_len

pub slice_bounds-codes-end : goal.slice_bounds-codes-end
slice_bounds-codes-end c = omega (arith, few (goal.at.slice_bounds-codes-end c).After-mark_rows-rounds)

pub slice_bounds-class_rows-end : goal.slice_bounds-class_rows-end
slice_bounds-class_rows-end c = sym (used (goal.at.slice_bounds-class_rows-end c).After-mark_rows-rounds)

pub class_rows-classed-requires : goal.class_rows-classed-requires
class_rows-classed-requires c =
    let marked = (goal.at.class_rows-classed-requires c).After-mark_rows-rounds in
    record {
      rows_bound = omega (arith, few marked, used marked);
      rows_in_bounds = (omega (arith, used marked, long marked, c.requires.matrix_len), omega (arith, used marked, c.requires.classes_len));
    }

pub returns : goal.returns
returns c = λ meant e g.
    let told : CircuitGiven c.args.c = record { circuit = meant; is = e; good = g } in
    assembly.graded c.args.c told _ _ _ _ (c.mark_rows-rounds.ensures meant e g) c.class_rows-classed.result _ _
    c.class_rows-classed.ensures
