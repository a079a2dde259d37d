-- `grade_marks::matrix::write_rows` meets its contract. Assumes nothing.
use mathlib.Core.Path.{◌≡◌, sym}
use Prim.Native.Nat.{ℕ, ◌+◌, ◌-◌, ◌*◌, ◌/◌, ◌%◌, ◌<◌}
use native.Mathlib.Omega.{arith}
use lib.ListN.{length}
use borrow.Author.Rules.{rules}
use Rattle.words.specs.Tables.{table}
use Rattle.words.proofs.Tables.{get_or-table}
use Rattle.words.proofs.WrittenLaws.{written_nothing}
use Rattle.grading.specs.Codes.{CodesFit}
use Rattle.grade_inputs.proofs.Made.{table_made}
use Rattle.grade_marks.specs.Model.{vectors_in, row_under_masks, rows_word, rows_words}
use Rattle.grade_marks.proofs.Parts.{part_filled}
use Rattle.grade_marks.proofs.matrix.write_rows.Goals as goal

pub loop-r-init : goal.loop-r-init
unfolding table
loop-r-init c = sym (written_nothing _ _)

pub write_row-requires-clause-code_fits : goal.write_row-requires-clause-code_fits
unfolding CodesFit
write_row-requires-clause-code_fits c = c.requires.codes_fit c.loop-r.r (omega arith) (omega arith)

pub loop-r-preserved : goal.loop-r-preserved
unfolding rows_word row_under_masks
loop-r-preserved c =
    let x = c.args in
    let r : ℕ = c.loop-r.r in
    let masks : c.from_fn-masks.result ≡ table 4 (vectors_in x.vectors)
    = table_made _ _ (vectors_in x.vectors) (λ i y q k. search rules) 0 4 _ c.from_fn-masks.ensures.items in
    let next : 4 * (r + 1) ≡ 4 * r + (4 * r + 4 - 4 * r) = omega arith in
    rw next
    (part_filled c.loop-r.matrix c.write_row.new.words (4 * r) (4 * r + 4 - 4 * r) (omega arith)
    x.matrix.now (rows_word x.rows.now x.rails.now x.labels.now x.vectors) c.loop-r.invariant (omega arith)
    (λ w k.
    let few : w < 4 = omega arith in
    let row : (4 * r + w) / 4 ≡ r = omega arith in
    let word : (4 * r + w) % 4 ≡ w = omega arith in
    rw (c.write_row.ensures, row, word, get_or-table {A = ℕ} 4 _ 0 w few, masks, get_or-table {A = ℕ} 4 (vectors_in x.vectors) 0 w few)))

pub returns : goal.returns
unfolding rows_words
returns c =
    let all : c.loop-r.r ≡ length c.args.rows.now = omega arith in
    rw all at c.loop-r.invariant
