-- `grade_rows::put_codes` meets its contract. The loop's invariant: the codes of the seconds before the present one are written. Assumes
-- nothing.
use Rattle.std.proofs.Common.{◌≡◌, ℕ, suc, ◌+◌, ◌-◌, ◌<◌, length, arith, sym, refl}
use Rattle.words.specs.Tables.{table}
use Rattle.words.proofs.WrittenLaws.{written_nothing, set_table_behind}
use Rattle.grading.specs.Codes.{packed}
use Rattle.grade_rows.specs.Model.{codes_from}
use Rattle.grade_rows.proofs.RowWriting.{length_from}
use Rattle.grade_rows.proofs.put_codes.Goals as goal

pub loop-second-init : goal.loop-second-init
unfolding codes_from table
loop-second-init c =
    let none : c.args.from - c.args.from ≡ 0 = omega arith in
    rw none (sym (written_nothing c.args.rows.now c.args.at))

pub bounds-rows-at : goal.bounds-rows-at
bounds-rows-at c = omega (arith, length_from c.args.instance c.args.kind c.args.first c.args.from c.args.to)

pub loop-second-preserved : goal.loop-second-preserved
unfolding codes_from
loop-second-preserved c =
    let a = c.args in
    let l = c.loop-second in
    let done : ℕ = l.second - a.from in
    let size : l.second + 1 - a.from ≡ suc done = omega arith in
    let code : ℕ → ℕ = λ j. packed a.instance a.kind a.first (a.from + j) in
    let room : a.at + done < length a.rows.now = omega (arith, length_from a.instance a.kind a.first a.from a.to) in
    rw (size, l.invariant) (set_table_behind a.rows.now a.at done code (a.at + done) _ refl room (omega (arith, c.pack.ensures)))

pub returns : goal.returns
returns c =
    let last : c.loop-second.second ≡ c.args.to = omega arith in
    (omega (arith, length_from c.args.instance c.args.kind c.args.first c.args.from c.args.to), rw last at c.loop-second.invariant)
