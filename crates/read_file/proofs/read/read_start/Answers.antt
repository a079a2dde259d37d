-- `read_file::read::read_start` meets its contract: the file is too long, does not begin with its inputs, has them refused, or goes on
-- behind them. Assumes nothing.
use mathlib.Core.Path.{ap}
use Rattle.read_fields.specs.Steps.{FieldAt}
use Rattle.read_fields.proofs.Turns.{found_at, found_own, found_behind}
use Rattle.read_file.proofs.ReadLaws.{start_long, start_other, start_refused, start_passes}
use Rattle.read_file.proofs.read.read_start.Goals.{In-Some}
use Rattle.read_file.proofs.read.read_start.Goals as goal

pub returns-then-file-gt-MOST_BYTES : goal.returns-then-file-gt-MOST_BYTES
returns-then-file-gt-MOST_BYTES c = rw c.ended_at_start.ensures (start_long _ _ c.if-file-gt-MOST_BYTES.true)

pub returns-in_default : goal.returns-in_default
returns-in_default c =
    let reader = c.new-reader.ensures in
    let other = rw (ap (λ b. b.now) reader.0, reader.1) at c.in_default.ensures.stands in
    rw c.ended_at_start-in_default.ensures (start_other _ _ c.if-file-gt-MOST_BYTES.false other c.ending.result c.ending.ensures)

-- the inputs' field stands in the file
here : (c : In-Some) → FieldAt c.args.file.now 0 c.in-Some.f
here c = let reader = c.new-reader.ensures in rw (ap (λ b. b.now) reader.0, reader.1) at (found_at c.in-Some.ensures)

pub returns-in-Err : goal.returns-in-Err
returns-in-Err c =
    let at = (goal.at.returns-in-Err c).In-Some in
    rw c.ended_at_start-in-Err.ensures
    (start_refused _ _ c.if-file-gt-MOST_BYTES.false c.in-Some.f (here at) (found_own c.in-Some.ensures) c.in-Err.refusal c.in-Err.ensures)

pub returns-in-Ok : goal.returns-in-Ok
returns-in-Ok c =
    let at = (goal.at.returns-in-Ok c).In-Some in
    let told = c.in-Ok.ensures in
    rw (found_behind c.in-Some.ensures, told.1)
    (start_passes _ _ c.if-file-gt-MOST_BYTES.false c.in-Some.f (here at) (found_own c.in-Some.ensures) told.0)
