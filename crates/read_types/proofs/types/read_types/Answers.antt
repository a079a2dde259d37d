-- `read_types::types::read_types` meets its contract: in each turn of the loop the reader finds a type, which is refused or then stands in
-- the array, and the reader behind its edges; or it finds none. Assumes nothing.
use mathlib.Core.Path.{◌≡◌, ap, ◌∙◌}
use native.Mathlib.Omega.{arith}
use lib.ListN.{length}
use Rattle.read_fields.specs.Steps.{FieldAt}
use Rattle.read_fields.proofs.Turns.{found_at, found_own, found_behind, stayed}
use Rattle.read_types.proofs.ReadingTypes.{types-start, types_stop, types_end, types_more}
use Rattle.read_types.proofs.types.read_types.Goals.{In-Some}
use Rattle.read_types.proofs.types.read_types.Goals as goal

pub loop-f-init : goal.loop-f-init
loop-f-init c =
    let reader = c.new-reader.ensures in
    record {
      same_file = ap (λ b. b.now) reader.0;
      so_far = rw reader.1 (types-start c.args.file.now c.args.from c.default-all.result c.requires c.default-all.ensures);
    }

-- the field that was found stands in the file
here : (c : In-Some) → FieldAt c.args.file.now c.loop-f.reader.at c.in-Some.f
here c = rw c.loop-f.invariant.same_file at (found_at c.in-Some.ensures)

pub read_type-requires : goal.read_type-requires
read_type-requires c =
    let turn = c.in-Some.ensures in
    let stands = found_at turn in
    omega (arith, found_behind turn, stands.inside, ap (λ b. length b.now) turn.same_file)

-- and so do its edges
same : (c : In-Some) → c.next_of.new.self.file.now ≡ c.args.file.now
same c = ap (λ b. b.now) c.in-Some.ensures.same_file ∙ c.loop-f.invariant.same_file

pub returns-in-Err : goal.returns-in-Err
returns-in-Err c =
    let at = (goal.at.returns-in-Err c).In-Some in
    let turn = c.in-Some.ensures in
    rw (here at).place
    (types_end c.loop-f.invariant.so_far c.in-Some.f (here at) (found_own turn) c.in-Err.refusal
    (rw (same at, found_behind turn) at c.in-Err.ensures.0))

pub loop-f-preserved : goal.loop-f-preserved
loop-f-preserved c =
    let at = (goal.at.loop-f-preserved c).In-Some in
    let turn = c.in-Some.ensures in
    record {
      same_file = ap (λ b. b.now) c.in-Ok.ensures.1 ∙ same at;
      so_far =
          types_more c.loop-f.invariant.so_far c.in-Some.f (here at) (found_own turn)
          (rw (same at, found_behind turn) at c.in-Ok.ensures.0);
    }

pub loop-f-smaller : goal.loop-f-smaller
loop-f-smaller c = let room = c.in-Ok.ensures.0.room in omega arith

pub bounds-all-count : goal.bounds-all-count
bounds-all-count c = c.in-Ok.ensures.0.room

pub returns : goal.returns
returns c =
    let inv = c.loop-f.invariant in
    let turn = c.in_default.ensures in
    rw (stayed turn) (types_stop inv.so_far (rw inv.same_file at turn.stands))
