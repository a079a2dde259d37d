-- `read_types::edges::read_edges` meets its contract: in each turn of the loop the reader finds an edge field, which is refused
-- or whose edges then stand in the type; or it finds none. Assumes nothing.
use mathlib.Core.Path.{refl, ap, ◌∙◌}
use native.Mathlib.Omega.{arith}
use lib.ListN.{length}
use Rattle.read_fields.specs.Steps.{FieldAt}
use Rattle.read_fields.proofs.Turns.{found_at, found_own, found_behind, goes_on, stayed}
use Rattle.read_types.proofs.ReadingTypes.{edges-start, has_room, edges_stop, edges_refused, edges_more}
use Rattle.std.proofs.lemmas.Result.{err_from_is_err_and}
use Rattle.read_types.proofs.edges.read_edges.Goals.{In-Some}
use Rattle.read_types.proofs.edges.read_edges.Goals as goal

pub loop-f-init : goal.loop-f-init
loop-f-init c =
    let r = c.args.reader.now in
    record {
      same_file = refl;
      so_far = edges-start r.file.now r.at c.args.shape c.requires.0 c.requires.1 c.bare-t.result c.bare-t.ensures;
    }

pub add_edges-requires : goal.add_edges-requires
add_edges-requires c = has_room c.loop-f.invariant.so_far

-- the field that was found stands in the file that is read
here : (c : In-Some) → FieldAt c.args.reader.now.file.now c.loop-f.reader.at c.in-Some.f
here c = rw (ap (λ b. b.now) c.loop-f.invariant.same_file) at (found_at c.in-Some.ensures)

pub returns-in_err-add_edges : goal.returns-in_err-add_edges
returns-in_err-add_edges c =
    let at = (goal.at.returns-in_err-add_edges c).In-Some in
    let turn = c.in-Some.ensures in
    let back = err_from_is_err_and c.from_residual.result c.from_residual.ensures.1 in
    rw (back.1, back.2) (
      edges_refused c.loop-f.invariant.so_far c.in-Some.f (here at) (found_own turn)
          c.in_err-add_edges.field-0.0 c.in_err-add_edges.ensures (found_behind turn),
      turn.same_file ∙ c.loop-f.invariant.same_file,
    )

pub loop-f-smaller : goal.loop-f-smaller
loop-f-smaller c =
    let turn = c.in-Some.ensures in
    let same = ap (λ b. length b.now) turn.same_file in
    let stands = found_at turn in
    omega (arith, goes_on turn, found_behind turn, stands.inside)

pub loop-f-preserved : goal.loop-f-preserved
loop-f-preserved c =
    let at = (goal.at.loop-f-preserved c).In-Some in
    let turn = c.in-Some.ensures in
    record {
      same_file = turn.same_file ∙ c.loop-f.invariant.same_file;
      so_far =
          rw (found_behind turn, c.in_ok-add_edges.ensures.1)
          (edges_more c.loop-f.invariant.so_far c.in-Some.f (here at) (found_own turn) c.in_ok-add_edges.ensures.0);
    }

pub returns : goal.returns
returns c =
    let inv = c.loop-f.invariant in
    let turn = c.in_default.ensures in (
      rw (stayed turn) (edges_stop inv.so_far (rw (ap (λ b. b.now) inv.same_file) at turn.stands)),
      turn.same_file ∙ inv.same_file,
    )
