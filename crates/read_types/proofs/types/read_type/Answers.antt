-- `read_types::types::read_type` meets its contract: its bytes or its edges are refused, or it is complementary, or it is not.
-- Assumes nothing.
use mathlib.Core.Path.{ap, refl}
use Rattle.read_types.specs.ReadTypes.{shape_of, bare_of, EdgesDone}
use Rattle.read_types.proofs.ReadingTypes.{shape_ranges, type_read_given, own_refused_at, edge_refused_at, type_complementary, type_failing}
use Rattle.std.proofs.lemmas.Result.{err_from_is_err_and}
use Rattle.read_types.proofs.types.read_type.Goals.{After-check_type}
use Rattle.read_types.proofs.types.read_type.Goals as goal

pub returns-in_err-shape : goal.returns-in_err-shape
returns-in_err-shape c =
    let r = c.args.reader.now in
    let back = err_from_is_err_and c.from_residual.result c.from_residual.ensures.1 in
    rw (back.1, back.2)
    (own_refused_at r.file.now c.args.f c.args.count r.at c.in_err-shape.field-0.0 c.in_err-shape.ensures c.requires, refl)

pub read_edges-requires : goal.read_edges-requires
read_edges-requires c =
    let f = c.args.f in
    let judged = c.in_ok-shape.ensures in
    (c.requires, rw judged.1 (shape_ranges c.args.count f.at f.body.now judged.0).1)

pub returns-in_err-t : goal.returns-in_err-t
returns-in_err-t c =
    let r = c.args.reader.now in
    let judged = c.in_ok-shape.ensures in
    let back = err_from_is_err_and c.from_residual-in_err-t.result c.from_residual-in_err-t.ensures.1 in
    rw (back.1, back.2) (
      edge_refused_at r.file.now c.args.f c.args.count r.at judged.0 c.in_err-t.field-0.0 (rw judged.1 at c.in_err-t.ensures.0),
      c.in_err-t.ensures.1,
    )

pub check_type-requires : goal.check_type-requires
check_type-requires c = type_read_given c.in_ok-t.ensures.0

-- its edges are those of the type that its field says
read : (c : After-check_type) → let r = c.args.reader.now in
    EdgesDone r.file.now r.at c.read_edges.new.reader.at (bare_of (shape_of c.args.f.body.now)) c.in_ok-t.t
read c = rw c.in_ok-shape.ensures.1 at c.in_ok-t.ensures.0

pub returns-then-not-check_type : goal.returns-then-not-check_type
returns-then-not-check_type c =
    let r = c.args.reader.now in
    let test = c.check_type in
    let its = read (goal.at.returns-then-not-check_type c).After-check_type in (
      type_failing r.file.now c.args.f c.args.count r.at c.in_ok-shape.ensures.0 its
          test.result test.ensures c.if-not-check_type.true c.failing.result
          (rw (ap (λ b. b.now) c.in_ok-t.ensures.1) at c.failing.ensures),
      c.in_ok-t.ensures.1,
    )

pub returns : goal.returns
returns c =
    let r = c.args.reader.now in
    let test = c.check_type in (
      type_complementary r.file.now c.args.f c.args.count r.at c.in_ok-shape.ensures.0 (read (goal.at.returns c).After-check_type)
          test.result test.ensures c.if-not-check_type.false,
      c.in_ok-t.ensures.1,
    )
