-- `program_io::holding::tell_file_with` meets its contract. Assumes nothing.
use mathlib.Core.Path.{refl}
use native.Mathlib.Omega.{arith}
use Rattle.print_lines.proofs.HandingLaws.{handing-begins, hands_next, less_left, handing_goes_on, handing_ends}
use Rattle.program_io.proofs.PutLaws.{put_begins, put_piece, put_ends}
use Rattle.program_io.proofs.holding.tell_file_with.Goals as goal

pub loop-piece-init : goal.loop-piece-init
loop-piece-init g c =
    let none = c.none_handed-handed.ensures in
    record { held = c.hold.ensures; handing = handing-begins none c.requires; put = put_begins _ _ refl none }

pub hand_out-handed-requires : goal.hand_out-handed-requires
hand_out-handed-requires g c =
    let turn = c.loop-piece.invariant in
    (g.met.T.Holding.hands_on_is _ _ _ _).1 (hands_next turn.handing (c.piece-piece.ensures _ turn.held).given)

pub loop-piece-smaller : goal.loop-piece-smaller
loop-piece-smaller g c =
    let turn = c.loop-piece.invariant in
    less_left turn.handing (c.piece-piece.ensures _ turn.held).given (omega arith)

pub loop-piece-preserved : goal.loop-piece-preserved
loop-piece-preserved g c =
    let turn = c.loop-piece.invariant in
    let given = (c.piece-piece.ensures _ turn.held).given in
    let handed = c.hand_out-handed.ensures in
    record {
      held = turn.held;
      handing = handing_goes_on turn.handing given handed.lines;
      put = rw handed.lines (put_piece turn.put (hands_next turn.handing given) handed.put);
    }

pub returns-clause-handed : goal.returns-clause-handed
returns-clause-handed g c =
    let turn = c.loop-piece.invariant in
    let told = c.piece-piece.ensures _ turn.held in
    (g.met.T.Holding.all_handed_is _ _).1 (handing_ends turn.handing told.given told.moves (omega arith))

pub returns-clause-put : goal.returns-clause-put
returns-clause-put g c =
    let turn = c.loop-piece.invariant in
    let told = c.piece-piece.ensures _ turn.held in
    (g.met.T.Holding.put_is _ _ _ _ _).1 (put_ends _ turn.put (handing_ends turn.handing told.given told.moves (omega arith)))
