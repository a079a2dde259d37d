-- `grade_marks::labels::label_planes` meets its contract. Assumes nothing.
use Prim.Native.Nat.{◌<◌}
use native.Mathlib.Omega.{arith}
use Rattle.words.proofs.Tables.{fill_none}
use Rattle.grade_marks.proofs.SignalLaws.{plane_at, planes-are, plane_more}
use Rattle.grade_marks.proofs.labels.label_planes.Goals as goal

pub signal_of-at-requires : goal.signal_of-at-requires
signal_of-at-requires c =
    (c.requires.some c.loop-l.l c.loop-l-test.true, c.requires.most c.loop-l.l c.loop-l-test.true)

pub loop-l-init : goal.loop-l-init
loop-l-init c =
    let x = c.args in
    record {
      ones = fill_none 48 (plane_at x.references.now x.signals.now.ones);
      zeros = fill_none 48 (plane_at x.references.now x.signals.now.zeros);
    }

pub loop-l-preserved : goal.loop-l-preserved
loop-l-preserved c =
    let x = c.args in
    let loop = c.loop-l in
    let signal = c.signal_of-at in
    let few : loop.l < 12 = omega arith in
    record {
      ones = plane_more x.references.now x.signals.now.ones loop.labels.ones c.copy_from_slice.new.self loop.l signal.result few
          loop.invariant.ones signal.ensures.0 signal.ensures.1 c.copy_from_slice.ensures.after (omega arith);
      zeros = plane_more x.references.now x.signals.now.zeros loop.labels.zeros c.copy_from_slice-in-loop-l.new.self loop.l signal.result
          few loop.invariant.zeros signal.ensures.0 signal.ensures.1 c.copy_from_slice-in-loop-l.ensures.after (omega arith);
    }

pub returns : goal.returns
returns c =
    let x = c.args in
    planes-are x.references.now x.signals.now c.loop-l.labels c.loop-l.l (omega arith) c.loop-l.invariant.ones c.loop-l.invariant.zeros
