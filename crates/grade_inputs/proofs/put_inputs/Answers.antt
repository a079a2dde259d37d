-- `grade_inputs::put_inputs` meets its contract. The loop's invariant: word `w` of the inputs below `i` is put. Assumes nothing.
use Rattle.std.proofs.Common.{add-one, arith}
use Rattle.grade_inputs.proofs.InputLaws.{put_none, put_more}
use Rattle.grade_inputs.proofs.put_inputs.Goals as goal

pub loop-i-init : goal.loop-i-init
loop-i-init c = put_none _ _ _ c.told-signals

pub loop-i-preserved : goal.loop-i-preserved
loop-i-preserved c =
    let loop = c.loop-i in
    rw (add-one, loop.invariant) (put_more _ _ _ loop.i (omega arith) c.requires)
