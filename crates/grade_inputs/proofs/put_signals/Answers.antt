-- `grade_inputs::put_signals` meets its contract. The loop's invariant: the first `w` words of each input are there. Assumes nothing.
use Rattle.std.proofs.Common.{◌∙◌, ◌<◌, ap, add-one, arith}
use Rattle.grade_inputs.specs.Inputs.{ones_of, zeros_of}
use Rattle.grade_inputs.specs.declared.Block.{Block}
use Rattle.grade_inputs.proofs.InputLaws.{inputs_none, inputs_turn}
use Rattle.grade_inputs.proofs.put_signals.Goals as goal

pub loop-w-init : goal.loop-w-init
loop-w-init c =
    let vectors = c.args.vectors.now in
    (c.requires.signals_value.0 ∙ inputs_none (ones_of vectors), c.requires.signals_value.1 ∙ inputs_none (zeros_of vectors))

pub loop-w-preserved : goal.loop-w-preserved
loop-w-preserved c =
    let loop = c.loop-w in
    let vectors = c.args.vectors.now in
    let few : loop.w < 4 = omega arith in
    let ones = ap (λ (b : Block). b.ones) c.block_of-block.ensures in
    let zeros = ap (λ (b : Block). b.zeros) c.block_of-block.ensures in (
      rw add-one (inputs_turn (ones_of vectors) loop.w few ones c.transpose.ensures loop.invariant.0 c.put_inputs.ensures),
      rw add-one
          (inputs_turn (zeros_of vectors) loop.w few zeros c.transpose-in-loop-w.ensures loop.invariant.1 c.put_inputs-in-loop-w.ensures),
    )
