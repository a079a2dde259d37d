-- `grade_inputs::exchange` meets its contract. The loop's invariant: the words of the first `i` turns are stepped, the others as they were.
-- Assumes nothing.
use Rattle.std.proofs.Common.{◌≡◌, ◌∙◌, ◌+◌, ◌-◌, ◌≤◌, ◌<◌, bit_and, add-one, arith}
use Rattle.grade_inputs.proofs.TurnLaws.{value_high, pair_room, turns_none, turns_more, turns_all}
use Rattle.grade_inputs.proofs.exchange.Goals as goal
use Rattle.grade_inputs.proofs.exchange.Goals.{In-loop-i}

pub loop-i-init : goal.loop-i-init
loop-i-init c = turns_none c.args.by c.args.low c.requires c.args.block.now c.told-block

-- the step is one of the six, and both words of a turn are in the square
room : (c : In-loop-i)
    → (c.args.by ≤ 32)
    × (c.loop-i.i + bit_and c.loop-i.i (64 - c.args.by) + c.args.by < 64)
room c = (
  value_high c.args.by c.args.low c.requires,
  pair_room c.args.by c.args.low c.requires c.loop-i.i c.loop-i-test.true,
)

pub overflow_sub-k : goal.overflow_sub-k
overflow_sub-k c = omega (arith, room (goal.at.overflow_sub-k c).In-loop-i)

pub bounds-block-k-in-loop-i : goal.bounds-block-k-in-loop-i
bounds-block-k-in-loop-i c = omega (arith, room (goal.at.bounds-block-k-in-loop-i c).In-loop-i)

pub overflow_shl-block : goal.overflow_shl-block
overflow_shl-block c = omega (arith, room (goal.at.overflow_shl-block c).In-loop-i)

pub overflow_shr-block : goal.overflow_shr-block
overflow_shr-block c = omega (arith, room (goal.at.overflow_shr-block c).In-loop-i)

pub bounds-block-k-in-loop-i-3 : goal.bounds-block-k-in-loop-i-3
bounds-block-k-in-loop-i-3 c = omega (arith, room (goal.at.bounds-block-k-in-loop-i-3 c).In-loop-i)

pub loop-i-preserved : goal.loop-i-preserved
loop-i-preserved c =
    let loop = c.loop-i in
    rw add-one (turns_more c.args.by c.args.low c.requires c.args.block.now loop.i c.loop-i-test.true loop.block loop.invariant)

pub returns : goal.returns
returns c =
    let done : c.loop-i.i ≡ 32 = omega arith in
    c.loop-i.invariant
    ∙ (rw done (turns_all c.args.by c.args.low c.requires c.args.block.now))
