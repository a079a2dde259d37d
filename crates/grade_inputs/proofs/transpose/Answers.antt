-- `grade_inputs::transpose` meets its contract: each call does one of the six steps. Assumes nothing.
use Rattle.grade_inputs.proofs.TurnLaws.{step_32, step_16, step_8, step_4, step_2, step_1, steps_all}
use Rattle.grade_inputs.proofs.transpose.Goals as goal

pub exchange-requires : goal.exchange-requires
exchange-requires c = step_32

pub exchange-requires-2 : goal.exchange-requires-2
exchange-requires-2 c = step_16

pub exchange-requires-3 : goal.exchange-requires-3
exchange-requires-3 c = step_8

pub exchange-requires-4 : goal.exchange-requires-4
exchange-requires-4 c = step_4

pub exchange-requires-5 : goal.exchange-requires-5
exchange-requires-5 c = step_2

pub exchange-requires-6 : goal.exchange-requires-6
exchange-requires-6 c = step_1

pub returns : goal.returns
returns c =
    steps_all _ c.exchange.ensures c.exchange-2.ensures c.exchange-3.ensures c.exchange-4.ensures c.exchange-5.ensures c.exchange-6.ensures
