-- The loop of `program_io::holding::tell_inputs_with`: the inputs before this one were told, each once.
use Prim.Native.Nat.{◌-◌, ◌≤◌}
use Rattle.program_io.specs.Telling.{InputPut, InputsPut}
use Rattle.program_io.proofs.holding.tell_inputs_with.Given as goal

abbrev pub invariant-loop-number : goal.invariant-loop-number
invariant-loop-number g l =
    (1 ≤ l.number) × InputsPut (InputPut g.T.Holding.put) (l.number - 1) l.fn.printer.output l.printer.output
    (g.W.Write.contents l.fn.printer.writer) (g.W.Write.contents l.printer.writer)
