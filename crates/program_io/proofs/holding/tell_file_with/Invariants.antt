-- The loop of `program_io::holding::tell_file_with`: what is held is of the file, and the lines before the next were handed over and put behind what the
-- writer held. Each turn hands over a line at least.
use Prim.Native.Nat.{◌-◌}
use Rattle.print_lines.specs.Pieces.{text_from}
use Rattle.print_lines.proofs.HandingLaws.{HandingOver}
use Rattle.program_io.specs.Outputs.{TextPut}
use Rattle.program_io.proofs.holding.tell_file_with.Given as goal

abbrev pub invariant-loop-piece : goal.invariant-loop-piece
invariant-loop-piece g l = record {
  held : g.T.Holding.is_of l.text l.file;
  handing : HandingOver (g.T.Holding.total l.file) l.handed.lines l.next l.initial.out l.out;
  put : TextPut l.initial.printer.output l.printer.output (g.W.Write.contents l.initial.printer.writer) (g.W.Write.contents l.printer.writer)
      (text_from (g.T.Holding.line l.file) 0 l.handed.lines);
}

abbrev pub decreases-loop-piece : goal.decreases-loop-piece
decreases-loop-piece g l = g.T.Holding.total l.file - l.next
