-- `print_lines::line::Line::push_bytes` meets its contract. Assumes nothing.
use native.Mathlib.Omega.{arith}
use Rattle.print_lines.proofs.LineLaws.{line_grows}
use Rattle.print_lines.proofs.line.Line.push_bytes.Goals as goal

pub returns : goal.returns
returns g c =
    let line = c.self.inside in
    line_grows line.bytes line.count c.self.view_is (omega arith) _ (omega arith) c.put_bytes-self-inside.ensures
