-- `print_lines::line::Line::push_number` meets its contract. Assumes nothing.
use mathlib.Core.Path.{ap}
use native.Mathlib.Omega.{arith}
use lib.ListN.{length, length-append}
use Rattle.print_lines.specs.Decimal.{decimal}
use Rattle.print_lines.proofs.DecimalLaws.{at_most_20}
use Rattle.print_lines.proofs.LineLaws.{line_length, line_grows}
use Rattle.print_lines.proofs.line.Line.push_number.Goals as goal

pub invariant_of-self : goal.invariant_of-self
invariant_of-self g c =
    let line = c.self.inside in
    omega (arith, at_most_20 c.args.n c.ranges.n.fits, line_length line.bytes line.count c.self.view_is (omega arith))

pub returns-clause-text : goal.returns-clause-text
returns-clause-text g c =
    let line = c.self.inside in
    let few = at_most_20 c.args.n c.ranges.n.fits in
    line_grows line.bytes line.count c.self.view_is (omega arith) (decimal c.args.n) (omega arith) c.put_number-self-inside.ensures

pub returns-clause-short : goal.returns-clause-short
returns-clause-short g c =
    let few = at_most_20 c.args.n c.ranges.n.fits in
    omega (arith, ap length (returns-clause-text g c), length-append c.args.self.now (decimal c.args.n))
