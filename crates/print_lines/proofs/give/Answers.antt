-- `print_lines::give` meets its contract. Assumes nothing.
use mathlib.Core.Path.{ap, ◌∙◌}
use native.Mathlib.Nat.{zero-add}
use native.Mathlib.Omega.{arith}
use borrow.Author.Tests.{le-leb, lt-leb}
use lib.ListN.{length}
use Rattle.std.specs.Prelude.{Some}
use Rattle.print_lines.proofs.give.Goals as goal

pub returns-then-out-line : goal.returns-then-out-line
returns-then-out-line c =
    let e = c.args in
    let no_room = lt-leb (length e.line.now) (length e.out.now) (omega arith) in
    record { count_is = rw no_room; after_is = rw no_room }

pub returns : goal.returns
returns c =
    let e = c.args in
    let r = c.put_bytes.ensures in
    let room = le-leb (length e.line.now) (length e.out.now) (omega arith) in
    record { count_is = rw room (ap Some (r.0 ∙ zero-add _)); after_is = rw room r.1 }
