-- `togyamiru::answering::list_circuit` meets its contract: the codes of the rows, as many as there are faults. Assumes nothing.
use mathlib.Core.Path.{ap, ◌∙◌}
use mathlib.Core.List.{List, ◌++◌}
use native.Mathlib.Omega.{arith}
use Prim.Native.Nat.{ℕ}
use lib.ListN.{take, drop}
use Rattle.grading.specs.Grading.{over}
use Rattle.togyamiru.proofs.RowsLaws.{put_front}
use Rattle.togyamiru.proofs.answering.list_circuit.Goals as goal

pub returns : goal.returns
returns c = λ meant e good.
    let rows = c.args.rows.now in
    let faults = c.args.c.faults in
    ap (λ (front : List ℕ). front ++ drop faults rows) c.copy_from_slice.ensures.after
    ∙ put_front c.rows_of-codes.result rows faults (omega arith)
    ∙ ap (λ (codes : List ℕ). over (take faults codes) rows) (c.rows_of-codes.ensures meant e good)
