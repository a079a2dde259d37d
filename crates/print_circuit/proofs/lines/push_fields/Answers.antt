-- `print_circuit::lines::push_fields` meets its contract. Assumes nothing.
use native.Mathlib.Omega.{arith}
use mathlib.Core.Path.{ap, sym, ◌∙◌}
use mathlib.Core.List.{List, ◌++◌, append-nil}
use Prim.Native.Nat.{ℕ}
use Rattle.circuit.specs.Circuit.{join_lists}
use Rattle.print_circuit.proofs.LineLaws.{join_more}
use Rattle.print_circuit.proofs.lines.push_fields.Goals as goal

pub loop-field-init : goal.loop-field-init
unfolding join_lists
loop-field-init g c = record { text = sym (append-nil c.args.line.now); short = omega arith }

pub loop-field-preserved : goal.loop-field-preserved
loop-field-preserved g c = record {
  text = c.push_to.ensures.text
      ∙ ap (λ (t : List ℕ). t ++ g.T.Field.text c.field-item.result) c.loop-field.invariant.text
      ∙ join_more g.T.Field.text c.args.line.now c.args.fields.now c.loop-field.field-index
      c.field-item.result c.field-item.is c.loop-field-test.true;
  short = omega arith;
}
