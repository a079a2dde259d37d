-- `grade_rows::all_inputs` meets its contract. The loop's invariant: the codes of the nodes below `m` are written. Assumes nothing.
use Rattle.std.proofs.Common.{arith}
use Rattle.circuit.specs.Circuit.{join_lists, node_inputs}
use Rattle.grade_rows.proofs.RowWriting.{wrote_nothing, inputs_at, input_codes, node_place, node_more, node_end}
use Rattle.grade_rows.proofs.all_inputs.Goals as goal

pub loop-m-init : goal.loop-m-init
unfolding join_lists
loop-m-init c = wrote_nothing

pub put_codes-next-requires : goal.put_codes-next-requires
unfolding node_inputs
put_codes-next-requires c =
    let a = c.args in
    let l = c.loop-m in record {
      instance_bound = omega arith;
      to_in_bounds =
          node_place a.instance a.h (inputs_at a.k) a.rows.now a.at c.requires.k_in_bounds l.m (omega arith)
          l.rows l.next l.invariant _ (input_codes a.instance a.k l.m);
    }

pub loop-m-preserved : goal.loop-m-preserved
unfolding node_inputs
loop-m-preserved c =
    let a = c.args in
    let l = c.loop-m in
    node_more a.instance a.h (inputs_at a.k) a.rows.now a.at c.requires.k_in_bounds l.m (omega arith)
    l.rows l.next l.invariant _ (input_codes a.instance a.k l.m) _ _ c.put_codes-next.ensures.1 c.put_codes-next.ensures.0

pub returns : goal.returns
unfolding node_inputs
returns c =
    let a = c.args in
    let l = c.loop-m in
    node_end a.instance a.h (inputs_at a.k) a.rows.now a.at c.requires.k_in_bounds l.m (omega arith) l.rows l.next l.invariant
