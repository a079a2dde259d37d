-- `grade_rows::all_pairs` meets its contract. The loop's invariant: the codes of the nodes below `a` are written. Assumes nothing.
use Rattle.std.proofs.Common.{arith}
use Rattle.circuit.specs.Circuit.{join_lists, node_pairs}
use Rattle.grade_rows.proofs.RowWriting.{wrote_nothing, pairs_of, pair_codes, node_place, node_more, node_end}
use Rattle.grade_rows.proofs.all_pairs.Goals as goal

pub loop-a-init : goal.loop-a-init
unfolding join_lists
loop-a-init c = wrote_nothing

pub put_codes-next-requires : goal.put_codes-next-requires
unfolding node_pairs
put_codes-next-requires c =
    let a = c.args in
    let l = c.loop-a in record {
      instance_bound = omega arith;
      to_in_bounds =
          node_place a.instance a.h (pairs_of a.h) a.rows.now a.at c.requires.h_in_bounds l.a (omega arith)
          l.rows l.next l.invariant _ (pair_codes a.instance a.h l.a);
    }

pub loop-a-preserved : goal.loop-a-preserved
unfolding node_pairs
loop-a-preserved c =
    let a = c.args in
    let l = c.loop-a in
    node_more a.instance a.h (pairs_of a.h) a.rows.now a.at c.requires.h_in_bounds l.a (omega arith)
    l.rows l.next l.invariant _ (pair_codes a.instance a.h l.a) _ _ c.put_codes-next.ensures.1 c.put_codes-next.ensures.0

pub returns : goal.returns
unfolding node_pairs
returns c =
    let a = c.args in
    let l = c.loop-a in
    node_end a.instance a.h (pairs_of a.h) a.rows.now a.at c.requires.h_in_bounds l.a (omega arith) l.rows l.next l.invariant
