-- `read_types::edges::add_each` meets its contract. The loop's invariant: all edges stored is those stored so far, with those from label
-- number `l-index` on stored behind them. Assumes nothing.
use Rattle.std.proofs.Common.{◌≡◌, ◌+◌, ◌≤◌, length, map, drop}
use Rattle.switch.specs.Conduction.{channel_of, edges_for}
use Rattle.switch.specs.Modules.{most_edges}
use Rattle.switch.specs.Records.{edge_record}
use Rattle.read_types.specs.EdgeTurns.{with_placed}
use Rattle.read_types.proofs.edges.add_each.Given as goal

abbrev pub invariant-loop-l : goal.invariant-loop-l
invariant-loop-l l = record {
  room : l.t.count + length l.labels ≤ most_edges + l.l-index;
  stored : let es = map edge_record (edges_for l.a l.b (channel_of l.fn.t.output l.a l.b) l.labels) in
      with_placed l.t (drop l.l-index es) ≡ with_placed l.fn.t es;
}
