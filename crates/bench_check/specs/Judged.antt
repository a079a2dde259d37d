-- The types that bench/stack judges, from six numbers, each brought into its range: highest node 24 to 31, output node 2 to 17, 1 to 12
-- labels, and one edge to the most edges, all between one node and ground, at one label.
use Rattle.std.specs.Prelude.{ℕ, ◌+◌, ◌%◌, cond, ltb, replicate}
use Rattle.switch.specs.Conduction.{channel_p, channel_n, by_position, Edge}
use Rattle.switch.specs.Modules.{most_edges}
use Rattle.switch.specs.Records.{edge_record}
use Rattle.switch.specs.declared.ModuleType.{ModuleType}

abbrev pub judged_edge : ℕ → ℕ → ℕ → Edge
judged_edge k node label = record {
  first = node % 24;
  second = 0;
  channel = cond (ltb label node) channel_p channel_n;
  label = label % (1 + k % 12);
  tag = by_position;
}

abbrev pub judged : ℕ → ℕ → ℕ → ℕ → ℕ → ℕ → ModuleType
judged h o k node label count = record {
  highest = 24 + h % 8;
  output = 2 + o % 16;
  labels = 1 + k % 12;
  count = count + 1;
  edges = replicate most_edges (edge_record (judged_edge k node label));
}
