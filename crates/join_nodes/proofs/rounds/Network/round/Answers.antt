-- `join_nodes::rounds::Network::round` meets its contract. The loop's invariant: `next` is the model's words after the edges so far.
-- Assumes nothing.
use mathlib.Core.Path.{◌≡◌, ap, ◌∙◌}
use mathlib.Core.List.{List}
use Prim.Native.Nat.{ℕ, ◌-◌, ◌≤◌, ◌<◌, ◌+◌, ◌*◌}
use native.Mathlib.Numerals.{add-one}
use native.Mathlib.Omega.{arith}
use lib.ListN.{length, get_or}
use Rattle.words.proofs.EachLaws.{each-before}
use Rattle.join_nodes.specs.Model.{no_parts, PartsFit, handed_to, wide_round_to}
use Rattle.join_nodes.specs.declared.edges.Parts.{Parts}
use Rattle.join_nodes.proofs.WideRounds.{cut_at, handed_within, handed_length}
use Rattle.join_nodes.proofs.rounds.Network.round.Goals as goal

-- the words of the nodes and of the gate of edge i stand within the lists
words_in_lem : {parts : List Parts} {nodes : ℕ} (width i : ℕ) → PartsFit parts nodes → i < length parts
    → (width * (get_or parts i no_parts).first + width ≤ width * 32)
    × (width * (get_or parts i no_parts).second + width ≤ width * 32)
    × (width * (get_or parts i no_parts).gate + width ≤ width * 32)
words_in_lem width i fit h = (
  each-before width _ 32 (omega (arith, fit.first i h, fit.few_nodes)),
  each-before width _ 32 (omega (arith, fit.second i h, fit.few_nodes)),
  each-before width _ 32 (fit.gate i h),
)

pub loop-edge-init : goal.loop-edge-init
unfolding wide_round_to
loop-edge-init g c = c.requires.next_value

pub loop-edge-preserved : goal.loop-edge-preserved
unfolding wide_round_to
loop-edge-preserved g c =
    let network = c.args.self.now in
    let planes : List ℕ = network.planes.now in
    let joined : List ℕ = c.args.joined.now in
    let width : ℕ = g.row.W in
    let e : Parts = get_or network.edges.now c.loop-edge.edge-index no_parts in
    let places = words_in_lem width c.loop-edge.edge-index network.fit c.loop-edge-test.true in
    let handed : ℕ → ℕ → List ℕ → List ℕ
    = λ from to words. handed_to planes (width * e.gate) joined (width * from) words (width * to) width in
    let size : length c.loop-edge.next ≡ width * 32 = c.loop-edge.auto.next ∙ ap length c.requires.next_value ∙ c.requires.joined_long in
    let one = handed_within planes (width * e.gate) joined (width * e.second) c.loop-edge.next (width * e.first) width
    (width * e.first + width - width * e.first) _ _ (omega arith) (omega (arith, places.0, size))
    (λ w h. cut_at planes (width * e.gate) (omega arith) h) (λ w h. cut_at joined (width * e.second) (omega arith) h) c.hand_on.ensures in
    let other = handed_within planes (width * e.gate) joined (width * e.first) _ (width * e.second) width
    (width * e.second + width - width * e.second) _ _ (omega arith)
    (omega (
      arith,
      places.1,
      size,
      ap length one,
      handed_length planes (width * e.gate) joined (width * e.second) c.loop-edge.next
          (width * e.first) width,
    ))
    (λ w h. cut_at planes (width * e.gate) (omega arith) h)
    (λ w h. cut_at joined (width * e.first) (omega arith) h) c.hand_on-in-loop-edge.ensures in
    rw add-one (other ∙ ap (handed e.first e.second) (one ∙ ap (handed e.second e.first) c.loop-edge.invariant))
