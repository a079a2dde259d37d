-- What the code computes on the way, as lists: edges taken apart, planes of gates, rounds of joining, planes of 64 settings. Only its own
-- proofs use it. A word has a bit for each of 64 vectors, or of 64 settings.
use Rattle.std.specs.Prelude.{ℕ, zero, suc, ◌+◌, ◌-◌, ◌*◌, ◌/◌, ◌%◌, ◌^◌, ◌<◌, ◌≤◌, ◌↔◌, ◌≡◌}
use Rattle.std.specs.Prelude.{List, map, ◌++◌, length, get_or, set, replicate}
use Rattle.std.specs.Int.Bits.{bit_and, bit_or}
use Rattle.words.specs.Bits.{bit, of_bool, word, greatest_to}
use Rattle.words.specs.Each.{word_of_each}
use Rattle.words.specs.Tables.{table}
use Rattle.switch.specs.Conduction.{Channel, channel_p, channel_n, channel_by, by_position, Edge, Link, Among}
use Rattle.switch.specs.Modules.{ModuleType, most_nodes, most_labels, most_edges}
use Rattle.switch.specs.Deciding.{joins}
use Rattle.switch.specs.Depth.{depth}
use Rattle.switch.specs.Records.{first_node_in, second_node_in, gate_in}
use Rattle.switch.specs.declared.Edge.{Edge as EdgeRecord}
use Rattle.join_nodes.specs.declared.edges.Parts.{Parts}

-- what switches an edge, its gate, is below this
abbrev pub most_gates : ℕ
most_gates = 32

-- ---- edges taken apart

abbrev pub parts_of : EdgeRecord → Parts
parts_of e = record { first = first_node_in e; second = second_node_in e; gate = gate_in e }

-- what is read past the last edge
abbrev pub no_parts : Parts
no_parts = record { first = 0; second = 0; gate = 0 }

-- what stands in a place without an edge: no edge has this gate
abbrev pub unused_parts : Parts
unused_parts = record { first = 0; second = 0; gate = most_gates }

-- the places of a list: the parts of its edges, and what stands in those behind them
abbrev pub parts_in_places : List EdgeRecord → List Parts
parts_in_places es = map parts_of es ++ replicate (most_edges - length es) unused_parts

-- the edge that has these parts. They have no tag, since a tag conducts nothing: this is the edge without its tag
unfoldable pub edge_with_parts : Parts → Edge
edge_with_parts p = record {
  first = p.first;
  second = p.second;
  channel = channel_by (p.gate / 16);
  label = p.gate % 16;
  tag = by_position;
}

-- the type with such edges
unfoldable pub type_in_parts : ℕ → ℕ → ℕ → List Parts → ModuleType
type_in_parts h o k parts = record { highest = h; output = o; labels = k; edges = map edge_with_parts parts }

-- the edges have gates, and nodes below `nodes`, at most 32
pub record PartsFit (parts : List Parts) (nodes : ℕ) : Type 0 where
  pub first : (i : ℕ) → i < length parts → (get_or parts i no_parts).first < nodes
  pub second : (i : ℕ) → i < length parts → (get_or parts i no_parts).second < nodes
  pub gate : (i : ℕ) → i < length parts → (get_or parts i no_parts).gate < most_gates
  pub few_nodes : nodes ≤ most_nodes

-- and are those of a type with these three numbers: highest node, output and labels
pub record PartsGiven (h o k : ℕ) (parts : List Parts) : Type 0 where
  pub fit : PartsFit parts (h + 1)
  pub label : (i : ℕ) → i < length parts → (get_or parts i no_parts).gate % 16 < most_labels
  pub output : o < most_nodes
  pub labels : k ≤ most_labels

-- ---- planes of gates

-- what switches a transistor: its label's known-0 plane (p) or known-1 plane (n)
unfoldable pub plane_of : List ℕ → List ℕ → Channel → ℕ → ℕ
plane_of ones zeros channel_p l = get_or zeros l 0
plane_of ones zeros channel_n l = get_or ones l 0

-- word w of each gate is that of its transistor, from labels that have `width` words each
pub record WidePlanes (ones zeros : List ℕ) (width : ℕ) (planes : List ℕ) : Type 0 where
  pub long : length planes ≡ width * most_gates
  pub each : (w g : ℕ) → w < width → g < most_gates
      → get_or planes (width * g + w) 0
      ≡ plane_of (word_of_each width w most_labels ones) (word_of_each width w most_labels zeros) (channel_by (g / 16)) (g % 16)

-- word w of the gate of edge i
abbrev pub gate_word : ℕ → ℕ → List Parts → List ℕ → ℕ → ℕ
gate_word width w parts planes i = get_or planes (width * (get_or parts i no_parts).gate + w) 0

-- ---- links

-- u is the link of an edge that is on under vector v: its word has a 1 there
pub record OnLink (parts : List Parts) (on : ℕ → ℕ) (v : ℕ) (u : Link) : Type 0 where
  pub place : ℕ
  pub within : place < length parts
  pub is_on : bit (on place) v ≡ 1
  pub ends : u ≡ ((get_or parts place no_parts).first, (get_or parts place no_parts).second)

-- lists of just these links, one for each vector
abbrev pub LinksAre : List Parts → (ℕ → ℕ) → (ℕ → List Link) → Type 0
LinksAre parts on ws = (v : ℕ) → v < 64 → (u : Link) → Among u (ws v) ↔ OnLink parts on v u

-- bit v of node m's word is 1 exactly when m is joined to the rail over the links under vector v
unfoldable pub joined_words : (ℕ → List Link) → ℕ → List ℕ
joined_words ws rail = table most_nodes (λ (m : ℕ). word (λ (v : ℕ). of_bool (joins (ws v) m rail)))

-- the word of an output for a rail, over any such lists
abbrev pub OutputTold : List Parts → List ℕ → ℕ → ℕ → ℕ → Type 0
OutputTold parts planes output rail r =
    (ws : ℕ → List Link) → LinksAre parts (gate_word 1 0 parts planes) ws → r ≡ get_or (joined_words ws rail) output 0

-- ---- rounds

unfoldable pub added : List ℕ → ℕ → ℕ → List ℕ
added words m w = set words m (bit_or (get_or words m 0) w)

-- the words after the first i edges of a round, where `on` has the word of each edge: each edge hands on what its ends had before the round
unfoldable pub round_to : List Parts → (ℕ → ℕ) → List ℕ → ℕ → List ℕ
round_to parts on old zero = old
round_to parts on old (suc i) =
    let e = get_or parts i no_parts in
    let half = added (round_to parts on old i) e.first (bit_and (get_or old e.second 0) (on i)) in
    added half e.second (bit_and (get_or old e.first 0) (on i))

-- ---- rounds over things that have `width` words each: gates have their planes so, and nodes the words that they are joined under

-- the words after the first w words of one thing, at `from`, are handed on to another, at `to`, along an edge whose gate's plane is at `at`
unfoldable pub handed_to : List ℕ → ℕ → List ℕ → ℕ → List ℕ → ℕ → ℕ → List ℕ
handed_to planes at joined from next to zero = next
handed_to planes at joined from next to (suc w) =
    added (handed_to planes at joined from next to w) (to + w) (bit_and (get_or joined (from + w) 0) (get_or planes (at + w) 0))

-- the words after the first i edges of a round
unfoldable pub wide_round_to : List Parts → List ℕ → ℕ → List ℕ → ℕ → List ℕ
wide_round_to parts planes width old zero = old
wide_round_to parts planes width old (suc i) =
    let e = get_or parts i no_parts in
    let a = width * e.first in
    let b = width * e.second in
    let g = width * e.gate in
    handed_to planes g old a (handed_to planes g old b (wide_round_to parts planes width old i) a width) b width

-- and after all of them
abbrev pub wide_round : List Parts → List ℕ → ℕ → List ℕ → List ℕ
wide_round parts planes width old = wide_round_to parts planes width old (length parts)

-- before the first round the rail has every bit, and no other node has one
unfoldable pub rail_alone : ℕ → ℕ → List ℕ
rail_alone width rail = replicate (width * rail) 0 ++ (replicate width (2 ^ 64 - 1) ++ replicate (width * (most_nodes - suc rail)) 0)

-- the words after so many rounds
unfoldable pub words_after : List Parts → List ℕ → ℕ → ℕ → ℕ → List ℕ
words_after parts planes width rail zero = rail_alone width rail
words_after parts planes width rail (suc r) = wide_round parts planes width (words_after parts planes width rail r)

-- word w of each node is the words of those that are joined to the rail over the edges that word w of their gates switches on. They are
-- the words after `rounds` rounds, each of which added a node, under some vector, and behind which one adds none; and that number is the
-- greatest distance from the rail, over all words and their positions
pub record WideJoined (parts : List Parts) (planes : List ℕ) (width rail : ℕ) (joined : List ℕ) (rounds : ℕ) : Type 0 where
  pub long : length joined ≡ width * most_nodes
  pub each : (w : ℕ) → w < width → (ws : ℕ → List Link) → LinksAre parts (gate_word width w parts planes) ws
      → word_of_each width w most_nodes joined ≡ joined_words ws rail
  pub after_rounds : joined ≡ words_after parts planes width rail rounds
  pub each_added : (r : ℕ) → r < rounds
      → words_after parts planes width rail (suc r) ≡ words_after parts planes width rail r → ⊥
  pub then_nothing :
      words_after parts planes width rail (suc rounds) ≡ words_after parts planes width rail rounds
  pub rounds_are : (ws : ℕ → ℕ → List Link)
      → ((w : ℕ) → w < width → LinksAre parts (gate_word width w parts planes) (ws w))
      → rounds ≡ greatest_to width (λ (w : ℕ). greatest_to 64 (λ (v : ℕ). depth (ws w v) rail))

-- ---- settings

-- the known-1 planes of the settings 64 block to 64 block + 63, and their known-0 planes
unfoldable pub setting_ones : ℕ → List ℕ
setting_ones block = table most_labels (λ (l : ℕ). word (λ (v : ℕ). bit (64 * block + v) l))

unfoldable pub setting_zeros : ℕ → List ℕ
setting_zeros block = table most_labels (λ (l : ℕ). word (λ (v : ℕ). 1 - bit (64 * block + v) l))
