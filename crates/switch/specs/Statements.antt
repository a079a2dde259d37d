-- The theorems on paths, and on what the code's words and planes tell of them, that all later crates rest on. Their proofs are in proofs/.
use Rattle.std.specs.Prelude.{ℕ, ◌-◌, ◌^◌, ◌≤◌, ◌<◌, ◌≡◌, false, not, ◌⊎◌, ◌↔◌, List, [], ◌++◌, map, T, length, get_or}
use Rattle.words.specs.Bits.{bit}
use Rattle.words.specs.Each.{word_of_each}
use Rattle.switch.specs.Conduction.{Value, at_x, Channel, channel_p, channel_n, Edge, Switching, by_values, edge_on, links}
use Rattle.switch.specs.Conduction.{Link, Among, Joined, p_ends, n_ends, bad_ends, ground, supply}
use Rattle.switch.specs.Modules.{ModuleType, most_nodes, most_labels, in_range, links_of, setting_of, Complementary, LevelIs}
use Rattle.switch.specs.Bridges.{Bridge, Marked, MarkedByEnds}
use Rattle.switch.specs.Deciding.{joins, is_complementary, level_in, output_value, is_marked}
use Rattle.switch.specs.Records.{value_of, complement, by_planes}
use Rattle.switch.specs.Distances.{DistanceFrom, IsRail, GreatestIs, LinksBelow}
use Rattle.switch.specs.Depth.{next_nodes, nodes_within, depth}
use Rattle.switch.specs.Promises.{rail_words, four_rounds, PlanesHold, planes, planes_of}

-- 01, "Conduction": an edge of tag 3 that is not refused is p-channel or n-channel, and not both
abbrev pub OneChannel : Type 0
OneChannel = (h o a b : ℕ) → bad_ends h o a b ≡ false → p_ends o a b ≡ not (n_ends h o a b)

-- the tests decide
abbrev pub JoinsDecides : Type 0
JoinsDecides = (ws : List Link) (a b : ℕ) → Joined ws a b ↔ T (joins ws a b)

abbrev pub ComplementaryDecides : Type 0
ComplementaryDecides = (t : ModuleType) → Complementary t ↔ T (is_complementary t)

abbrev pub MarkDecides : Type 0
MarkDecides = (t : ModuleType) (values : ℕ → Value) (bridge : Bridge) → Marked t values bridge ↔ T (is_marked t values bridge)

-- joined is an equivalence; more links, more joined
pub record JoinedIsEquivalence : Type 0 where
  pub itself : (ws : List Link) (a : ℕ) → Joined ws a a
  pub turned : (ws : List Link) (a b : ℕ) → Joined ws a b → Joined ws b a
  pub through : (ws : List Link) (a b c : ℕ) → Joined ws a b → Joined ws b c → Joined ws a c

abbrev pub MoreLinks : Type 0
MoreLinks = (ws more : List Link) → ((w : Link) → Among w ws → Among w more) → (a b : ℕ) → Joined ws a b → Joined more a b

-- what the theorems need of a type; every type that reading accepts is one
pub record Accepted (t : ModuleType) : Type 0 where
  pub ranges : T (in_range t)
  pub complementary : Complementary t

-- the rails are apart under every setting, since the output is joined to exactly one of them: nothing else is asked of the type, no rule
-- for its channels either. Where its labels are in range they are apart under any values, X among them, and the output is never joined to
-- both
pub record RailsApart : Type 0 where
  pub settings : (t : ModuleType) → Complementary t → (s : ℕ) → s < 2 ^ t.labels
      → Joined (links_of t (setting_of s)) supply ground → ⊥
  pub rails : (t : ModuleType) → Accepted t → (values : ℕ → Value) → Joined (links_of t values) supply ground → ⊥
  pub output : (t : ModuleType) → Accepted t → (values : ℕ → Value)
      → Joined (links_of t values) t.output supply → Joined (links_of t values) t.output ground → ⊥

-- (a) 01, "Faults, marks and classes": under any values, X among them, the closed bridge makes a path from supply to ground
-- exactly when one end is joined to supply and the other to ground, or for kind 1 by the label's value
abbrev pub ClosedPathIsEnds : Type 0
ClosedPathIsEnds =
    (t : ModuleType) → Accepted t → (values : ℕ → Value) (bridge : Bridge) → Marked t values bridge ↔ MarkedByEnds t values bridge

-- what is on by the one is on by the other
abbrev pub Within : Switching → Switching → Type 0
Within on more = (c : Channel) (l : ℕ) → T (on c l) → T (more c l)

-- then every on edge stays on, and what is joined stays joined; so it does beside other links, of a closed bridge, which may be more too.
-- So what is marked stays marked
pub record MoreJoined (on more : Switching) : Type 0 where
  pub edge : (e : Edge) → T (edge_on on e) → T (edge_on more e)
  pub joining : (es : List Edge) (a b : ℕ) → Joined (links on es) a b → Joined (links more es) a b
  pub beside : (es : List Edge) (closed also : List Link) → ((w : Link) → Among w closed → Among w also)
      → (a b : ℕ) → Joined (closed ++ links on es) a b → Joined (also ++ links more es) a b

abbrev pub MoreOnMoreJoined : Type 0
MoreOnMoreJoined = (on more : Switching) → Within on more → MoreJoined on more

-- a list has a word in this place
abbrev pub WordAt : List ℕ → ℕ → Type 0
WordAt words l = (l < length words) × (get_or words l 0 < 2 ^ 64)

-- a label switches p on, or n, or neither
abbrev pub Excluding : Switching → Type 0
Excluding on = (l : ℕ) → T (on channel_p l) → T (on channel_n l) → ⊥

-- a transistor is possibly on unless its label switches the other channel on: p unless it is known to be 1, n unless it is known to be 0
unfoldable pub possibly : Switching → Switching
possibly on channel_p l = not (on channel_n l)
possibly on channel_n l = not (on channel_p l)

-- what is surely joined is possibly joined; and by planes the possible is what the complemented planes say, in each other's place
pub record SureIsPossible : Type 0 where
  pub values_exclude : (values : ℕ → Value) → Excluding (by_values values)
  pub possible : (on : Switching) → Excluding on → MoreJoined on (possibly on)
  pub by_planes_lem : (ones zeros : List ℕ) (v : ℕ) → v < 64 → (c : Channel) (l : ℕ) → WordAt ones l → WordAt zeros l
      → by_planes (map complement zeros) (map complement ones) v c l ≡ possibly (by_planes ones zeros v) c l

-- values are refined when each label that was X is anything now, and each 0 and 1 is kept. Labels past k are X in every use, so nothing is
-- lost by asking it of all labels
abbrev pub Refines : (ℕ → Value) → (ℕ → Value) → Type 0
Refines values finer = (l : ℕ) → (values l ≡ at_x) ⊎ (finer l ≡ values l)

-- (b) refined values keep every on edge, every joining, every known output and every mark
pub record KeptByRefining (t : ModuleType) (values finer : ℕ → Value) : Type 0 where
  pub on_edge : (e : Edge) → T (edge_on (by_values values) e) → T (edge_on (by_values finer) e)
  pub joining : (a b : ℕ) → Joined (links_of t values) a b → Joined (links_of t finer) a b
  pub output : (output_value t values ≡ at_x) ⊎ (output_value t finer ≡ output_value t values)
  pub mark : (bridge : Bridge) → Marked t values bridge → Marked t finer bridge

abbrev pub RefinementKeeps : Type 0
RefinementKeeps = (t : ModuleType) → Accepted t → (values finer : ℕ → Value) → Refines values finer → KeptByRefining t values finer

-- in an accepted type a node has one level, which is `level_in`; so the output has one value
pub record LevelIsOne : Type 0 where
  pub given : (ws : List Link) (m : ℕ) → LevelIs ws m (level_in ws m)
  pub only : (t : ModuleType) → Accepted t → (values : ℕ → Value) (m : ℕ) (value : Value)
      → LevelIs (links_of t values) m value → value ≡ level_in (links_of t values) m

-- where every label is known, so is the output
abbrev pub KnownOutput : Type 0
KnownOutput = (t : ModuleType) → Accepted t → (values : ℕ → Value)
    → ((l : ℕ) → l < t.labels → values l ≡ at_x → ⊥) → output_value t values ≡ at_x → ⊥

-- the two planes of a value tell it, at each of the 64 positions
abbrev pub PlanesAreValues : Type 0
PlanesAreValues = (f : ℕ → Value) (v : ℕ) → v < 64 → value_of (bit (planes f).ones v) (bit (planes f).zeros v) ≡ f v

-- where two planes hold values, what the planes switch on is what the values switch on
abbrev pub PlanesSwitch : Type 0
PlanesSwitch =
    (ones zeros : List ℕ) (v : ℕ) (values : ℕ → Value) → PlanesHold ones zeros v values → by_planes ones zeros v ≡ by_values values

-- the planes that the output's two words give are those of its value
abbrev pub OutputPlanes : Type 0
OutputPlanes = (t : ModuleType) (ones zeros : List ℕ) (values : ℕ → ℕ → Value) → t.output < most_nodes
    → ((v : ℕ) → v < 64 → PlanesHold ones zeros v (values v))
    → planes_of (get_or (rail_words t ones zeros supply) t.output 0) (get_or (rail_words t ones zeros ground) t.output 0)
    ≡ planes (λ (v : ℕ). output_value t (values v))

-- ---- 02, "How many rounds joining takes"

-- no two numbers are the greatest
abbrev pub OneGreatest : Type 1
OneGreatest = (P : ℕ → Type 0) (d e : ℕ) → GreatestIs P d → GreatestIs P e → d ≡ e

pub record DepthIsDistance : Type 0 where
  -- over links between the nodes of a module
  pub greatest : (ws : List Link) → LinksBelow most_nodes ws → (a : ℕ) → a < most_nodes → GreatestIs (DistanceFrom ws a) (depth ws a)
  -- it is below the number of nodes
  pub below_nodes : (n : ℕ) (ws : List Link) → LinksBelow n ws → (a : ℕ) → a < n → depth ws a < n
  -- it hangs only on which links there are
  pub same_links : (ws others : List Link) → ((w : Link) → Among w ws ↔ Among w others) → (a : ℕ) → depth ws a ≡ depth others a

-- rounds from a node: one hands on, along each link, what the link's ends had before it (`nodes_within`, `next_nodes`). As many of them add
-- a node as the greatest distance has links, and no later one does
pub record RoundsAddNodes : Type 0 where
  pub adds : (ws : List Link) (a n : ℕ) → n < depth ws a → next_nodes (nodes_within ws n a) ws ≡ [] → ⊥
  pub adds_no_more : (ws : List Link) → LinksBelow most_nodes ws → (a : ℕ) → a < most_nodes
      → (n : ℕ) → depth ws a ≤ n → next_nodes (nodes_within ws n a) ws ≡ []

-- d is the distance of some joined node from its rail, by what four words of each plane switch on at one of 256 positions
pub record DistanceUnder (t : ModuleType) (ones zeros : List ℕ) (d : ℕ) : Type 0 where
  pub word : ℕ
  pub position : ℕ
  pub rail : ℕ
  pub is_word : word < 4
  pub is_position : position < 64
  pub is_rail : IsRail rail
  pub from : let on = by_planes (word_of_each 4 word most_labels ones) (word_of_each 4 word most_labels zeros) position in
      DistanceFrom (links on t.edges) rail d

-- what the joining step promises of its rounds is the greatest distance over the vectors that it handles together. That is of any planes:
-- where two contradict each other a node can be joined to both rails, and both distances count
abbrev pub RoundsAreDistances : Type 0
RoundsAreDistances =
    (t : ModuleType) → T (in_range t) → (ones zeros : List ℕ) → GreatestIs (DistanceUnder t ones zeros) (four_rounds t ones zeros)

-- at most h - 1 in a type with the highest node h, by values: of its h + 1 nodes a path from one rail does not reach the other, and a
-- shortest path does not come to a node twice
abbrev pub AtMostBelowHighest : Type 0
AtMostBelowHighest =
    (t : ModuleType) → Accepted t → (values : ℕ → Value) (rail : ℕ) → IsRail rail → (d : ℕ)
    → DistanceFrom (links_of t values) rail d → d ≤ t.highest - 1
