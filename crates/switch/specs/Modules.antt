-- 01, "The circuit file" (tags 2 and 3; 02 has tag 7) and "Conduction": a module type, its ranges, when it is complementary, its output.
use Rattle.std.specs.Prelude.{ℕ, zero, suc, ◌-◌, ◌^◌, ◌<◌, Bool, true, false, ◌&&◌, ◌||◌, List, [], ◌∷◌, leb, ltb}
use Rattle.words.specs.Bits.{bit}
use Rattle.switch.specs.Conduction.{Value, at0, at1, at_x, Edge, Link, Joined, between, by_values, links, ground, supply}

-- the limits of a module type: its edges (02, "No more grouped transistors"), its nodes (0 to 31) and its labels
abbrev pub most_edges : ℕ
most_edges = 256

abbrev pub most_nodes : ℕ
most_nodes = 32

abbrev pub most_labels : ℕ
most_labels = 12

-- a module type: highest node h, output node o, number of labels k, edges
pub record ModuleType : Type 0 where
  pub highest : ℕ
  pub output : ℕ
  pub labels : ℕ
  pub edges : List Edge

unfoldable pub all_of : {A : Type 0} → (A → Bool) → List A → Bool
all_of test [] = true
all_of test (a ∷ as') = test a && all_of test as'

unfoldable pub any_of : {A : Type 0} → (A → Bool) → List A → Bool
any_of test [] = false
any_of test (a ∷ as') = test a || any_of test as'

-- h is 2 to 31, o is 2 to h, k is 1 to 12
unfoldable pub type_in_range : ℕ → ℕ → ℕ → Bool
type_in_range h o k = between 2 (most_nodes - 1) h && between 2 h o && between 1 most_labels k

-- two nodes 0 to h, and a label 0 to k - 1
unfoldable pub edge_in_range : ℕ → ℕ → Edge → Bool
edge_in_range h k e = leb e.first h && leb e.second h && ltb e.label k

unfoldable pub in_range : ModuleType → Bool
in_range t = type_in_range t.highest t.output t.labels && all_of (edge_in_range t.highest t.labels) t.edges

unfoldable pub links_of : ModuleType → (ℕ → Value) → List Link
links_of t values = links (by_values values) t.edges

unfoldable pub value_of_bit : ℕ → Value
value_of_bit zero = at0
value_of_bit (suc b) = at1

-- a setting gives each label 0 or 1: setting s gives label l the bit of s at l
unfoldable pub setting_of : ℕ → ℕ → Value
setting_of s l = value_of_bit (bit s l)

pub data ExactlyOne (A B : Type 0) : Type 0 where
  only_first : A → (B → ⊥) → ExactlyOne A B
  only_second : (A → ⊥) → B → ExactlyOne A B

-- under each of the 2^k settings of its labels the output is joined to exactly one of nodes 0 and 1
unfoldable pub Complementary : ModuleType → Type 0
Complementary t =
    (s : ℕ) → s < 2 ^ t.labels
    → ExactlyOne (Joined (links_of t (setting_of s)) t.output ground) (Joined (links_of t (setting_of s)) t.output supply)

-- the level of a node over links: 1 where it is joined to supply, 0 where it is joined to ground, X where it is joined to neither
pub data LevelIs (ws : List Link) (m : ℕ) : Value → Type 0 where
  level_1 : Joined ws m supply → LevelIs ws m at1
  level_0 : Joined ws m ground → LevelIs ws m at0
  level_x : (Joined ws m supply → ⊥) → (Joined ws m ground → ⊥) → LevelIs ws m at_x

-- a type's output under values
abbrev pub OutputIs : ModuleType → (ℕ → Value) → Value → Type 0
OutputIs t values = LevelIs (links_of t values) t.output
