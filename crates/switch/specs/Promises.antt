-- What the code of the crate `join_nodes` promises a caller, as lists and records: the rails' words, and the planes of values, 64 vectors
-- to a word. A word has a bit for each of 64 vectors.
use Rattle.std.specs.Prelude.{ℕ, ◌≡◌, List, get_or}
use Rattle.words.specs.Bits.{bit, of_bool, word, greatest_to}
use Rattle.words.specs.Each.{word_of_each, four_each}
use Rattle.words.specs.Tables.{table}
use Rattle.switch.specs.Conduction.{Value, at0, at1, at_x, links, ground, supply}
use Rattle.switch.specs.Modules.{ModuleType, most_nodes, most_labels}
use Rattle.switch.specs.Deciding.{joins}
use Rattle.switch.specs.Depth.{deepest}
use Rattle.switch.specs.Records.{value_of, by_planes}
use Rattle.switch.specs.declared.Rails.{Rails}
use Rattle.switch.specs.declared.Planes.{Planes}

-- bit v of node m's word is 1 exactly when m is joined to the rail by what two planes switch on under vector v, whatever planes. The 64
-- positions are alike: those past the last vector have bits too, by what the planes hold there, and only `row_of` of the crate `words`
-- leaves them out
unfoldable pub rail_words : ModuleType → List ℕ → List ℕ → ℕ → List ℕ
rail_words t ones zeros rail =
    table most_nodes (λ (m : ℕ). word (λ (v : ℕ). of_bool (joins (links (by_planes ones zeros v) t.edges) m rail)))

-- the same under 256 vectors: four words for each node, from four words for each label in each plane
unfoldable pub four_rail_words : ModuleType → List ℕ → List ℕ → ℕ → List ℕ
four_rail_words t ones zeros rail =
    four_each most_nodes (λ (w : ℕ). rail_words t (word_of_each 4 w most_labels ones) (word_of_each 4 w most_labels zeros) rail)

-- 02, "How many rounds joining takes": the greatest distance of a joined node from its rail, over the 64 positions, and over the 256 that
-- joining handles together. The positions are alike here too. One where no plane has a 1 switches nothing on and adds 0; a caller's planes
-- are so past its last vector
unfoldable pub rounds_under : ModuleType → List ℕ → List ℕ → ℕ
rounds_under t ones zeros = greatest_to 64 (λ (v : ℕ). deepest (links (by_planes ones zeros v) t.edges))

unfoldable pub four_rounds : ModuleType → List ℕ → List ℕ → ℕ
four_rounds t ones zeros = greatest_to 4
    (λ (w : ℕ). rounds_under t (word_of_each 4 w most_labels ones) (word_of_each 4 w most_labels zeros))

abbrev pub rails_of : ModuleType → List ℕ → List ℕ → Rails
rails_of t ones zeros = record {
  supply = four_rail_words t ones zeros supply;
  ground = four_rail_words t ones zeros ground;
  rounds = four_rounds t ones zeros;
}

-- a value's bit in the known-1 plane, and in the known-0 plane
unfoldable pub is_at1 : Value → ℕ
is_at1 at1 = 1
is_at1 at0 = 0
is_at1 at_x = 0

unfoldable pub is_at0 : Value → ℕ
is_at0 at0 = 1
is_at0 at1 = 0
is_at0 at_x = 0

-- two planes hold the labels' values under vector v, so that they exclude each other
pub record PlanesHold (ones zeros : List ℕ) (v : ℕ) (values : ℕ → Value) : Type 0 where
  pub known_1 : (l : ℕ) → bit (get_or ones l 0) v ≡ is_at1 (values l)
  pub known_0 : (l : ℕ) → bit (get_or zeros l 0) v ≡ is_at0 (values l)

-- the planes of a value under 64 vectors
abbrev pub planes : (ℕ → Value) → Planes
planes values = record { ones = word (λ (v : ℕ). is_at1 (values v)); zeros = word (λ (v : ℕ). is_at0 (values v)) }

-- of an output, from the words that tell under which vectors it is joined to supply, and to ground:
-- 1 where it is joined to supply, 0 where it is joined to ground, X where it is joined to neither
abbrev pub planes_of : ℕ → ℕ → Planes
planes_of to_supply to_ground = planes (λ (v : ℕ). value_of (bit to_supply v) (bit to_ground v))
