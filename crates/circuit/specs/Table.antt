-- 01, "Refusal numbers": the table. For each field a list of numbered tests in the order in which they are looked at, and one list for the
-- end of the file. In one field by number, except that 9 comes right after 4. A place is the offset of the field's tag byte.
use Rattle.std.specs.Prelude.{ℕ, ◌+◌, ◌%◌, Bool, true, false, cond, not, ◌&&◌, ◌||◌, List, [], ◌∷◌, eqb, leb, ltb, length, get_or, drop}
use Rattle.switch.specs.Conduction.{EdgeTag, by_position, stated, between, bad_ends}
use Rattle.switch.specs.Modules.{ModuleType, most_edges, all_of, type_in_range}
use Rattle.switch.specs.Bridges.{Bridge, nodes, input}
use Rattle.switch.specs.Deciding.{is_complementary}
use Rattle.circuit.specs.Limits.{most_types, most_bridges, most_instances, most_vectors, most_faults}
use Rattle.circuit.specs.Fields.{Field, two_bytes}
use Rattle.circuit.specs.Circuit.{Circuit, Listed, Choice, exhaustive, no_faults, list, type_of_instance, user_list, chosen_size}
use Rattle.circuit.specs.Circuit.{fault_count}
use Rattle.circuit.specs.Numbers.{signed, choice_in_range, reference_good}
use Rattle.circuit.specs.Order.{Tag, inputs_tag, type_tag, edge_tag, bridge_tag, instance_tag, vector_tag, no_tag, tag_of, is_edge}
use Rattle.circuit.specs.Order.{is_unknown, Previous, at_start, in_type, may_follow}
use Rattle.circuit.specs.Known.{Known, edges_told, bridge_of, instance_in, latest}

-- a test of the table: its number, whether it refuses, and the place that it gives
pub record Test : Type 0 where
  pub number : ℕ
  pub refuses : Bool
  pub place : ℕ

abbrev pub test : ℕ → Bool → ℕ → Test
test number refuses place = record { number = number; refuses = refuses; place = place }

pub data Verdict : Type 0 where
  passes : Verdict
  refused_at : ℕ → ℕ → Verdict

-- the first test that refuses
unfoldable pub first_of : List Test → Verdict
first_of [] = passes
first_of (t ∷ ts) = let later = first_of ts in cond t.refuses (refused_at t.number t.place) later

-- ---- number 4: a first field that is not tag 1, a later tag 1, an edge not right after its type or an edge of it, or a tag whose place
-- in this order is past

abbrev pub misplaced : Previous → Tag → Bool
misplaced previous tag = not (may_follow previous tag)

-- ---- number 9: a type is judged when a tag that is neither 3 nor 7 has passed 4, or at the end of the file before 14

-- the field before was a type's or one of its edges, so that the latest type has not been judged
unfoldable pub unjudged : Previous → Bool
unjudged previous = in_type previous

unfoldable pub not_complementary : List ModuleType → Bool
not_complementary types = not (is_complementary (latest types))

-- ---- ranges and rules of one field

-- kind 0 joins two different nodes 0 to 31, kind 1 a node 0 to 31 and a label 0 to 11
unfoldable pub bridge_good : Bridge → Bool
bridge_good (nodes a b) = leb a 31 && leb b 31 && not (eqb a b)
bridge_good (input m l) = leb m 31 && leb l 11

-- a bridge of a user list, whose number is 1 to 127
unfoldable pub listed_good : Listed → Bool
listed_good b = between 1 127 b.list && bridge_good b.bridge

-- the four bytes of a bridge, of which there are two kinds
unfoldable pub bridge_in_range : ℕ → ℕ → ℕ → ℕ → Bool
bridge_in_range list_number kind first second =
    leb kind 1 && listed_good (record { list = list_number; bridge = bridge_of kind first second })

-- a bridge suits a type: its nodes are 0 to h, its label 0 to k - 1
unfoldable pub bridge_suits : ModuleType → Bridge → Bool
bridge_suits t (nodes a b) = leb a t.highest && leb b t.highest
bridge_suits t (input m l) = leb m t.highest && ltb l t.labels

unfoldable pub is_empty : {A : Type 0} → List A → Bool
is_empty [] = true
is_empty (a ∷ as') = false

-- number 11: a bridge of the chosen list has a node above h or a label not below k
unfoldable pub list_unsuited : ModuleType → List Listed → Choice → Bool
list_unsuited t bridges exhaustive = false
list_unsuited t bridges no_faults = false
list_unsuited t bridges (list n) = not (all_of (bridge_suits t) (user_list n bridges))

-- number 12: chosen list has no bridge
unfoldable pub list_empty : List Listed → Choice → Bool
list_empty bridges exhaustive = false
list_empty bridges no_faults = false
list_empty bridges (list n) = is_empty (user_list n bridges)

unfoldable pub is_letter : ℕ → Bool
is_letter b = eqb b 48 || eqb b 49 || eqb b 88

-- ---- the tests of a body, tag by tag

unfoldable pub inputs_tests : ℕ → List ℕ → List Test
inputs_tests at body = test 5 (not (eqb (length body) 2)) at ∷ test 7 (not (between 1 64 (two_bytes body 0))) at ∷ []

-- after `count` types
unfoldable pub type_tests : ℕ → ℕ → List ℕ → List Test
type_tests count at body =
    test 5 (not (eqb (length body) 3)) at
    ∷ test 6 (leb most_types count) at
    ∷ test 7 (not (type_in_range (get_or body 0 0) (get_or body 1 0) (get_or body 2 0))) at
    ∷ []

-- two nodes 0 to h, then labels 0 to k - 1
unfoldable pub edges_in_range : ℕ → ℕ → List ℕ → Bool
edges_in_range h k body = leb (get_or body 0 0) h && leb (get_or body 1 0) h && all_of (λ (l : ℕ). ltb l k) (drop 2 body)

-- two different nodes 0 to h, a channel (0 n, 1 p), a label 0 to k - 1
unfoldable pub pass_in_range : ℕ → ℕ → ℕ → ℕ → ℕ → ℕ → Bool
pass_in_range h k a b channel label = leb a h && leb b h && not (eqb a b) && leb channel 1 && ltb label k

-- in a type with h, o, k and `count` edges so far. A field with tag 3 has an edge for each of its labels, and is refused whole where they
-- are too many (02, "No more grouped transistors"). One with tag 7 is never refused by 8: equal ends are 7 (02, "Pass transistors")
unfoldable pub edge_tests_of : EdgeTag → ℕ → ℕ → ℕ → ℕ → ℕ → List ℕ → List Test
edge_tests_of by_position h o k count at body =
    test 5 (not (between 3 6 (length body))) at
    ∷ test 6 (ltb most_edges (count + edges_told by_position (length body))) at
    ∷ test 7 (not (edges_in_range h k body)) at
    ∷ test 8 (bad_ends h o (get_or body 0 0) (get_or body 1 0)) at
    ∷ []
edge_tests_of stated h o k count at body =
    test 5 (not (eqb (length body) 4)) at
    ∷ test 6 (ltb most_edges (count + edges_told stated (length body))) at
    ∷ test 7 (not (pass_in_range h k (get_or body 0 0) (get_or body 1 0) (get_or body 2 0) (get_or body 3 0))) at
    ∷ []

unfoldable pub edge_tests : EdgeTag → ModuleType → ℕ → List ℕ → List Test
edge_tests e t at body = edge_tests_of e t.highest t.output t.labels (length t.edges) at body

-- after `count` bridges
unfoldable pub bridge_tests : ℕ → ℕ → List ℕ → List Test
bridge_tests count at body =
    test 5 (not (eqb (length body) 4)) at
    ∷ test 6 (leb most_bridges count) at
    ∷ test 7 (not (bridge_in_range (get_or body 0 0) (get_or body 1 0) (get_or body 2 0) (get_or body 3 0))) at
    ∷ []

-- with P inputs and `type_count` types, of a type with k labels, after `count` instances that have `faults` faults; of the chosen list,
-- whether it is unsuited, whether it is empty, and how many faults it gives
unfoldable pub instance_tests_of : ℕ → ℕ → ℕ → ℕ → ℕ → Bool → Bool → ℕ → ℕ → List ℕ → List Test
instance_tests_of P type_count k count faults unsuited empty given at body =
    let i = instance_in body in
    test 5 (not (eqb (length body % 2) 0 && between 4 26 (length body))) at
    ∷ test 6 (leb most_instances count) at
    ∷ test 7 (not (between 1 type_count i.type && choice_in_range (signed 128 (get_or body 1 0)))) at
    ∷ test 10 (not (eqb (length i.references) k && all_of (reference_good P count) i.references)) at
    ∷ test 11 unsuited at
    ∷ test 12 empty at
    ∷ test 13 (ltb most_faults (faults + given)) at
    ∷ []

-- in a circuit as far as it is read
unfoldable pub instance_tests : Circuit → ℕ → List ℕ → List Test
instance_tests c at body =
    let choice = (instance_in body).choice in
    let t = type_of_instance c.types (instance_in body) in
    instance_tests_of c.inputs (length c.types) t.labels (length c.instances) (fault_count c.types c.bridges c.instances)
    (list_unsuited t c.bridges choice) (list_empty c.bridges choice) (chosen_size t c.bridges choice) at body

-- with P inputs, after `count` vectors
unfoldable pub vector_tests : ℕ → ℕ → ℕ → List ℕ → List Test
vector_tests P count at body =
    test 5 (not (eqb (length body) P)) at
    ∷ test 6 (leb most_vectors count) at
    ∷ test 7 (not (all_of is_letter body)) at
    ∷ []

unfoldable pub body_tests : Tag → Circuit → ℕ → List ℕ → List Test
body_tests inputs_tag c at body = inputs_tests at body
body_tests type_tag c at body = type_tests (length c.types) at body
body_tests (edge_tag e) c at body = edge_tests e (latest c.types) at body
body_tests bridge_tag c at body = bridge_tests (length c.bridges) at body
body_tests instance_tag c at body = instance_tests c at body
body_tests vector_tag c at body = vector_tests c.inputs (length c.vectors) at body
body_tests no_tag c at body = []

-- ---- all tests of a field, and those of the end of the file

unfoldable pub field_tests : Known → Field → List Test
field_tests known f =
    let tag = tag_of f.tag in
    let failing = not_complementary known.circuit.types in
    test 3 (is_unknown tag) f.at
    ∷ test 4 (misplaced known.previous tag) f.at
    ∷ test 9 (cond (unjudged known.previous && not (is_edge tag)) failing false) known.type_at
    ∷ body_tests tag known.circuit f.at f.body

-- file ended with no tag 1, no instance or, where a vector is wanted, no vector
unfoldable pub end_tests : Bool → Known → ℕ → List Test
end_tests wanted known size =
    let failing = not_complementary known.circuit.types in
    test 9 (cond (unjudged known.previous) failing false) known.type_at
    ∷ test 14 (at_start known.previous) size
    ∷ test 14 (is_empty known.circuit.instances) size
    ∷ test 14 (wanted && is_empty known.circuit.vectors) size
    ∷ []
