-- The record that reading gives of a file tells what the file says, and its listing: each array's used places are the list that it was made from. Assumes nothing.
use Prim.Native.Nat.{ℕ, zero, suc, ◌-◌, ◌≤◌, ◌<◌, min}
use mathlib.Core.Path.{◌≡◌, refl, sym, ap, ◌∙◌}
use mathlib.Core.Bool.{true, ◌&&◌}
use mathlib.Core.List.{List, [], ◌∷◌, map, append-nil}
use native.Mathlib.Omega.{arith}
use borrow.Author.Tests.{ne_eqb}
use lib.Dec.{T}
use lib.ListN.{length, get_or, take, length-map}
use Rattle.words.specs.Bits.{bit, pack}
use Rattle.words.proofs.Laws.{bit-pack}
use Rattle.words.proofs.Tables.{is-table}
use Rattle.switch.specs.Conduction.{Value, at_x, between}
use Rattle.switch.specs.Modules.{ModuleType, most_nodes, most_labels, type_in_range}
use Rattle.switch.specs.Bridges.{Bridge, nodes, input}
use Rattle.switch.specs.Promises.{is_at0, is_at1}
use Rattle.switch.specs.Records.{type_of, value_of}
use Rattle.switch.proofs.Paths.{both}
use Rattle.switch.proofs.Outputs.{at1-small, at0-small, value-again}
use Rattle.circuit.specs.Limits.{most_types, most_bridges, most_instances, most_vectors}
use Rattle.circuit.specs.Circuit.{Circuit, Instance, Listed, Reference, primary, output_of, Choice, exhaustive, no_faults, list, type_of_instance}
use Rattle.circuit.specs.Reading.{Reading, accepted, refusal, unless, reading_of}
use Rattle.circuit.specs.Records.{padded, unused_type, type_record, unused_bridge, bridge_record_in, bridge_record, unused_reference, reference_record}
use Rattle.circuit.specs.Records.{unused_instance, choice_byte, instance_record, unused_vector, vector_record, circuit_record}
use Rattle.circuit.specs.Table.{Verdict, passes, refused_at}
use Rattle.circuit.specs.Refusals.{verdict_of}
use Rattle.circuit.specs.Answers.{Tells}
use Rattle.circuit.specs.Before.{read_before}
use Rattle.circuit.specs.Laws.{choice_good, TypeGood, InstanceGood, CircuitGood}
use Rattle.circuit.specs.declared.Reading.{Reading as ReadingRecord}
use Rattle.circuit.proofs.BeforeLaws.{before-is-good}
use Rattle.circuit.proofs.CircuitLaws.{accepted-is-good, instance-type}
use Rattle.circuit.proofs.GatheredLaws.{before_is_circuit}
use Rattle.switch.proofs.Channels.{in_between}
use Rattle.circuit.proofs.TypeLaws.{take_padded, edges_ranges, type_back}
use Rattle.print_circuit.specs.Listing.{circuit_lines, refusal_lines, listing_of, AcceptedListing}
use Rattle.print_circuit.specs.Told.{bridge_told, listed_told, choice_told, reference_told, instance_with, instance_told, vector_told, types_told, circuit_told, reading_told, listing_told, ToldIsReading, ToldIsListing}

-- ---- lists

module _ {A B : Type 0} (told : B → A) (kept : A → B) where
  map_back : (l : List A) → ((i : ℕ) (none : A) → i < length l → told (kept (get_or l i none)) ≡ get_or l i none) → map told (map kept l) ≡ l
  map_back [] same = refl
  map_back (a ∷ l) same =
      ap (λ (b : A). b ∷ map told (map kept l)) (same 0 a (omega arith))
      ∙ ap (λ (as' : List A). a ∷ as') (map_back l (λ (i : ℕ) (none : A) (h : i < length l). same (suc i) none (omega arith)))

  -- the used places of an array tell the list
  pub used_back : (none : B) (places : ℕ) (l : List A) → length l ≤ places
      → ((i : ℕ) (none : A) → i < length l → told (kept (get_or l i none)) ≡ get_or l i none)
      → map told (take (length l) (padded places none (map kept l))) ≡ l
  used_back none places l few same =
      let size = length-map l kept in
      let used : take (length l) (padded places none (map kept l)) ≡ map kept l = rw size at (take_padded none places (map kept l) (omega arith)) in
      ap (map told) used ∙ map_back l same

-- ---- bridges

listed_in_lem : (n : ℕ) (b : Bridge) → listed_told (bridge_record_in n b) ≡ record { list = n; bridge = b }
unfolding listed_told bridge_told bridge_record_in
listed_in_lem n (nodes a b) = refl
listed_in_lem n (input m l) = refl

listed_back : (b : Listed) → listed_told (bridge_record b) ≡ b
unfolding bridge_record
listed_back b = listed_in_lem b.list b.bridge

-- ---- instances

reference-back : (r : Reference) → reference_told (reference_record r) ≡ r
unfolding reference_told reference_record
reference-back (primary n) = refl
reference-back (output_of i) = refl

list_back : (n : ℕ) → 1 ≤ n → n ≤ 127 → choice_told n ≡ list n
unfolding choice_told
list_back zero some few = absurd (omega arith)
list_back (suc n) some few = rw (ne_eqb (suc n) 255 (λ (e : suc n ≡ 255). omega arith))

choice-back : (c : Choice) → T (choice_good c) → choice_told (choice_byte c) ≡ c
unfolding choice_good choice_byte choice_told
choice-back exhaustive t = refl
choice-back no_faults t = refl
choice-back (list n) t = let range = in_between 1 127 n t in list_back n range.0 range.1

labels-few : (t : ModuleType) → TypeGood t → t.labels ≤ 12
unfolding type_in_range
labels-few t good =
    let ranges = (edges_ranges t good.sound.ranges good.sound.few).0 in
    let labels = (both (between 2 (most_nodes - 1) t.highest && between 2 t.highest t.output) (between 1 most_labels t.labels) ranges).1 in
    (in_between 1 12 t.labels labels).1

module _ (c : Circuit) (good : CircuitGood c) where
  instance_back : (before : ℕ) (i : Instance) → InstanceGood c.inputs c.types c.bridges before i
      → instance_told c.types (instance_record i) ≡ i
  unfolding instance_told instance_with instance_record
  instance_back before i here =
      let count : length i.references ≡ (type_of_instance c.types i).labels = here.count in
      let few : length i.references ≤ 12 = omega (arith, labels-few (type_of_instance c.types i) (instance-type c good i here.type)) in
      let back : map reference_told (take (length i.references) (padded 12 unused_reference (map reference_record i.references))) ≡ i.references
      = used_back reference_told reference_record unused_reference 12 i.references few (λ (k : ℕ) (none : Reference) (h : _). reference-back (get_or i.references k none)) in
      ap (λ (b : Choice). record {
        type = i.type;
        choice = b;
        references = map reference_told (take (type_of_instance c.types i).labels (padded 12 unused_reference (map reference_record i.references)));
      }) (choice-back i.choice here.choice)
      ∙ ap (λ (n : ℕ). record {
        type = i.type;
        choice = i.choice;
        references = map reference_told (take n (padded 12 unused_reference (map reference_record i.references)));
      }) (sym count)
      ∙ ap (λ (rs : List Reference). record { type = i.type; choice = i.choice; references = rs }) back

-- ---- vectors

vector-back : (inputs : ℕ) (v : List Value) → length v ≡ inputs → inputs ≤ 64 → vector_told inputs (vector_record v) ≡ v
unfolding vector_told vector_record
vector-back inputs v size few =
    let all : min inputs 64 ≡ length v = omega arith in
    rw all (sym (is-table at_x (length v) (λ (i : ℕ). value_of (bit ones i) (bit zeros i)) v refl at))
  where
    ones : ℕ
    ones = pack (length v) (λ (i : ℕ). is_at1 (get_or v i at_x))

    zeros : ℕ
    zeros = pack (length v) (λ (i : ℕ). is_at0 (get_or v i at_x))

    at : (i : ℕ) → i < length v → get_or v i at_x ≡ value_of (bit ones i) (bit zeros i)
    at i h =
        sym (value-again (get_or v i at_x))
        ∙ ap (λ (b : ℕ). value_of b (is_at0 (get_or v i at_x))) (sym (bit-pack (length v) (λ (k : ℕ). is_at1 (get_or v k at_x)) (λ (k : ℕ) (q : k < length v). at1-small (get_or v k at_x)) i h))
        ∙ ap (λ (b : ℕ). value_of (bit ones i) b) (sym (bit-pack (length v) (λ (k : ℕ). is_at0 (get_or v k at_x)) (λ (k : ℕ) (q : k < length v). at0-small (get_or v k at_x)) i h))

-- ---- the circuit

module _ (c : Circuit) (good : CircuitGood c) where
  types_back : types_told (circuit_record c) ≡ c.types
  unfolding types_told circuit_record
  types_back =
      used_back type_of type_record unused_type most_types c.types good.few_types
      (λ (i : ℕ) (none : ModuleType) (h : i < length c.types).
      let t = good.types i none h in type_back (get_or c.types i none) t.sound.ranges t.sound.few)

  bridges_back : map listed_told (take (circuit_record c).bridge_count (circuit_record c).bridges) ≡ c.bridges
  unfolding circuit_record
  bridges_back =
      used_back listed_told bridge_record unused_bridge most_bridges c.bridges good.few_bridges
      (λ (i : ℕ) (none : Listed) (h : i < length c.bridges). listed_back (get_or c.bridges i none))

  instances_back : map (instance_told c.types) (take (circuit_record c).instance_count (circuit_record c).instances) ≡ c.instances
  unfolding circuit_record
  instances_back =
      used_back (instance_told c.types) instance_record unused_instance most_instances c.instances good.few_instances
      (λ (i : ℕ) (none : Instance) (h : i < length c.instances). instance_back c good i (get_or c.instances i none) (good.instances i none h))

  vectors_back : map (vector_told c.inputs) (take (circuit_record c).vector_count (circuit_record c).vectors) ≡ c.vectors
  unfolding circuit_record
  vectors_back =
      used_back (vector_told c.inputs) vector_record unused_vector most_vectors c.vectors good.few_vectors
      (λ (i : ℕ) (none : List Value) (h : i < length c.vectors). vector-back c.inputs (get_or c.vectors i none) (good.vectors i none h) good.few_inputs)

  instances_told : map (instance_told (types_told (circuit_record c))) (take (circuit_record c).instance_count (circuit_record c).instances) ≡ c.instances
  instances_told =
      ap (λ (types : List ModuleType). map (instance_told types) (take (circuit_record c).instance_count (circuit_record c).instances)) types_back
      ∙ instances_back

  pub circuit_back : circuit_told (circuit_record c) ≡ c
  unfolding circuit_told circuit_record
  circuit_back =
      λ i. record {
        inputs = c.inputs;
        types = types_back i;
        bridges = bridges_back i;
        instances = instances_told i;
        vectors = vectors_back i;
      }

-- ---- the reading

told_of : (r : ReadingRecord) (v : Verdict) → verdict_of r.refusal ≡ v → reading_told r ≡ unless v (accepted (circuit_told r.circuit))
unfolding reading_told
told_of r v e = ap (λ (u : Verdict). unless u (accepted (circuit_told r.circuit))) e

tells_same : (file : List ℕ) (r : ReadingRecord) (reading : Reading) → reading_of file ≡ reading → Tells reading r → reading_told r ≡ reading
unfolding Tells unless
tells_same file r (accepted c) e told =
    told_of r passes told.0
    ∙ ap (λ (d : Circuit). accepted d) (ap circuit_told told.1 ∙ circuit_back c (accepted-is-good true file c e))
tells_same file r (refusal number place) e told = told_of r (refused_at number place) told

pub told_is_reading : ToldIsReading
told_is_reading file r told = tells_same file r (reading_of file) refl told

-- ---- the listing

pub told_is_listing : ToldIsListing
unfolding listing_told
told_is_listing file r told gathered =
    ap (λ (c : Circuit). listing_of c (reading_told r)) (ap circuit_told gathered ∙ circuit_back (read_before file) (before-is-good file))
    ∙ ap (λ (reading : Reading). listing_of (read_before file) reading) (told_is_reading file r told)

pub accepted_listing : AcceptedListing
unfolding listing_of refusal_lines
accepted_listing file c e =
    ap (λ (reading : Reading). listing_of (read_before file) reading) e
    ∙ ap (λ (d : Circuit). listing_of d (accepted c)) (before_is_circuit true file c e)
    ∙ append-nil (circuit_lines c)
