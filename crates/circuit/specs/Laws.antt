-- What holds of reading, whatever the file: theorems, each with its name.
-- Their proofs are in proofs/: StageLaws, GatheredLaws, CircuitLaws, BeforeLaws, FaultLaws, AnswerLaws.
use Rattle.std.specs.Prelude.{ℕ, ◌≤◌, ◌<◌, ◌≡◌, Bool, true, false, not, ◌&&◌, List, map, T, eqb, length, get_or}
use Rattle.switch.specs.Conduction.{Value, EdgeTag, by_position, stated, Edge, between, bad_ends, channel_bit, channel_of}
use Rattle.switch.specs.Modules.{ModuleType, most_edges, all_of, in_range}
use Rattle.switch.specs.Deciding.{is_complementary}
use Rattle.circuit.specs.Limits.{most_types, most_bridges, most_instances, most_vectors, most_faults}
use Rattle.circuit.specs.Circuit.{Circuit, Instance, Listed, Choice, exhaustive, no_faults, list, type_of_instance, join_lists}
use Rattle.circuit.specs.Circuit.{chosen_size, faults_of, fault_count}
use Rattle.circuit.specs.Numbers.{reference_good}
use Rattle.circuit.specs.Table.{listed_good, list_unsuited, list_empty}
use Rattle.circuit.specs.Reading.{Reading, accepted, refusal, reading_with}
use Rattle.circuit.specs.Answers.{Answers}
use Rattle.circuit.specs.Before.{read_before}
use Rattle.circuit.specs.Stages.{staged, gathered_of}
use Rattle.circuit.specs.declared.Reading.{Reading as ReadingRecord}

-- ---- what holds of a circuit that was read

-- at each place of a list; places are counted from 0, and `none` is what stands past the end
abbrev pub Each : {A : Type 0} → (ℕ → A → Type 0) → List A → Type 0
Each {A} Holds as' = (i : ℕ) (none : A) → i < length as' → Holds i (get_or as' i none)

-- the ends of an edge in a type with h and o, by the tag that it came with: with tag 3 they keep the channel rule, which gives the channel;
-- with tag 7 they are two different nodes
unfoldable pub ends_good_by : EdgeTag → ℕ → ℕ → Edge → Bool
ends_good_by by_position h o e =
    not (bad_ends h o e.first e.second) && eqb (channel_bit e.channel) (channel_bit (channel_of o e.first e.second))
ends_good_by stated h o e = not (eqb e.first e.second)

abbrev pub ends_good : ℕ → ℕ → Edge → Bool
ends_good h o e = ends_good_by e.tag h o e

-- a type: its numbers and its edges' are in range, its edges are few and have the ends that their tags ask for
pub record TypeSound (t : ModuleType) : Type 0 where
  pub ranges : T (in_range t)
  pub few : length t.edges ≤ most_edges
  pub ends : T (all_of (ends_good t.highest t.output) t.edges)

-- and it is complementary
pub record TypeGood (t : ModuleType) : Type 0 where
  pub sound : TypeSound t
  pub complementary : T (is_complementary t)

-- a user list has a number 1 to 127
unfoldable pub choice_good : Choice → Bool
choice_good exhaustive = true
choice_good no_faults = true
choice_good (list n) = between 1 127 n

-- an instance after `before` others, of P inputs, these types and these user lists
pub record InstanceGood (P : ℕ) (types : List ModuleType) (bridges : List Listed) (before : ℕ) (i : Instance) : Type 0 where
  pub type : T (between 1 (length types) i.type)
  pub choice : T (choice_good i.choice)
  pub count : length i.references ≡ (type_of_instance types i).labels
  pub references : T (all_of (reference_good P before) i.references)
  pub suited : list_unsuited (type_of_instance types i) bridges i.choice ≡ false
  pub filled : list_empty bridges i.choice ≡ false

-- a circuit each of whose fields keeps the rules, as far as it is read
pub record CircuitGood (c : Circuit) : Type 0 where
  pub few_inputs : c.inputs ≤ 64
  pub few_types : length c.types ≤ most_types
  pub types : Each (λ (i : ℕ) (t : ModuleType). TypeGood t) c.types
  pub few_bridges : length c.bridges ≤ most_bridges
  pub bridges : Each (λ (i : ℕ) (b : Listed). T (listed_good b)) c.bridges
  pub few_instances : length c.instances ≤ most_instances
  pub instances : Each (InstanceGood c.inputs c.types c.bridges) c.instances
  pub few_faults : fault_count c.types c.bridges c.instances ≤ most_faults
  pub few_vectors : length c.vectors ≤ most_vectors
  pub vectors : Each (λ (i : ℕ) (v : List Value). length v ≡ c.inputs) c.vectors

abbrev pub AcceptedIsGood : Type 0
AcceptedIsGood = (wanted : Bool) (file : List ℕ) (c : Circuit) → reading_with wanted file ≡ accepted c → CircuitGood c

abbrev pub HasVector : Circuit → Type 0
HasVector c = 1 ≤ length c.vectors

-- what a whole file has: an input, an instance and, where it was wanted, a vector
pub record Whole (wanted : Bool) (c : Circuit) : Type 0 where
  pub some_input : 1 ≤ c.inputs
  pub some_instance : 1 ≤ length c.instances
  pub some_vector : wanted ≡ true → HasVector c

abbrev pub AcceptedIsWhole : Type 0
AcceptedIsWhole = (wanted : Bool) (file : List ℕ) (c : Circuit) → reading_with wanted file ≡ accepted c → Whole wanted c

-- ---- what holds of a refusal

-- what was read before it keeps the rules too
abbrev pub BeforeIsGood : Type 0
BeforeIsGood = (file : List ℕ) → CircuitGood (read_before file)

-- a number of the table, and a place in the file or at its end
pub record RefusalGood (size number place : ℕ) : Type 0 where
  pub low : 1 ≤ number
  pub high : number ≤ 14
  pub inside : place ≤ size

abbrev pub RefusalIsGood : Type 0
RefusalIsGood =
    (wanted : Bool) (file : List ℕ) (number place : ℕ)
    → reading_with wanted file ≡ refusal number place → RefusalGood (length file) number place

-- ---- the faults of instances

-- the size formula is the list's length
abbrev pub SizeIsLength : Type 0
SizeIsLength =
    (types : List ModuleType) (bridges : List Listed) (i : Instance)
    → length (faults_of types bridges i) ≡ chosen_size (type_of_instance types i) bridges i.choice

-- the number of faults is that of the rows of all instances
abbrev pub CountIsRows : Type 0
CountIsRows =
    (types : List ModuleType) (bridges : List Listed) (instances : List Instance)
    → length (join_lists (map (faults_of types bridges) instances)) ≡ fault_count types bridges instances

-- ---- the code's order of work, and its answer

-- reading stage by stage is reading field by field
abbrev pub StagedIsReading : Type 0
StagedIsReading = (wanted : Bool) (file : List ℕ) → staged wanted file ≡ reading_with wanted file

-- what the stages gather is what was read before the refused field
abbrev pub GatheredIsBefore : Type 0
GatheredIsBefore = (file : List ℕ) → gathered_of file ≡ read_before file

-- and of an accepted file it is the circuit
abbrev pub BeforeIsCircuit : Type 0
BeforeIsCircuit = (wanted : Bool) (file : List ℕ) (c : Circuit) → reading_with wanted file ≡ accepted c → read_before file ≡ c

-- the promise of `read` is met by one answer only
abbrev pub AnswersUnique : Type 0
AnswersUnique = (reading : Reading) (r s : ReadingRecord) → Answers reading r → Answers reading s → r ≡ s
