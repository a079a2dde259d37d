-- 01, "The circuit file": the circuit that a file tells. Types, instances and vectors are numbered from 1.
-- 01, "Faults, marks and classes": the faults of an instance, in the order of their rows.
use Rattle.std.specs.Prelude.{ℕ, zero, suc, ◌+◌, ◌-◌, ◌*◌, ◌/◌, cond, List, [], ◌∷◌, ◌++◌, eqb, length, get_or}
use Rattle.words.specs.Tables.{table}
use Rattle.switch.specs.Conduction.{Value}
use Rattle.switch.specs.Modules.{ModuleType}
use Rattle.switch.specs.Bridges.{Bridge, nodes, input}

-- what a label of an instance is tied to: a primary input, or the output of an earlier instance
pub data Reference : Type 0 where
  primary : ℕ → Reference
  output_of : ℕ → Reference

-- which faults an instance has: the exhaustive list, none, or those of a user list
pub data Choice : Type 0 where
  exhaustive : Choice
  no_faults : Choice
  list : ℕ → Choice

pub record Instance : Type 0 where
  pub type : ℕ
  pub choice : Choice
  pub references : List Reference

-- a bridge of a user list
pub record Listed : Type 0 where
  pub list : ℕ
  pub bridge : Bridge

pub record Circuit : Type 0 where
  pub inputs : ℕ
  pub types : List ModuleType
  pub bridges : List Listed
  pub instances : List Instance
  pub vectors : List (List Value)

-- what stands at a number in a list that is numbered from 1
unfoldable pub numbered : {A : Type 0} → List A → ℕ → A → A
numbered as' zero none = none
numbered as' (suc n) none = get_or as' n none

abbrev pub no_type : ModuleType
no_type = record { highest = 0; output = 0; labels = 0; edges = [] }

abbrev pub type_of_instance : List ModuleType → Instance → ModuleType
type_of_instance types i = numbered types i.type no_type

unfoldable pub join_lists : {A : Type 0} → List (List A) → List A
join_lists [] = []
join_lists (as' ∷ rest) = as' ++ join_lists rest

-- kind 0 with first node a from 0 upward and second b from a + 1 to h
unfoldable pub node_pairs : ℕ → List Bridge
node_pairs h = join_lists (table (h + 1) (λ (a : ℕ). table (h - a) (λ (j : ℕ). nodes a (a + 1 + j))))

-- kind 1 with node from 0 to h and, inside it, label from 0 to k - 1
unfoldable pub node_inputs : ℕ → ℕ → List Bridge
node_inputs h k = join_lists (table (h + 1) (λ (m : ℕ). table k (λ (l : ℕ). input m l)))

unfoldable pub exhaustive_list : ℕ → ℕ → List Bridge
exhaustive_list h k = node_pairs h ++ node_inputs h k

-- (h + 1) × h / 2 + (h + 1) × k
unfoldable pub exhaustive_size : ℕ → ℕ → ℕ
exhaustive_size h k = (h + 1) * h / 2 + (h + 1) * k

-- the bridges of a user list, in file order, ends as written
unfoldable pub user_list : ℕ → List Listed → List Bridge
user_list n [] = []
user_list n (b ∷ bs) = let rest = user_list n bs in cond (eqb b.list n) (b.bridge ∷ rest) rest

unfoldable pub chosen : ModuleType → List Listed → Choice → List Bridge
chosen t bridges exhaustive = exhaustive_list t.highest t.labels
chosen t bridges no_faults = []
chosen t bridges (list n) = user_list n bridges

-- the number of faults, without listing them
unfoldable pub chosen_size : ModuleType → List Listed → Choice → ℕ
chosen_size t bridges exhaustive = exhaustive_size t.highest t.labels
chosen_size t bridges no_faults = 0
chosen_size t bridges (list n) = length (user_list n bridges)

unfoldable pub faults_of : List ModuleType → List Listed → Instance → List Bridge
faults_of types bridges i = chosen (type_of_instance types i) bridges i.choice

-- the number of faults of a circuit's instances
unfoldable pub fault_count : List ModuleType → List Listed → List Instance → ℕ
fault_count types bridges [] = 0
fault_count types bridges (i ∷ is) = chosen_size (type_of_instance types i) bridges i.choice + fault_count types bridges is
