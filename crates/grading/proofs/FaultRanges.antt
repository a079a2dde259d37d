-- The faults of an instance of an accepted circuit join nodes below 32, and labels below 12: the exhaustive list by its type's numbers, a user list
-- by its bridges'.
use Prim.Native.Nat.{ℕ, suc, ◌+◌, ◌-◌, ◌<◌, ◌≤◌}
use mathlib.Core.Path.{refl}
use mathlib.Core.Bool.{Bool, true, false, cond, not, ◌&&◌}
use mathlib.Core.List.{List, [], ◌∷◌}
use native.Mathlib.Omega.{arith}
use lib.Dec.{T, eqb, leb, leb→le}
use lib.ListN.{length, get_or}
use Rattle.words.specs.Tables.{table}
use Rattle.switch.specs.Conduction.{between}
use Rattle.switch.specs.Modules.{ModuleType}
use Rattle.switch.specs.Bridges.{Bridge, nodes, input}
use Rattle.switch.proofs.Paths.{both}
use Rattle.circuit.specs.Circuit.{Circuit, Instance, Listed, Choice, exhaustive, no_faults, list, type_of_instance, node_pairs, node_inputs, exhaustive_list}
use Rattle.circuit.specs.Circuit.{user_list, chosen, faults_of}
use Rattle.circuit.specs.Table.{bridge_good, listed_good}
use Rattle.circuit.specs.Laws.{Each, CircuitGood}
use Rattle.grading.specs.Rows.{Row, row_with, rows_of_instance, rows_from, rows_of}
use Rattle.grading.proofs.Everywhere.{Every, every_nil, every_cons, every_append, every_table, every_join, every_map}
use Rattle.grading.proofs.ValueLaws.{type-ranges, type_good}

-- a bridge whose nodes are below 32, and whose label is below 12
abbrev pub BridgeFits : Bridge → Type 0
BridgeFits (nodes a b) = (a < 32) × (b < 32)
BridgeFits (input m l) = (m < 32) × (l < 12)

-- the numbers of the type of an instance
pub record TypeFits (t : ModuleType) : Type 0 where
  pub nodes_are : t.highest < 32
  pub labels_are : t.labels ≤ 12

pub types-fit : (c : Circuit) → CircuitGood c → (i : ℕ) (none : Instance) → i < length c.instances → TypeFits (type_of_instance c.types (get_or c.instances i none))
types-fit c good i none h =
    let inst : Instance = get_or c.instances i none in
    let ranges = type-ranges (type_of_instance c.types inst) (type_good c good i h none inst refl).sound in
    record { nodes_are = ranges.highest; labels_are = ranges.labels_high }

-- ---- what holds of every fault: of those of the exhaustive list, and of every good bridge

module _ (P : Bridge → Type 0) where
  -- of an exhaustive list
  pub record EveryPair (h k : ℕ) : Type 0 where
    pub nodes_do : (a j : ℕ) → a < h + 1 → j < h - a → P (nodes a (a + 1 + j))
    pub inputs_do : (m l : ℕ) → m < h + 1 → l < k → P (input m l)

  exhaustive_every : (h k : ℕ) → EveryPair h k → Every P (exhaustive_list h k)
  unfolding exhaustive_list node_pairs node_inputs
  exhaustive_every h k each =
      every_append P (node_pairs h) (node_inputs h k)
      (every_join
      P
      (table (h + 1) (λ (a : ℕ). table (h - a) (λ (j : ℕ). nodes a (a + 1 + j))))
      (every_table
      (Every P)
      (h + 1)
      (λ (a : ℕ). table (h - a) (λ (j : ℕ). nodes a (a + 1 + j)))
      (λ a r. every_table P (h - a) (λ (j : ℕ). nodes a (a + 1 + j)) (λ j s. each.nodes_do a j r s))))
      (every_join
      P
      (table (h + 1) (λ (m : ℕ). table k (λ (l : ℕ). input m l)))
      (every_table
      (Every P)
      (h + 1)
      (λ (m : ℕ). table k (λ (l : ℕ). input m l))
      (λ m r. every_table P k (λ (l : ℕ). input m l) (λ l s. each.inputs_do m l r s))))

  module _ (of-good : (b : Bridge) → T (bridge_good b) → P b) where
    list_every : (n : ℕ) (bs : List Listed) → Each (λ (i : ℕ) (b : Listed). T (listed_good b)) bs → Every P (user_list n bs)
    unfolding user_list listed_good
    list_every n [] good = every_nil P
    list_every n (b ∷ bs) good = go (eqb b.list n) (list_every n bs (λ i none h. good (suc i) none (omega arith)))
      where
        go : (own : Bool) → Every P (user_list n bs) → Every P (cond own (b.bridge ∷ user_list n bs) (user_list n bs))
        go true rest =
            every_cons P b.bridge (user_list n bs)
            (of-good b.bridge (both (between 1 127 b.list) (bridge_good b.bridge) (good 0 b (omega arith))).1)
            rest
        go false rest = rest

    pub faults_every : (c : Circuit) → CircuitGood c → (i : Instance)
        → let t = type_of_instance c.types i in EveryPair t.highest t.labels → Every P (faults_of c.types c.bridges i)
    unfolding faults_of chosen
    faults_every c good i each = go i.choice
      where
        t : ModuleType
        t = type_of_instance c.types i

        go : (choice : Choice) → Every P (chosen t c.bridges choice)
        go exhaustive = exhaustive_every t.highest t.labels each
        go no_faults = every_nil P
        go (list n) = list_every n c.bridges good.bridges

-- ---- their nodes and labels

bridge-fits : (b : Bridge) → T (bridge_good b) → BridgeFits b
unfolding bridge_good
bridge-fits (nodes a b) t =
    let ends = both (leb a 31) (leb b 31) (both (leb a 31 && leb b 31) (not (eqb a b)) t).0 in
    (omega (arith, leb→le a 31 ends.0), omega (arith, leb→le b 31 ends.1))
bridge-fits (input m l) t =
    let ends = both (leb m 31) (leb l 11) t in (omega (arith, leb→le m 31 ends.0), omega (arith, leb→le l 11 ends.1))

pub faults-fit : (c : Circuit) → CircuitGood c → (i : ℕ) (none : Instance) → i < length c.instances
    → Every BridgeFits (faults_of c.types c.bridges (get_or c.instances i none))
faults-fit c good i none h =
    let fits = types-fit c good i none h in
    faults_every BridgeFits bridge-fits c good (get_or c.instances i none) record {
      nodes_do = λ a j p q. (omega (arith, fits.nodes_are), omega (arith, fits.nodes_are));
      inputs_do = λ m l p q. (omega (arith, fits.nodes_are), omega (arith, fits.labels_are));
    }

-- ---- rows

-- a row whose number tells its parts
abbrev pub RowFits : Row → Type 0
RowFits row = (row.number < 256) × BridgeFits row.bridge

rows-fit-from : (types : List ModuleType) (bridges : List Listed) (n : ℕ) (is : List Instance) → n + length is ≤ 256
    → ((j : ℕ) (none : Instance) → j < length is → Every BridgeFits (faults_of types bridges (get_or is j none))) → Every RowFits (rows_from types bridges n is)
unfolding rows_from rows_of_instance
rows-fit-from types bridges n [] few fit = every_nil RowFits
rows-fit-from types bridges n (i ∷ is) few fit =
    every_append RowFits (rows_of_instance types bridges n i) (rows_from types bridges (suc n) is)
    (every_map RowFits (row_with types n i) (faults_of types bridges i) (λ b m. (omega arith, fit 0 i (omega arith) b m)))
    (rows-fit-from types bridges (suc n) is (omega arith) (λ j none h. fit (suc j) none (omega arith)))

pub rows_fit : (c : Circuit) → CircuitGood c → Every RowFits (rows_of c)
unfolding rows_of
rows_fit c good = rows-fit-from c.types c.bridges 1 c.instances (omega (arith, good.few_instances)) (faults-fit c good)
