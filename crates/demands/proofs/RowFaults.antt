-- What a row is: it is of an instance of the circuit, with a fault of it; and with each fault of that instance there is a row. In an accepted circuit
-- a bridged label is one of its instance, because bridges suit the type and references are as many as its labels.
use Prim.Native.Nat.{ℕ, zero, suc, ◌+◌, ◌-◌, ◌<◌, ◌≤◌}
use mathlib.Core.Path.{◌≡◌, refl, sym, ap, ◌∙◌}
use mathlib.Core.List.Memᴰ
use mathlib.Core.List.{List, [], ◌∷◌, Memᴰ}
use native.Mathlib.Nat.{add-zero, not-suc-le-zero}
use native.Mathlib.Omega.{arith}
use lib.Dec.{T, leb, ltb, ltb→lt}
use lib.ListN.{length, get_or}
use Rattle.switch.specs.Modules.{ModuleType}
use Rattle.switch.specs.Bridges.{Bridge, input}
use Rattle.switch.proofs.Paths.{both}
use Rattle.circuit.specs.Circuit.{Circuit, Instance, Listed, numbered, type_of_instance, faults_of}
use Rattle.circuit.specs.Table.{bridge_suits}
use Rattle.circuit.specs.Laws.{CircuitGood}
use Rattle.grading.specs.Rows.{Row, row_with, no_instance, no_row, rows_of_instance, rows_from, rows_of}
use Rattle.grading.specs.Statements.{RowOf}
use Rattle.grading.proofs.Everywhere.{Every, every_nil, every_append, every_map, every_at, place_of_lem}
use Rattle.grade_marks.proofs.RowMeaning.{faults_suit}
use Rattle.grading.proofs.RowsPlaced.{row_placed, row_good}
use Rattle.demands.specs.Two.{row_at, instance_of}

pub row_of_lem : (c : Circuit) (r : ℕ) → r < length (rows_of c) → RowOf c (row_at c r)
row_of_lem c r h = every_at (RowOf c) (rows_of c) (λ row m. m) r no_row h

-- what stands at a number, from 1
numbered-at : {A : Type 0} (as' : List A) (n : ℕ) (none : A) → 1 ≤ n → numbered as' n none ≡ get_or as' (n - 1) none
unfolding numbered
numbered-at as' zero none h = absurd (omega arith)
numbered-at as' (suc n) none h = let e : suc n - 1 ≡ n = omega arith in rw e

-- the instance of a row is that with its number, and the row has its type
module _ (c : Circuit) (row : Row) (is_row : RowOf c row) where
  pub row_number : (1 ≤ row.number) × (row.number ≤ length c.instances)
  row_number = ((row_placed c row is_row).low, omega (arith, (row_placed c row is_row).high))

  pub row_instance : row.instance ≡ instance_of c row.number
  row_instance =
      (row_placed c row is_row).instance_is
      ∙ sym (numbered-at c.instances row.number no_instance (row_placed c row is_row).low)

  pub row_type : row.type ≡ type_of_instance c.types (instance_of c row.number)
  row_type = (row_placed c row is_row).type_is ∙ ap (type_of_instance c.types) row_instance

-- a row of the same instance, with another bridge
abbrev pub with_bridge : Row → Bridge → Row
with_bridge row b = record { number = row.number; instance = row.instance; type = row.type; bridge = b }

module _ (types : List ModuleType) (bridges : List Listed) where
  -- a row of the instances from number n on. With other user lists its instance may have other faults, and they have rows too
  pub record RowFrom (n : ℕ) (is : List Instance) (row : Row) : Type 0 where
    pub of_instance : Memᴰ row.instance is
    pub fault : Memᴰ row.bridge (faults_of types bridges row.instance)
    pub others : (others : List Listed) (b : Bridge) → Memᴰ b (faults_of types others row.instance)
        → Memᴰ (with_bridge row b) (rows_from types others n is)

  pub rows_from_lem : (n : ℕ) (is : List Instance) → Every (RowFrom n is) (rows_from types bridges n is)
  unfolding rows_from rows_of_instance
  rows_from_lem n [] = every_nil (RowFrom n [])
  rows_from_lem n (i ∷ is) =
      every_append (RowFrom n (i ∷ is)) (rows_of_instance types bridges n i) (rows_from types bridges (suc n) is)
      (every_map (RowFrom n (i ∷ is)) (row_with types n i) (faults_of types bridges i) here)
      (λ row m. later row (rows_from_lem (suc n) is row m))
    where
      here : (b : Bridge) → Memᴰ b (faults_of types bridges i) → RowFrom n (i ∷ is) (row_with types n i b)
      here b m = record {
        of_instance = Memᴰ.head refl;
        fault = m;
        others = λ others d k. Memᴰ.append_left (rows_from types others (suc n) is) (Memᴰ.map (row_with types n i) k);
      }

      later : (row : Row) → RowFrom (suc n) is row → RowFrom n (i ∷ is) row
      later row from = record {
        of_instance = Memᴰ.tail from.of_instance;
        fault = from.fault;
        others = λ others d k. Memᴰ.append_right (rows_of_instance types others n i) (from.others others d k);
      }

-- a fault of the instance at a place has a row
pub fault-row : (types : List ModuleType) (bridges : List Listed) (n : ℕ) (is : List Instance) (k : ℕ) (none : Instance) → k < length is
    → (b : Bridge) → Memᴰ b (faults_of types bridges (get_or is k none))
    → Memᴰ (row_with types (n + k) (get_or is k none) b) (rows_from types bridges n is)
unfolding rows_from rows_of_instance
fault-row types bridges n [] k none h b m = absurd (not-suc-le-zero h)
fault-row types bridges n (i ∷ is) zero none h b m =
    simp add-zero (Memᴰ.append_left (rows_from types bridges (suc n) is) (Memᴰ.map (row_with types n i) m))
fault-row types bridges n (i ∷ is) (suc k) none h b m =
    let next : n + suc k ≡ suc n + k = omega arith in
    rw next (Memᴰ.append_right (rows_of_instance types bridges n i) (fault-row types bridges (suc n) is k none (omega arith) b m))

pub label-named : (c : Circuit) → CircuitGood c → (row : Row) → RowOf c row → (m l : ℕ) → row.bridge ≡ input m l → l < length row.instance.references
unfolding rows_of bridge_suits
label-named c good row is_row m l e =
    let i : Instance = row.instance in
    let t : ModuleType = type_of_instance c.types i in
    let known = row_good c row is_row good in
    let place = place_of_lem row.bridge (rows_from_lem c.types c.bridges 1 c.instances row is_row).fault in
    let suits : T (bridge_suits t row.bridge) = rw place.2 at (faults_suit c.types c.bridges i known.suited place.0 row.bridge place.1) in
    let ends = both (leb m t.highest) (ltb l t.labels) (rw e at suits) in
    omega (arith, ltb→lt l t.labels ends.1, known.count)
