-- The laws of a circuit's rows: one instance more, how many they are, and the rows of the first instances.
use Prim.Native.Nat.{ℕ, suc, ◌+◌, ◌≤◌, ◌<◌}
use mathlib.Core.Path.{◌≡◌, refl, sym, ap, ◌∙◌}
use mathlib.Core.List.{List, [], ◌∷◌, ◌++◌, append-nil, append_assoc}
use native.Mathlib.Nat.{add-zero, add-suc, suc-add}
use native.Mathlib.Omega.{arith}
use lib.ListN.{length, get_or, take, drop, length-append, length-map, take-append-drop}
use lib.Seq.{take-suc, take_all, length-take-le}
use Rattle.switch.specs.Modules.{ModuleType}
use Rattle.switch.specs.Bridges.{Bridge}
use Rattle.circuit.specs.Circuit.{Circuit, Instance, Listed, faults_of, fault_count}
use Rattle.circuit.specs.Laws.{CircuitGood}
use Rattle.circuit.proofs.FaultLaws.{size-is-length}
use Rattle.grading.specs.Rows.{Row, rows_of_instance, rows_from, rows_of}

-- ---- rows, one instance more

module _ (types : List ModuleType) (bridges : List Listed) where
  pub rows_append : (n : ℕ) (is js : List Instance)
      → rows_from types bridges n (is ++ js) ≡ rows_from types bridges n is ++ rows_from types bridges (n + length is) js
  unfolding rows_from
  rows_append n [] js = rw (add-zero n)
  rows_append n (i ∷ is) js =
      rw (rows_append (suc n) is js, add-suc n (length is), suc-add n (length is))
      (sym (append_assoc (rows_of_instance types bridges n i) (rows_from types bridges (suc n) is) (rows_from types bridges (suc (n + length is)) js)))

  rows_one : (n : ℕ) (i : Instance) → rows_from types bridges n (i ∷ []) ≡ rows_of_instance types bridges n i
  unfolding rows_from
  rows_one n i = append-nil (rows_of_instance types bridges n i)

  pub rows_more : (instances : List Instance) (i : ℕ) (d : Instance) → i < length instances
      → rows_from types bridges 1 (take (suc i) instances)
      ≡ rows_from types bridges 1 (take i instances) ++ rows_of_instance types bridges (suc i) (get_or instances i d)
  rows_more instances i d h =
      let place : 1 + length (take i instances) ≡ suc i = omega (arith, length-take-le i instances (omega arith)) in
      rw (take-suc instances i d h, rows_append 1 (take i instances) (get_or instances i d ∷ []), place, rows_one (suc i) (get_or instances i d))

  pub length_of_instance : (n : ℕ) (i : Instance) → length (rows_of_instance types bridges n i) ≡ length (faults_of types bridges i)
  unfolding rows_of_instance
  length_of_instance n i = length-map (faults_of types bridges i) _

  pub length_rows : (n : ℕ) (is : List Instance) → length (rows_from types bridges n is) ≡ fault_count types bridges is
  unfolding rows_from fault_count
  length_rows n [] = refl
  length_rows n (i ∷ is) =
      omega (
        arith,
        length-append (rows_of_instance types bridges n i) (rows_from types bridges (suc n) is),
        length_of_instance n i,
        size-is-length types bridges i,
        length_rows (suc n) is,
      )

-- ---- the rows of the first instances of a circuit, and where they end

module _ (c : Circuit) where
  abbrev pub rows_before : ℕ → List Row
  rows_before i = rows_from c.types c.bridges 1 (take i c.instances)

  abbrev pub faults_at : Instance → ℕ → List Bridge
  faults_at d i = faults_of c.types c.bridges (get_or c.instances i d)

  -- the rows from instance i on
  abbrev pub rows_after : ℕ → List Row
  rows_after i = rows_from c.types c.bridges (1 + length (take i c.instances)) (drop i c.instances)

  pub rows_split : (i : ℕ) → rows_of c ≡ rows_before i ++ rows_after i
  unfolding rows_of
  rows_split i =
      ap (rows_from c.types c.bridges 1) (sym (take-append-drop i c.instances))
      ∙ rows_append c.types c.bridges 1 (take i c.instances) (drop i c.instances)

  pub rows_all : (i : ℕ) → length c.instances ≤ i → rows_before i ≡ rows_of c
  unfolding rows_of
  rows_all i h = rw (take_all i c.instances h)

  pub rows_within : (i : ℕ) → length (rows_before i) ≤ length (rows_of c)
  rows_within i = omega (arith, ap length (rows_split i), length-append (rows_before i) (rows_after i))

  pub grown : (i : ℕ) → i < length c.instances → (none inst : Instance) → get_or c.instances i none ≡ inst
      → rows_before (suc i) ≡ rows_before i ++ rows_of_instance c.types c.bridges (suc i) inst
  grown i h none inst is =
      rows_more c.types c.bridges c.instances i none h
      ∙ ap (λ (one : Instance). rows_before i ++ rows_of_instance c.types c.bridges (suc i) one) is

  pub rows_grow : (i : ℕ) (d : Instance) → i < length c.instances → length (rows_before (suc i)) ≡ length (rows_before i) + length (faults_at d i)
  rows_grow i d h =
      let new = rows_of_instance c.types c.bridges (suc i) (get_or c.instances i d) in
      ap length (rows_more c.types c.bridges c.instances i d h)
      ∙ length-append (rows_before i) new
      ∙ rw (length_of_instance c.types c.bridges (suc i) (get_or c.instances i d))

-- ---- in a good circuit

module _ (c : Circuit) (good : CircuitGood c) where
  pub few_rows : length (rows_of c) ≤ 2048
  unfolding rows_of
  few_rows = omega (arith, length_rows c.types c.bridges 1 c.instances, good.few_faults)

  module _ (i : ℕ) (d : Instance) (h : i < length c.instances) where
    pub rows_few : length (rows_before c i) + length (faults_at c d i) ≤ 2048
    rows_few = omega (arith, few_rows, rows_within c (suc i), rows_grow c i d h)
