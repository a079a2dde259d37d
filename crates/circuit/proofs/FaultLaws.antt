-- The faults of an instance are as many as the size formula says: the exhaustive list of a type with h and k has (h + 1) × h / 2 + (h + 1) × k bridges.
-- So a circuit's number of faults is that of the rows of all its instances.
use Prim.Native.Nat.{ℕ, zero, suc, ◌+◌, ◌-◌, ◌*◌}
use mathlib.Core.Path.{◌≡◌, refl, sym, ap, ◌∙◌}
use mathlib.Core.List.{List, [], ◌∷◌, map}
use native.Mathlib.Nat.{zero-mul, suc-mul, mul-suc, suc-sub-suc}
use native.Mathlib.Numerals.{add-one}
use native.Mathlib.Omega.{arith}
use lib.ListN.{length, length-append}
use Rattle.words.specs.Tables.{table}
use Rattle.words.proofs.Tables.{length-table, table_cong}
use Rattle.switch.specs.Modules.{ModuleType}
use Rattle.switch.specs.Bridges.{nodes, input}
use Rattle.circuit.specs.Circuit.{Choice, exhaustive, no_faults, list, type_of_instance, join_lists, node_pairs, node_inputs, exhaustive_list, exhaustive_size, chosen, chosen_size, faults_of, fault_count}
use Rattle.circuit.specs.Laws.{SizeIsLength, CountIsRows}

-- n rows of k
length_rows : {A : Type 0} (n k : ℕ) (row : ℕ → ℕ → A) → length (join_lists (table n (λ (a : ℕ). table k (row a)))) ≡ n * k
unfolding join_lists table
length_rows zero k row = sym (zero-mul k)
length_rows (suc n) k row =
    let rest = join_lists (table n (λ (a : ℕ). table k (row (suc a)))) in
    let later : length rest ≡ n * k = length_rows n k (λ (a : ℕ). row (suc a)) in
    omega (arith, length-append (table k (row zero)) rest, length-table k (row zero), suc-mul n k)

-- rows of n, n - 1, .., 0
length_triangle : {A : Type 0} (n : ℕ) (row : ℕ → ℕ → A) → length (join_lists (table (suc n) (λ (a : ℕ). table (n - a) (row a)))) * 2 ≡ suc n * n
unfolding join_lists table
length_triangle {A} zero row = omega (arith, length-append (table (0 - 0) (row zero)) [], length-table (0 - 0) (row zero))
length_triangle {A} (suc n) row =
    let first = table (suc n - zero) (row zero) in
    let rest = join_lists (table (suc n) (λ (a : ℕ). table (suc n - suc a) (row (suc a)))) in
    let shorter : rest ≡ join_lists (table (suc n) (λ (a : ℕ). table (n - a) (row (suc a)))) =
    ap join_lists (table_cong (suc n) _ _ (λ a h. ap (λ (m : ℕ). table m (row (suc a))) (suc-sub-suc n a))) in
    let later : length rest * 2 ≡ suc n * n = ap (λ (l : List A). length l * 2) shorter ∙ length_triangle n (λ (a : ℕ). row (suc a)) in
    omega (arith, length-append first rest, length-table (suc n - zero) (row zero), suc-mul (suc n) (suc n), mul-suc (suc n) n)

length-exhaustive : (h k : ℕ) → length (exhaustive_list h k) ≡ exhaustive_size h k
unfolding exhaustive_list node_pairs node_inputs exhaustive_size
length-exhaustive h k =
    let pairs = join_lists (table (suc h) (λ (a : ℕ). table (h - a) (λ (j : ℕ). nodes a (a + 1 + j)))) in
    let inputs = join_lists (table (suc h) (λ (m : ℕ). table k (input m))) in
    rw add-one (omega (arith, length-append pairs inputs, length_triangle h (λ (a j : ℕ). nodes a (a + 1 + j)), length_rows (suc h) k input))

pub size-is-length : SizeIsLength
unfolding faults_of chosen chosen_size
size-is-length types bridges i = go i.choice
  where
    t : ModuleType
    t = type_of_instance types i

    go : (c : Choice) → length (chosen t bridges c) ≡ chosen_size t bridges c
    go exhaustive = length-exhaustive t.highest t.labels
    go no_faults = refl
    go (list n) = refl

pub count-is-rows : CountIsRows
unfolding fault_count join_lists
count-is-rows types bridges [] = refl
count-is-rows types bridges (i ∷ is) =
    omega (
      arith,
      length-append (faults_of types bridges i) (join_lists (map (faults_of types bridges) is)),
      size-is-length types bridges i,
      count-is-rows types bridges is,
    )
