-- The user lists in sum: what each of them asks of a type that it is chosen for.
use Rattle.std.specs.Prelude.{ℕ, suc, ◌≤◌, max, ◌≡◌, cond, List, [], ◌∷◌, map, T, eqb, length}
use Rattle.words.specs.Tables.{table}
use Rattle.switch.specs.Bridges.{Bridge, nodes, input}
use Rattle.switch.specs.Modules.{all_of}
use Rattle.circuit.specs.Limits.{most_bridges}
use Rattle.circuit.specs.Circuit.{Listed, user_list}
use Rattle.circuit.specs.Table.{listed_good}
use Rattle.circuit.specs.Records.{bridge_record}
use Rattle.circuit.specs.declared.Bridge.{Bridge as BridgeRecord}
use Rattle.read_bridges.specs.declared.lists.ListSum.{ListSum}

unfoldable pub top_node : Bridge → ℕ
top_node (nodes a b) = max a b
top_node (input m l) = m

unfoldable pub labels_named : Bridge → ℕ
labels_named (nodes a b) = 0
labels_named (input m l) = suc l

unfoldable pub most : (Bridge → ℕ) → List Bridge → ℕ
most f [] = 0
most f (b ∷ bs) = max (f b) (most f bs)

-- of a list: how many bridges it has, the highest node that they name, and one more than the highest label, 0 where they name none
abbrev pub sum_of : List Bridge → ListSum
sum_of bs = record { count = length bs; nodes = most top_node bs; labels = most labels_named bs }

-- of each list, by its number
abbrev pub lists_of : List Listed → List ListSum
lists_of bridges = table 128 (λ (n : ℕ). sum_of (user_list n bridges))

unfoldable pub top_of_record : BridgeRecord → ℕ
top_of_record r = cond (eqb r.kind 0) (max r.first r.second) r.first

unfoldable pub labels_of_record : BridgeRecord → ℕ
labels_of_record r = cond (eqb r.kind 0) 0 (suc r.second)

-- records of bridges that have passed their tests
pub record ListedBridges (records : List BridgeRecord) : Type 0 where
  pub bridges : List Listed
  pub within : length bridges ≤ most_bridges
  pub are : records ≡ map bridge_record bridges
  pub ranges : T (all_of listed_good bridges)

-- their lists in sum
abbrev pub SummedTo : List BridgeRecord → List ListSum → Type 0
SummedTo records r =
    (bridges : List Listed) → length bridges ≤ most_bridges → T (all_of listed_good bridges)
    → records ≡ map bridge_record bridges → r ≡ lists_of bridges
