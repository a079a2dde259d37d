-- What the code computes: the rows as numbers, instance by instance.
use Rattle.std.specs.Prelude.{ℕ, ◌+◌, ◌-◌, ◌≡◌, cond, List, [], ◌∷◌, ◌++◌, map, eqb, length}
use Rattle.words.specs.Tables.{table}
use Rattle.words.specs.Written.{written}
use Rattle.circuit.specs.Circuit.{node_pairs, node_inputs}
use Rattle.circuit.specs.declared.Bridge.{Bridge as BridgeRecord}
use Rattle.grading.specs.Codes.{packed, code_of}

-- the codes of one kind and one first, with each second from one number to below another
unfoldable pub codes_from : ℕ → ℕ → ℕ → ℕ → ℕ → List ℕ
codes_from n kind first from to = table (to - from) (λ (j : ℕ). packed n kind first (from + j))

-- the codes of a user list, from the bridges' records
unfoldable pub listed_codes : ℕ → ℕ → List BridgeRecord → List ℕ
listed_codes n list_number [] = []
listed_codes n list_number (b ∷ bs) =
    let rest = listed_codes n list_number bs in
    cond (eqb b.list list_number) (packed n b.kind b.first b.second ∷ rest) rest

-- the codes of the rows of the instance at a place, from its choice, its type's h and k, and the bridges' records
unfoldable pub instance_codes : ℕ → ℕ → ℕ → ℕ → List BridgeRecord → List ℕ
instance_codes place choice h k bridges =
    cond (eqb choice 255) (map (code_of (place + 1)) (node_pairs h ++ node_inputs h k))
    (cond (eqb choice 0) [] (listed_codes (place + 1) choice bridges))

-- codes listed from a place on: where they end, and all else as it was
pub record RowsListed (codes : List ℕ) (from : ℕ) (new : List ℕ) (to : ℕ) (codes' : List ℕ) : Type 0 where
  pub end : to ≡ from + length new
  pub listed : codes' ≡ written codes from new
