-- What a list choice gives an instance, from the user lists in sum.
use Rattle.std.specs.Prelude.{ℕ, Bool, false, cond, ◌||◌, List, [], ◌∷◌, leb, ltb, eqb, get_or}
use Rattle.switch.specs.declared.ModuleType.{ModuleType as TypeRecord}
use Rattle.circuit.specs.Circuit.{exhaustive_size}
use Rattle.circuit.specs.Table.{Test, test}
use Rattle.read_bridges.specs.declared.lists.ListSum.{ListSum}

-- how many faults, whether a bridge of the list does not suit the type, and whether a user list was chosen that is empty
pub record Chosen : Type 0 where
  pub faults : ℕ
  pub unsuited : Bool
  pub empty : Bool

-- what a choice gives in a type with h and k, where the list that it names has this sum
unfoldable pub chosen_of : ℕ → ℕ → ℕ → ListSum → Chosen
chosen_of h k choice sum =
    cond (leb 128 choice) (record { faults = exhaustive_size h k; unsuited = false; empty = false })
    (cond (eqb choice 0) (record { faults = 0; unsuited = false; empty = false })
    (record { faults = sum.count; unsuited = ltb h sum.nodes || ltb k sum.labels; empty = eqb sum.count 0 }))

-- what a choice gives in a type, by the lists in sum
abbrev pub given_by : TypeRecord → ℕ → List ListSum → Chosen
given_by t choice lists =
    chosen_of t.highest t.labels choice (get_or lists choice (record { count = 0; nodes = 0; labels = 0 }))

-- the tests of a choice, in a field at an offset
abbrev pub list_tests : Chosen → ℕ → List Test
list_tests given at = test 11 given.unsuited at ∷ test 12 given.empty at ∷ []
