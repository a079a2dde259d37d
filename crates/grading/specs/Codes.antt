-- A row as one number: instance, kind, first and second, a byte each, highest first; and each of them of such a number. The numbers whose
-- nodes and labels are there.
use Rattle.std.specs.Prelude.{ℕ, ◌+◌, ◌*◌, ◌/◌, ◌%◌, ◌<◌, ◌≤◌, ◌≡◌, false, List, map, eqb, get_or}
use Rattle.switch.specs.Bridges.{Bridge, nodes, input}
use Rattle.grading.specs.Rows.{Row}

-- ---- a bridge's kind and ends, as numbers

unfoldable pub kind_of : Bridge → ℕ
kind_of (nodes a b) = 0
kind_of (input m l) = 1

unfoldable pub first_end : Bridge → ℕ
first_end (nodes a b) = a
first_end (input m l) = m

unfoldable pub second_end : Bridge → ℕ
second_end (nodes a b) = b
second_end (input m l) = l

-- ---- four numbers in one, and back

abbrev pub packed : ℕ → ℕ → ℕ → ℕ → ℕ
packed instance kind first second = ((instance * 256 + kind) * 256 + first) * 256 + second

abbrev pub instance_in : ℕ → ℕ
instance_in code = code / 16777216

abbrev pub kind_in : ℕ → ℕ
kind_in code = code / 65536 % 256

abbrev pub first_in : ℕ → ℕ
first_in code = code / 256 % 256

abbrev pub second_in : ℕ → ℕ
second_in code = code % 256

-- ---- rows

-- the row of a bridge of instance n
unfoldable pub code_of : ℕ → Bridge → ℕ
code_of n b = packed n (kind_of b) (first_end b) (second_end b)

unfoldable pub codes_of : List Row → List ℕ
codes_of rows = map (λ (r : Row). code_of r.number r.bridge) rows

-- codes whose nodes and labels are there
unfoldable pub CodeFits : ℕ → Type 0
CodeFits code = (first_in code < 32) × (second_in code < 32) × ((eqb (kind_in code) 0 ≡ false) → second_in code < 12)

unfoldable pub CodesFit : List ℕ → ℕ → ℕ → Type 0
CodesFit codes from to = (r : ℕ) → from ≤ r → r < to → CodeFits (get_or codes r 0)
