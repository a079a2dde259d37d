-- What the functions below `show_piece` promise: a line that is sought by its number is found, or is past the last.
use Rattle.std.specs.Prelude.{ℕ, ◌+◌, ◌*◌, ◌≤◌, ◌<◌, ◌≡◌, List, [], Option, Some, None, length, get_or, slice_get}
use Rattle.std.specs.ControlFlow.{MatchControlFlow}
use Rattle.std.specs.declared.ops.ControlFlow.{ControlFlow}
use Rattle.switch.specs.Modules.{most_edges}
use Rattle.circuit.specs.Limits.{most_types, most_bridges, most_instances, most_vectors}
use Rattle.print_lines.specs.Given.{LineGiven}

-- line n of some lines, of which no more than `most` are up to it
pub record LineFound (lines : List (List ℕ)) (most n : ℕ) (line : List ℕ) : Type 0 where
  pub found : slice_get lines n ≡ Some line
  pub near : n < most

-- the lines, no more than `most`, end `left` before line n
pub record LinePast (lines : List (List ℕ)) (most n left : ℕ) : Type 0 where
  pub past : n ≡ length lines + left
  pub near : length lines ≤ most

-- the search breaks off with the line, or goes on behind the lines
abbrev pub FindsLine : List (List ℕ) → ℕ → ℕ → ControlFlow (List ℕ) ℕ → Type 0
FindsLine lines most n found =
    MatchControlFlow found (λ (left : ℕ). LinePast lines most n left) (λ (line : List ℕ). LineFound lines most n line)

-- line n of some lines given into a buffer, or nothing where there is none
pub record LineAt (lines : List (List ℕ)) (most n : ℕ) (buffer : List ℕ) (count : Option ℕ) (after : List ℕ) : Type 0 where
  pub given : n < length lines → LineGiven (get_or lines n []) buffer count after
  pub short : length (get_or lines n []) ≤ 512
  pub near : n < length lines → n ≤ most
  pub past : length lines ≤ n → (count ≡ None) × (after ≡ buffer)

-- ---- how many lines there are at most

-- a type has its own and one for each edge
abbrev pub most_of_type : ℕ
most_of_type = most_edges + 1

abbrev pub most_of_types : ℕ
most_of_types = most_of_type * most_types

-- a circuit has that of the inputs and those of its types, bridges, instances and vectors
abbrev pub most_lines : ℕ
most_lines = 1 + most_of_types + most_bridges + most_instances + most_vectors
