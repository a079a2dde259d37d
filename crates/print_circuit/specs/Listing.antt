-- docs/SHOW.md: the listing of a file, one line for each field that was read, of an edge field with tag 3 one for each label, in file
-- order, and last the line of a refusal.
use Rattle.std.specs.Prelude.{ℕ, zero, suc, ◌≡◌, List, [], ◌∷◌, ◌++◌, map}
use Rattle.switch.specs.Modules.{ModuleType}
use Rattle.circuit.specs.Circuit.{Circuit}
use Rattle.circuit.specs.Reading.{Reading, accepted, refusal, reading_of}
use Rattle.circuit.specs.Before.{read_before}
use Rattle.print_lines.specs.Lines.{refusal_line}
use Rattle.print_circuit.specs.Lines.{inputs_line, type_line, edge_line, bridge_line, instance_line, vector_line}

-- a line for each thing of a list, with its number: `first`, and so on upward
unfoldable pub numbered_lines : {A : Type 0} → (ℕ → A → List ℕ) → ℕ → List A → List (List ℕ)
numbered_lines line first [] = []
numbered_lines line first (a ∷ as') = line first a ∷ numbered_lines line (suc first) as'

-- the lines of each thing of a list, one thing behind the other, with the things' numbers
unfoldable pub grouped_lines : {A : Type 0} → (ℕ → A → List (List ℕ)) → ℕ → List A → List (List ℕ)
grouped_lines lines first [] = []
grouped_lines lines first (a ∷ as') = lines first a ++ grouped_lines lines (suc first) as'

-- the line of a type, and behind it those of its edges
unfoldable pub type_lines : ℕ → ModuleType → List (List ℕ)
type_lines number t = type_line number t ∷ map edge_line t.edges

-- none where no inputs field was read; one that was read says at least 1
unfoldable pub inputs_lines : ℕ → List (List ℕ)
inputs_lines zero = []
inputs_lines (suc n) = inputs_line (suc n) ∷ []

unfoldable pub circuit_lines : Circuit → List (List ℕ)
circuit_lines c =
    inputs_lines c.inputs
    ++ (grouped_lines type_lines 1 c.types
    ++ (map bridge_line c.bridges ++ (numbered_lines instance_line 1 c.instances ++ numbered_lines vector_line 1 c.vectors)))

unfoldable pub refusal_lines : Reading → List (List ℕ)
refusal_lines (accepted c) = []
refusal_lines (refusal number place) = refusal_line number place ∷ []

-- what was read, and behind it the refusal if the file reads as one
unfoldable pub listing_of : Circuit → Reading → List (List ℕ)
listing_of before reading = circuit_lines before ++ refusal_lines reading

abbrev pub listing_of_file : List ℕ → List (List ℕ)
listing_of_file file = listing_of (read_before file) (reading_of file)

-- the listing of an accepted file is its circuit's lines
abbrev pub AcceptedListing : Type 0
AcceptedListing = (file : List ℕ) (c : Circuit) → reading_of file ≡ accepted c → listing_of_file file ≡ circuit_lines c
