-- 01, "The report": fields are separated by one space, lines end with byte 10. First line: vectors, faults, classes and found, each word
-- before its number. Row: instance; n for kind 0 or i for kind 1; first; second; class; one digit for each vector, 1 for a mark; number of
-- marks; first marking vector or 0. 02, "How many rounds joining takes": the report gains a last line, `rounds` and the number. A refusal's
-- line is in print_lines/specs/Lines.
use Rattle.std.specs.Prelude.{ℕ, zero, suc, ◌+◌, List, [], ◌∷◌, ◌++◌}
use Rattle.words.specs.Tables.{table}
use Rattle.words.specs.Rows.{mark_at, marks_of, first_mark_of}
use Rattle.print_lines.specs.Decimal.{decimal}
use Rattle.print_lines.specs.Lines.{space, newline}

-- the words of the report, with the space behind each
abbrev pub vectors_word : List ℕ
vectors_word = 118 ∷ 101 ∷ 99 ∷ 116 ∷ 111 ∷ 114 ∷ 115 ∷ 32 ∷ []

abbrev pub faults_word : List ℕ
faults_word = 102 ∷ 97 ∷ 117 ∷ 108 ∷ 116 ∷ 115 ∷ 32 ∷ []

abbrev pub classes_word : List ℕ
classes_word = 99 ∷ 108 ∷ 97 ∷ 115 ∷ 115 ∷ 101 ∷ 115 ∷ 32 ∷ []

abbrev pub found_word : List ℕ
found_word = 102 ∷ 111 ∷ 117 ∷ 110 ∷ 100 ∷ 32 ∷ []

abbrev pub rounds_word : List ℕ
rounds_word = 114 ∷ 111 ∷ 117 ∷ 110 ∷ 100 ∷ 115 ∷ 32 ∷ []

unfoldable pub first_line : ℕ → ℕ → ℕ → ℕ → List ℕ
first_line vectors faults classes found =
    vectors_word ++ decimal vectors ++ space ++ faults_word ++ decimal faults ++ space ++ classes_word ++ decimal classes ++ space
    ++ found_word ++ decimal found ++ newline

-- n for kind 0, i for kind 1
unfoldable pub kind_letter : ℕ → ℕ
kind_letter zero = 110
kind_letter (suc kind) = 105

-- one digit for each vector
unfoldable pub digits_of_marks : ℕ → List ℕ → List ℕ
digits_of_marks vectors row = table vectors (λ (v : ℕ). 48 + mark_at row v)

unfoldable pub row_line : ℕ → ℕ → ℕ → ℕ → ℕ → ℕ → List ℕ → List ℕ
row_line instance kind first second class vectors row =
    decimal instance ++ space ++ (kind_letter kind ∷ []) ++ space ++ decimal first ++ space ++ decimal second ++ space ++ decimal class
    ++ space
    ++ digits_of_marks vectors row ++ space ++ decimal (marks_of row) ++ space ++ decimal (first_mark_of row) ++ newline

unfoldable pub rounds_line : ℕ → List ℕ
rounds_line rounds = rounds_word ++ decimal rounds ++ newline
