-- What the lines of reports and of listings have alike. 01, "The report": fields are separated by one space, lines end with byte 10.
-- A refusal: refused N at B.
use Rattle.std.specs.Prelude.{ℕ, List, [], ◌∷◌, ◌++◌}
use Rattle.print_lines.specs.Decimal.{decimal}

abbrev pub space : List ℕ
space = 32 ∷ []

abbrev pub newline : List ℕ
newline = 10 ∷ []

-- the words of a refusal, with the space behind each
abbrev pub refused_word : List ℕ
refused_word = 114 ∷ 101 ∷ 102 ∷ 117 ∷ 115 ∷ 101 ∷ 100 ∷ 32 ∷ []

abbrev pub at_word : List ℕ
at_word = 97 ∷ 116 ∷ 32 ∷ []

unfoldable pub refusal_line : ℕ → ℕ → List ℕ
refusal_line number place = refused_word ++ decimal number ++ space ++ at_word ++ decimal place ++ newline
