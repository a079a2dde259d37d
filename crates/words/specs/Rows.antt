-- A row of marks: four words, one bit a vector.
-- 01, "Faults, marks and classes": vector v, from 1, is bit (v - 1) mod 64 of word floor((v - 1) / 64); bits past the last vector are 0.
-- 01, "The report": number of marks; first marking vector or 0.
use Rattle.std.specs.Prelude.{ℕ, ◌+◌, ◌*◌, ◌/◌, ◌%◌, List, [], ◌∷◌, get_or}
use Rattle.words.specs.Bits.{bit, word, sum_to, first_to}
use Rattle.words.specs.Tables.{up_to}

-- the mark of the vector at a position, from 0
unfoldable pub mark_at : List ℕ → ℕ → ℕ
mark_at row v = bit (get_or row (v / 64) 0) (v % 64)

-- the row whose mark at each of its vectors, of which there are `vectors`, is f's; past the last it has none
unfoldable pub row_of : ℕ → (ℕ → ℕ) → List ℕ
row_of vectors f = word_at 0 ∷ word_at 1 ∷ word_at 2 ∷ word_at 3 ∷ []
  where
    word_at : ℕ → ℕ
    word_at w = word (λ (v : ℕ). up_to vectors f (64 * w + v))

-- the number of marks of a row
unfoldable pub marks_of : List ℕ → ℕ
marks_of row = sum_to 256 (mark_at row)

-- the first marking vector of a row, from 1, or 0
unfoldable pub first_mark_of : List ℕ → ℕ
first_mark_of row = first_to 256 (mark_at row)
