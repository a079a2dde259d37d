-- The planes of primary inputs, four words each in lists of 768, from the vectors' records.
use Rattle.std.specs.Prelude.{ℕ, ◌+◌, ◌*◌, ◌/◌, ◌%◌, cond, List, map, eqb, ltb, get_or}
use Rattle.words.specs.Bits.{bit, word}
use Rattle.words.specs.Tables.{table, up_to}
use Rattle.circuit.specs.declared.Vector.{Vector as VectorRecord}
use Rattle.grade_inputs.specs.declared.Block.{Block}

-- the vectors' words in two columns: the inputs that are 1, and those that are 0
unfoldable pub ones_of : List VectorRecord → List ℕ
ones_of vectors = map (λ (v : VectorRecord). v.ones) vectors

unfoldable pub zeros_of : List VectorRecord → List ℕ
zeros_of vectors = map (λ (v : VectorRecord). v.zeros) vectors

-- word w of input i, from a column: bit i of 64 vectors' words
unfoldable pub input_word : List ℕ → ℕ → ℕ → ℕ
input_word column i w = word (λ (v : ℕ). bit (get_or column (64 * w + v) 0) i)

-- the planes of the inputs in the first `words` words, and 0 in all other places
unfoldable pub input_words : List ℕ → ℕ → List ℕ
input_words column words = table 768 (up_to 256 (λ (j : ℕ). up_to words (input_word column (j / 4)) (j % 4)))

-- the words of the 64 vectors from 64 w on
unfoldable pub words_from : List ℕ → ℕ → List ℕ
words_from column w = table 64 (λ (v : ℕ). get_or column (64 * w + v) 0)

abbrev pub block_of : List VectorRecord → ℕ → Block
block_of vectors w = record { ones = words_from (ones_of vectors) w; zeros = words_from (zeros_of vectors) w }

-- word w of the first n inputs put among the signals
unfoldable pub inputs_put : ℕ → List ℕ → ℕ → List ℕ → List ℕ
inputs_put n block w signals =
    table 768 (λ (j : ℕ). cond (eqb (j % 4) w) (cond (ltb (j / 4) n) (get_or block (j / 4) 0) (get_or signals j 0)) (get_or signals j 0))
