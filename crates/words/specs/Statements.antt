-- The laws that other crates rest on: packing and its bits, and the marks of a row. Their proofs are in proofs/.
use Rattle.std.specs.Prelude.{ℕ, ◌^◌, ◌≤◌, ◌<◌, ◌≡◌}
use Rattle.words.specs.Bits.{bit, pack, sum_to, first_to}
use Rattle.words.specs.Tables.{up_to}
use Rattle.words.specs.Rows.{mark_at, row_of, marks_of, first_mark_of}

-- the bits of a packed number are the function's, and a number of n bits is packed from its bits
abbrev pub BitPack : Type 0
BitPack = (n : ℕ) (f : ℕ → ℕ) → ((v : ℕ) → v < n → f v ≤ 1) → (v : ℕ) → v < n → bit (pack n f) v ≡ f v

abbrev pub PackBits : Type 0
PackBits = (n w : ℕ) → w < 2 ^ n → pack n (bit w) ≡ w

-- the row made from a function has the function's marks at the vectors, and none past the last
abbrev pub RowMark : Type 0
RowMark = (vectors : ℕ) (f : ℕ → ℕ) → ((v : ℕ) → f v ≤ 1) → (v : ℕ) → v < 256 → mark_at (row_of vectors f) v ≡ up_to vectors f v

-- so its number of marks and its first mark are the function's over the vectors
abbrev pub RowMarks : Type 0
RowMarks = (vectors : ℕ) (f : ℕ → ℕ) → ((v : ℕ) → f v ≤ 1) → vectors ≤ 256 → marks_of (row_of vectors f) ≡ sum_to vectors f

abbrev pub RowFirst : Type 0
RowFirst = (vectors : ℕ) (f : ℕ → ℕ) → ((v : ℕ) → f v ≤ 1) → vectors ≤ 256 → first_mark_of (row_of vectors f) ≡ first_to vectors f
