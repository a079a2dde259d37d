-- The buffers that a caller lends to a grading, as lists of numbers, and the room that their lengths give.
use Rattle.std.specs.Prelude.{ℕ, List, [], length}

-- 01, "Faults, marks and classes": a matrix of 64-bit words, and a buffer of 16-bit class numbers
pub record Buffers : Type 0 where
  pub matrix : List ℕ
  pub classes : List ℕ

abbrev pub buffers_of : List ℕ → List ℕ → Buffers
buffers_of matrix classes = record { matrix = matrix; classes = classes }

abbrev pub no_buffers : Buffers
no_buffers = buffers_of [] []

-- so many words for the matrix and entries for the classes: all of the buffers that an answer depends on
pub record Room : Type 0 where
  pub words : ℕ
  pub entries : ℕ

abbrev pub room_for : ℕ → ℕ → Room
room_for words entries = record { words = words; entries = entries }

abbrev pub room_of : Buffers → Room
room_of buffers = room_for (length buffers.matrix) (length buffers.classes)

-- enough for every file: 2,048 faults
abbrev pub room_for_all : Room
room_for_all = room_for 8192 2048
