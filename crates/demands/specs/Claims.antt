-- What a line of the table of known results (specs/KnownResults) can claim of a file's grading, its report or the buffers, and when a claim
-- holds. `joins`, by which a node floats and a cell is marked, decides `Joined` (switch, `JoinsDecides`).
use Rattle.std.specs.Prelude.{ℕ, suc, ◌+◌, ◌-◌, ◌*◌, ◌≡◌, Bool, true, false, cond, ◌&&◌, not, List, [], ◌∷◌, ◌++◌, map, eqb, leb, length}
use Prim.Native.String.{String}
use Rattle.words.specs.Tables.{table}
use Rattle.print_lines.specs.Ascii.{bytes_of}
use Rattle.switch.specs.Conduction.{Value, between, ground, supply}
use Rattle.switch.specs.Modules.{ModuleType, links_of}
use Rattle.switch.specs.Bridges.{Bridge}
use Rattle.switch.specs.Deciding.{joins}
use Rattle.circuit.specs.Circuit.{Circuit, Instance, numbered, type_of_instance, join_lists}
use Rattle.grading.specs.Values.{label_values, outputs_of}
use Rattle.grading.specs.Rows.{Row, no_instance, rows_of}
use Rattle.grading.specs.Buffers.{Buffers, buffers_of, no_buffers, Room, room_of, room_for_all}
use Rattle.grading.specs.Grading.{Counts, Grading, graded, refused, grading_of, counts_in, number_in, place_in, buffers_after}
use Rattle.grading.specs.Codes.{code_of}
use Rattle.demands.specs.Calls.{cell_at}
use Rattle.print_report.specs.Report.{report_of}

-- ---- what a claim speaks of

-- marks as a text of digits, the first vector's first
abbrev pub marks_of_text : String → List ℕ
marks_of_text text = map (λ (b : ℕ). b - 48) (bytes_of text)

-- and as a word: the first vector's is bit 0
abbrev pub word_of_digits : List ℕ → ℕ
word_of_digits [] = 0
word_of_digits (d ∷ ds) = d + 2 * word_of_digits ds

abbrev pub word_of : String → ℕ
word_of text = word_of_digits (marks_of_text text)

-- the grading of a file with buffers that are long enough for any
abbrev pub grading_in_full : List ℕ → Grading
grading_in_full file = grading_of file room_for_all

-- the marks of the row of a bridge, ends as written, in an instance: a digit for each vector. There are none where there is no such row
unfoldable pub marks_from : Circuit → List ℕ → ℕ → List Row → ℕ → Bridge → List ℕ
marks_from c matrix r [] n bridge = []
marks_from c matrix r (row ∷ rows) n bridge =
    let later = marks_from c matrix (suc r) rows n bridge in
    cond (eqb (code_of row.number row.bridge) (code_of n bridge)) (table (length c.vectors) (cell_at matrix r)) later

unfoldable pub marks_in : Grading → ℕ → Bridge → List ℕ
marks_in (graded c) n bridge = marks_from c (buffers_after (graded c) no_buffers).matrix 0 (rows_of c) n bridge
marks_in (refused number place) n bridge = []

-- a node of a type that is joined to neither rail
unfoldable pub floats_under : ModuleType → (ℕ → Value) → ℕ → Bool
floats_under t values m = leb m t.highest && not (joins (links_of t values) m supply) && not (joins (links_of t values) m ground)

unfoldable pub floats_of : Circuit → Instance → List Value → ℕ → Bool
floats_of c i vector m = floats_under (type_of_instance c.types i) (label_values vector (outputs_of c.types vector c.instances) i) m

-- a node of instance n that is joined to neither rail under vector v, both from 1
unfoldable pub floats_in : Grading → ℕ → ℕ → ℕ → Bool
floats_in (graded c) n m v =
    between 1 (length c.instances) n && between 1 (length c.vectors) v
    && floats_of c (numbered c.instances n no_instance) (numbered c.vectors v []) m
floats_in (refused number place) n m v = false

-- number and place of a refusal, 0 and 0 where there is none
abbrev pub refusal_in : Grading → ℕ × ℕ
refusal_in grading = (number_in grading, place_in grading)

-- a refusal's number, 0 where there is none, and the numbers of rows and of classes
abbrev pub sizes_in : Grading → ℕ × ℕ × ℕ
sizes_in grading = (number_in grading, (counts_in grading).faults, (counts_in grading).classes)

-- a refusal's number, 0 where there is none, and the rounds
abbrev pub rounds_in : Grading → ℕ × ℕ
rounds_in grading = (number_in grading, (counts_in grading).rounds)

-- a refusal's number, and what is written into the matrix
abbrev pub words_in : Grading → ℕ × List ℕ
words_in grading = (number_in grading, (buffers_after grading no_buffers).matrix)

-- a whole grading: the file's size, a refusal's number, the counts, and what is written into the buffers
pub record Whole : Type 0 where
  pub size : ℕ
  pub number : ℕ
  pub counts : Counts
  pub written : Buffers

abbrev pub whole_grading : List ℕ → Grading → Whole
whole_grading file grading = record {
  size = length file;
  number = number_in grading;
  counts = counts_in grading;
  written = buffers_after grading no_buffers;
}

-- lines as bytes: each ends with byte 10
abbrev pub bytes_of_lines : List String → List ℕ
bytes_of_lines lines = join_lists (map (λ (line : String). bytes_of line ++ (10 ∷ [])) lines)

-- a row of at most 64 vectors, by its first word
abbrev pub four : ℕ → List ℕ
four w = w ∷ 0 ∷ 0 ∷ 0 ∷ []

-- ---- claims

pub data Claim : Type 0 where
  -- in a file, the row of a bridge of an instance reads these marks
  reads : List ℕ → ℕ → Bridge → String → Claim
  -- in a file, a node of an instance floats under a vector: instance, node, vector
  floats : List ℕ → ℕ → ℕ → ℕ → Claim
  -- a file is refused with this number at this place
  refuses : List ℕ → ℕ → ℕ → Claim
  -- the same with so much room; 0 at 0 where it is not refused
  short : List ℕ → Room → ℕ → ℕ → Claim
  -- a file is graded, not refused: rows, classes
  sizes : List ℕ → ℕ → ℕ → Claim
  -- a file is graded, not refused, and its rows' words are these
  leaves : List ℕ → List ℕ → Claim
  -- a file of so many bytes is graded, not refused: the counts, the marks of each row, the class of each row
  grades : List ℕ → ℕ → Counts → List String → List ℕ → Claim
  -- a file is graded, not refused, and joining takes so many rounds
  takes : List ℕ → ℕ → Claim
  -- a file's grading turns these buffers into those
  turns : List ℕ → Buffers → Buffers → Claim
  -- a file's whole report, line by line
  reports : List ℕ → List String → Claim

unfoldable pub Holds : Claim → Type 0
Holds (reads file n bridge marks) = marks_in (grading_in_full file) n bridge ≡ marks_of_text marks
Holds (floats file n m v) = floats_in (grading_in_full file) n m v ≡ true
Holds (refuses file number place) = grading_in_full file ≡ refused number place
Holds (short file room number place) = refusal_in (grading_of file room) ≡ (number, place)
Holds (sizes file rows classes) = sizes_in (grading_in_full file) ≡ (0, rows, classes)
Holds (leaves file words) = words_in (grading_in_full file) ≡ (0, words)
Holds (grades file size counts marks classes) =
    whole_grading file (grading_in_full file)
    ≡ record {
      size = size;
      number = 0;
      counts = counts;
      written = buffers_of (join_lists (map (λ (text : String). four (word_of text)) marks)) classes;
    }
Holds (takes file rounds) = rounds_in (grading_in_full file) ≡ (0, rounds)
Holds (turns file before after) = buffers_after (grading_of file (room_of before)) before ≡ after
Holds (reports file lines) = report_of (grading_in_full file) ≡ bytes_of_lines lines

infixr 40 ◌and◌
pub data AllHold : List Claim → Type 0 where
  no_more : AllHold []
  ◌and◌ : {claim : Claim} {claims : List Claim} → Holds claim → AllHold claims → AllHold (claim ∷ claims)
