-- Demand 3 and the column clause of demand 2, said of two files byte by byte: the same fields up to the vectors, then each file's own.
-- What is asked of the files speaks of no circuit and of no reading, so that a reader can hold two files against it (more in SplitFiles).
use Rattle.std.specs.Prelude.{ℕ, ◌≤◌, ◌<◌, ◌≡◌, Bool, not, ◌⊎◌, List, [], ◌∷◌, ◌++◌, map, T, length, get_or}
use Rattle.print_lines.specs.Ascii.{bytes_of}
use Rattle.switch.specs.Modules.{all_of}
use Rattle.circuit.specs.Order.{vector_tag, tag_of, is_kind}
use Rattle.circuit.specs.Limits.{most_bytes, most_vectors}
use Rattle.circuit.specs.Circuit.{Circuit, join_lists}
use Rattle.circuit.specs.Known.{vector_in}
use Rattle.circuit.specs.Table.{is_letter}
use Rattle.grading.specs.Buffers.{Room, room_of}
use Rattle.grading.specs.Promise.{is_graded, counts_of}
use Rattle.demands.specs.Calls.{Call, Kept, Accepts, cell_at, class_at}
use Rattle.demands.specs.Two.{AlikeButVectors}
use Rattle.demands.specs.Three.{Refined}
use Rattle.demands.specs.Files.{field_bytes, nand_under}

-- ---- files alike but for their vectors

-- a whole field, by its tag and its body
pub record TagAndBody : Type 0 where
  pub tag : ℕ
  pub body : List ℕ

abbrev pub fields_of : List TagAndBody → List ℕ
fields_of fields = join_lists (map (λ (f : TagAndBody). field_bytes f.tag f.body) fields)

abbrev pub not_vector : TagAndBody → Bool
not_vector f = not (is_kind vector_tag (tag_of f.tag))

-- one field for each vector, by their bodies
abbrev pub vector_fields_of : List (List ℕ) → List ℕ
vector_fields_of bodies = join_lists (map (field_bytes 6) bodies)

-- A file split before its first vector. What stands before is whole fields: bytes inside an instance's field can look like a vector's, and
-- files that differ there have other instances (`NotAnyHead`). None of them is a vector's, so that bodies and columns are numbered alike
pub record Split (file : List ℕ) (head : List TagAndBody) (bodies : List (List ℕ)) : Type 0 where
  pub no_vector : T (all_of not_vector head)
  pub is : file ≡ fields_of head ++ vector_fields_of bodies

-- the same fields before the first vector
pub record AlikeFiles (one other : List ℕ) (bodies other_bodies : List (List ℕ)) : Type 0 where
  pub head : List TagAndBody
  pub one_split : Split one head bodies
  pub other_split : Split other head other_bodies

-- the second body has the same byte wherever the first has 0 or 1, in ASCII 48 or 49: so where each X, 88, is filled, or some, or none
abbrev pub KeepsLetters : List ℕ → List ℕ → Type 0
KeepsLetters body finer = (i : ℕ) → (get_or body i 0 ≡ 48) ⊎ (get_or body i 0 ≡ 49) → get_or finer i 0 ≡ get_or body i 0

-- field by field; perhaps there are more at the end
pub record FinerBodies (bodies finer : List (List ℕ)) : Type 0 where
  pub no_fewer : length bodies ≤ length finer
  pub keeps : (v : ℕ) → v < length bodies → KeepsLetters (get_or bodies v []) (get_or finer v [])

-- the byte as it was, or 0 or 1 in place of X
abbrev pub FilledByte : ℕ → ℕ → Type 0
FilledByte byte filled = (filled ≡ byte) ⊎ ((byte ≡ 88) × ((filled ≡ 48) ⊎ (filled ≡ 49)))

pub record FilledBody (body filled : List ℕ) : Type 0 where
  pub as_long : length filled ≡ length body
  pub each : (i : ℕ) → i < length body → FilledByte (get_or body i 0) (get_or filled i 0)

-- as many vectors, each filled
pub record FilledBodies (bodies filled : List (List ℕ)) : Type 0 where
  pub as_many : length filled ≡ length bodies
  pub each : (v : ℕ) → v < length bodies → FilledBody (get_or bodies v []) (get_or filled v [])

-- vectors of P primary inputs: one at least and 256 at most, each P bytes of 0, 1 or X
pub record GoodBodies (P : ℕ) (bodies : List (List ℕ)) : Type 0 where
  pub some : 1 ≤ length bodies
  pub few : length bodies ≤ most_vectors
  pub long : (v : ℕ) → v < length bodies → length (get_or bodies v []) ≡ P
  pub letters : (v : ℕ) → v < length bodies → T (all_of is_letter (get_or bodies v []))

-- ---- how they are read

-- circuits alike but for their vectors, and each vector is what the letters of its field say
pub record ReadAlike (c d : Circuit) (bodies other_bodies : List (List ℕ)) : Type 0 where
  pub alike : AlikeButVectors c d
  pub vectors : c.vectors ≡ map vector_in bodies
  pub other_vectors : d.vectors ≡ map vector_in other_bodies

abbrev pub AlikeFilesReadAlike : Type 0
AlikeFilesReadAlike =
    (one other : List ℕ) (bodies other_bodies : List (List ℕ)) → AlikeFiles one other bodies other_bodies
    → (c d : Circuit) → Accepts one c → Accepts other d → ReadAlike c d bodies other_bodies

abbrev pub FinerFilesReadRefined : Type 0
FinerFilesReadRefined =
    (one finer : List ℕ) (bodies finer_bodies : List (List ℕ)) → AlikeFiles one finer bodies finer_bodies → FinerBodies bodies finer_bodies
    → (c d : Circuit) → Accepts one c → Accepts finer d → Refined c.vectors d.vectors

-- ---- the demands of two calls that graded such files

pub record GradedItsFile (call : Call) : Type 0 where
  pub kept : Kept call
  pub graded : T (is_graded call.answer)

-- the files of two calls that graded them
pub record GradedAlike (one other : Call) (bodies other_bodies : List (List ℕ)) : Type 0 where
  pub first : GradedItsFile one
  pub second : GradedItsFile other
  pub files : AlikeFiles one.file other.file bodies other_bodies

-- the rows are the same, and so are their classes, whatever the vectors
pub record SameRows (one other : Call) : Type 0 where
  pub faults : (counts_of one.answer).faults ≡ (counts_of other.answer).faults
  pub classes : (counts_of one.answer).classes ≡ (counts_of other.answer).classes
  pub class : (r : ℕ) → r < (counts_of one.answer).faults → class_at one.after.classes r ≡ class_at other.after.classes r

abbrev pub RowsAreOfTheHead : Type 0
RowsAreOfTheHead =
    (one other : Call) (bodies other_bodies : List (List ℕ)) → GradedAlike one other bodies other_bodies → SameRows one other

-- demand 2: columns of equal vector fields are equal, wherever in the two files they stand
abbrev pub ColumnIsOfItsField : Type 0
ColumnIsOfItsField =
    (one other : Call) (bodies other_bodies : List (List ℕ)) → GradedAlike one other bodies other_bodies
    → (v w : ℕ) → v < length bodies → w < length other_bodies → get_or bodies v [] ≡ get_or other_bodies w []
    → (r : ℕ) → r < (counts_of one.answer).faults → cell_at one.after.matrix r v ≡ cell_at other.after.matrix r w

-- demand 3: each mark stands in the same row and column, and the found count is no smaller
pub record ThreeOfFiles (one finer : Call) (bodies : List (List ℕ)) : Type 0 where
  pub marks : (r v : ℕ) → r < (counts_of one.answer).faults → v < length bodies
      → cell_at one.after.matrix r v ≡ 1 → cell_at finer.after.matrix r v ≡ 1
  pub found : (counts_of one.answer).found ≤ (counts_of finer.answer).found

abbrev pub ThreeHoldsOfFiles : Type 0
ThreeHoldsOfFiles =
    (one finer : Call) (bodies finer_bodies : List (List ℕ)) → GradedAlike one finer bodies finer_bodies → FinerBodies bodies finer_bodies
    → ThreeOfFiles one finer bodies

-- so a mark that was made with X stands in every graded file that has its vector's field filled, at whichever place and beside any others
abbrev pub MarksHoldInEveryFilledFile : Type 0
MarksHoldInEveryFilledFile =
    (one other : Call) (bodies other_bodies : List (List ℕ)) → GradedAlike one other bodies other_bodies
    → (v w : ℕ) → v < length bodies → w < length other_bodies → KeepsLetters (get_or bodies v []) (get_or other_bodies w [])
    → (r : ℕ) → r < (counts_of one.answer).faults → cell_at one.after.matrix r v ≡ 1 → cell_at other.after.matrix r w ≡ 1

-- ---- the same where nothing is known of the second call but its file: in buffers that are no smaller it has graded that too

pub record GradedToo (one other : Call) (bodies : List (List ℕ)) : Type 0 where
  pub graded : T (is_graded other.answer)
  pub three : ThreeOfFiles one other bodies

-- at least as much room
pub record NoLessRoom (room more : Room) : Type 0 where
  pub words : room.words ≤ more.words
  pub entries : room.entries ≤ more.entries

-- two calls with such files, the first of which graded its own
pub record CalledAlike (one other : Call) (bodies other_bodies : List (List ℕ)) : Type 0 where
  pub first : GradedItsFile one
  pub second : Kept other
  pub files : AlikeFiles one.file other.file bodies other_bodies
  pub room : NoLessRoom (room_of one.before) (room_of other.before)

-- fill X's, in whichever way
abbrev pub FillingsAreGraded : Type 0
FillingsAreGraded =
    (one other : Call) (bodies filled : List (List ℕ)) → CalledAlike one other bodies filled → FilledBodies bodies filled
    → GradedToo one other bodies

-- fill X's and add vectors at the end, as long as the first file's, within the limits
abbrev pub RefinementsAreGraded : Type 0
RefinementsAreGraded =
    (one other : Call) (bodies finer : List (List ℕ)) → CalledAlike one other bodies finer → FinerBodies bodies finer
    → GoodBodies (length (get_or bodies 0 [])) finer → length other.file ≤ most_bytes → GradedToo one other bodies

-- ---- an example

-- a NAND under 0X, and under 01 and 11: the files are alike, the second is finer, two calls graded them, and 0X marks row 1, bridge 0-2
pub record NandRefined : Type 0 where
  pub one : Call
  pub finer : Call
  pub one_file : one.file ≡ nand_under ("0X" ∷ [])
  pub finer_file : finer.file ≡ nand_under ("01" ∷ "11" ∷ [])
  pub graded : GradedAlike one finer (bytes_of "0X" ∷ []) (bytes_of "01" ∷ bytes_of "11" ∷ [])
  pub more : FinerBodies (bytes_of "0X" ∷ []) (bytes_of "01" ∷ bytes_of "11" ∷ [])
  pub mark : cell_at one.after.matrix 1 0 ≡ 1
