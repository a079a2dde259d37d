-- What is held is the report: under an outcome of a file the held lines are the report's. Assumes nothing.
use Prim.Native.Nat.{ℕ, ◌+◌, ◌*◌, ◌≤◌, ◌<◌, min}
use mathlib.Core.Path.{◌≡◌, refl, sym, ap, subst, ◌∙◌}
use mathlib.Core.Bool.{true}
use mathlib.Core.List.{List, [], ◌∷◌, ◌++◌}
use native.Mathlib.Omega.{arith}
use lib.ListN.{length, get_or, drop, length-append, get_or-append}
use Rattle.std.specs.Prelude.{Ok, Err}
use Rattle.print_lines.specs.Lines.{refusal_line}
use Rattle.print_lines.specs.Pieces.{line_in, PieceGiven}
use Rattle.print_lines.specs.declared.Piece.{Piece}
use Rattle.words.specs.Rows as marks
use Rattle.words.proofs.Tables.{length-table, is-table}
use Rattle.switch.specs.Bridges.{Bridge}
use Rattle.circuit.specs.Circuit.{Circuit}
use Rattle.circuit.specs.Records.{padded}
use Rattle.circuit.specs.Reading.{accepted, reading_of}
use Rattle.circuit.specs.Laws.{CircuitGood}
use Rattle.circuit.proofs.CircuitLaws.{accepted-is-good}
use Rattle.circuit.proofs.Padding.{get_or-padded}
use Rattle.grading.specs.Buffers.{Buffers, room_of}
use Rattle.grading.specs.Rows.{Row, no_row, rows_of, row_words, matrix_of}
use Rattle.grading.specs.Classes.{classes_of}
use Rattle.grading.specs.Codes.{kind_of, first_end, second_end, code_of, codes_of}
use Rattle.grading.proofs.CodeLaws.{code_instance, code_kind, code_first, code_second}
use Rattle.grading.specs.Grading.{Grading, graded, refused, Counts, counts_of_circuit as counts_of_circuit, grading_of}
use Rattle.grading.specs.Grading.{is_graded_in, counts_in, number_in, place_in, over, buffers_after}
use Rattle.grading.specs.Promise.{Answer, is_graded, place_why, number_of, place_of, counts_of}
use Rattle.grading.proofs.PromiseLaws.{matrix_at_exit, classes_at_exit}
use Rattle.grading.proofs.Everywhere.{every_at}
use Rattle.grading.proofs.FaultRanges.{BridgeFits, RowFits, rows_fit}
use Rattle.grading.proofs.Lists.{get_or-map_any}
use Rattle.grading.proofs.MatrixLaws.{length_matrix, row_long, word_in}
use Rattle.grading.proofs.RowLaws.{few_rows}
use Rattle.grading.proofs.ClassNumbering.{class-numbers}
use Rattle.print_report.specs.Lines.{row_line, rounds_line}
use Rattle.print_report.specs.Report.{line_of, row_lines, counts_line, report_lines, report_line, line_count}
use Rattle.print_report.specs.Held.{head_of, head_line, words_at, held_row, graded_lines, held_lines, held_line, held_count, RowsHeld}
use Rattle.print_report.specs.Promise.{OutcomeOf, ReportPiece, RowsAreHeld}
use Rattle.print_report.specs.declared.RowHead.{RowHead}
use Rattle.print_report.proofs.HeldLaws.{held-count-is}
use Rattle.print_report.proofs.ReportLaws.{length_lines, line_at, GradingSound, grading-sound}

-- ---- a row as a number

head-back : (n : ℕ) (b : Bridge) (class : ℕ) → BridgeFits b
    → head_of (code_of n b) class ≡ record { instance = n; kind = kind_of b; first = first_end b; second = second_end b; class = class }
head-back n b class fits = λ i. record {
  instance = code_instance n b fits i;
  kind = code_kind n b fits i;
  first = code_first n b fits i;
  second = code_second n b fits i;
  class = class;
}

-- ---- a row as it is held

module _
    (c : Circuit) (good : CircuitGood c) (codes matrix classes matrix-before classes-before : List ℕ)
    (codes-are : codes ≡ padded 2048 0 (codes_of (rows_of c))) (matrix_is : matrix ≡ over (matrix_of c) matrix-before)
    (classes_are : classes ≡ over (classes_of (rows_of c)) classes-before) (r : ℕ) (h : r < length (rows_of c)) where
  abbrev row : Row
  row = get_or (rows_of c) r no_row

  code_at : get_or codes r 0 ≡ code_of row.number row.bridge
  unfolding codes_of
  code_at =
      ap (λ (l : List ℕ). get_or l r 0) codes-are
      ∙ get_or-padded 0 2048 (codes_of (rows_of c)) 0 r (omega (arith, few_rows c good))
      ∙ get_or-map_any (λ (s : Row). code_of s.number s.bridge) (rows_of c) r no_row 0 h

  class_at_lem : get_or classes r 0 ≡ get_or (classes_of (rows_of c)) r 0
  unfolding over
  class_at_lem =
      ap (λ (l : List ℕ). get_or l r 0) classes_are
      ∙ get_or-append (classes_of (rows_of c)) (drop (length (classes_of (rows_of c))) classes-before) 0 r
      (omega (arith, (class-numbers c).one_each))

  word : (j k : ℕ) → k < 4 → j ≡ 4 * r + k → get_or matrix j 0 ≡ get_or (row_words c row) k 0
  unfolding over matrix_of
  word j k l e =
      ap (λ (m : List ℕ). get_or m j 0) matrix_is
      ∙ ap (λ (q : ℕ). get_or (matrix_of c ++ drop (length (matrix_of c)) matrix-before) q 0) e
      ∙ word_in (row_words c) (row_long c) no_row (rows_of c) (drop (length (matrix_of c)) matrix-before) r k h l

  words : words_at matrix r ≡ row_words c row
  unfolding row_words marks.row_of
  words =
      let w : ℕ → ℕ = λ (k : ℕ). get_or (row_words c row) k 0 in
      ap (λ (x : ℕ). x ∷ get_or matrix (4 * r + 1) 0 ∷ get_or matrix (4 * r + 2) 0 ∷ get_or matrix (4 * r + 3) 0 ∷ [])
      (word (4 * r) 0 (omega arith) (omega arith))
      ∙ ap (λ (x : ℕ). w 0 ∷ x ∷ get_or matrix (4 * r + 2) 0 ∷ get_or matrix (4 * r + 3) 0 ∷ []) (word (4 * r + 1) 1 (omega arith) refl)
      ∙ ap (λ (x : ℕ). w 0 ∷ w 1 ∷ x ∷ get_or matrix (4 * r + 3) 0 ∷ []) (word (4 * r + 2) 2 (omega arith) refl)
      ∙ ap (λ (x : ℕ). w 0 ∷ w 1 ∷ w 2 ∷ x ∷ []) (word (4 * r + 3) 3 (omega arith) refl)

  row_is : head_line (head_of (get_or codes r 0) (get_or classes r 0)) (length c.vectors) (words_at matrix r)
      ≡ line_of c row (get_or (classes_of (rows_of c)) r 0)
  unfolding line_of
  row_is =
      let vectors : ℕ = length c.vectors in
      let class : ℕ = get_or (classes_of (rows_of c)) r 0 in
      let b = row.bridge in
      let told : RowHead = record { instance = row.number; kind = kind_of b; first = first_end b; second = second_end b; class = class } in
      let fits = every_at RowFits (rows_of c) (rows_fit c good) r no_row h in
      let few : min vectors 256 ≡ vectors = omega (arith, good.few_vectors) in
      ap (λ (x : ℕ). head_line (head_of x (get_or classes r 0)) vectors (words_at matrix r)) code_at
      ∙ ap (λ (x : ℕ). head_line (head_of (code_of row.number row.bridge) x) vectors (words_at matrix r)) class_at_lem
      ∙ ap (λ (x : RowHead). head_line x vectors (words_at matrix r)) (head-back row.number row.bridge class fits.1)
      ∙ ap (λ (x : List ℕ). head_line told vectors x) words
      ∙ ap (λ (v : ℕ). row_line row.number (kind_of b) (first_end b) (second_end b) class v (row_words c row)) few

-- ---- the whole

module _
    (file : List ℕ) (before : Buffers) (codes matrix classes : List ℕ)
    (listed : (c : Circuit) → reading_of file ≡ accepted c → codes ≡ padded 2048 0 (codes_of (rows_of c))) where
  graded_are : (c : Circuit) → reading_of file ≡ accepted c → matrix ≡ over (matrix_of c) before.matrix
      → classes ≡ over (classes_of (rows_of c)) before.classes
      → graded_lines (counts_of_circuit c) codes matrix classes ≡ report_lines (graded c)
  unfolding graded_lines held_row report_lines counts_of_circuit
  graded_are c reads matrix_is classes_are =
      let each = (class-numbers c).one_each in
      ap (λ (rows : List (List ℕ)). counts_line (counts_of_circuit c) ∷ rows ++ (rounds_line (counts_of_circuit c).rounds ∷ []))
      (sym
      (is-table [] (length (rows_of c)) (held_row (counts_of_circuit c) codes matrix classes)
      (row_lines c (rows_of c) (classes_of (rows_of c)))
      (length_lines c (rows_of c) (classes_of (rows_of c)) each)
      (λ (r : ℕ) (h : r < length (rows_of c)).
      line_at c (rows_of c) (classes_of (rows_of c)) r each h
      ∙ sym (row_is c (accepted-is-good true file c reads) codes matrix classes before.matrix before.classes
      (listed c reads) matrix_is classes_are r h))))

  held_are : (answer : Answer) (g : Grading) → GradingSound file g → matrix ≡ (buffers_after g before).matrix
      → classes ≡ (buffers_after g before).classes → is_graded answer ≡ is_graded_in g → number_of answer ≡ number_in g
      → place_of answer ≡ place_in g → counts_of answer ≡ counts_in g → held_lines answer codes matrix classes ≡ report_lines g
  unfolding GradingSound buffers_after is_graded_in counts_in number_in place_in held_lines report_lines
  held_are (Ok counts) (graded c) reads matrix_is classes_are same number place counts_are =
      ap (λ (m : Counts). graded_lines m codes matrix classes) counts_are ∙ graded_are c reads matrix_is classes_are
  held_are (Err why) (refused n p) low matrix_is classes_are same number place counts_are =
      ap (λ (k : ℕ). refusal_line k (place_why why) ∷ []) number ∙ ap (λ (k : ℕ). refusal_line n k ∷ []) place
  held_are (Ok counts) (refused n p) low matrix_is classes_are same number place counts_are = absurd cc
  held_are (Err why) (graded c) reads matrix_is classes_are same number place counts_are = absurd cc

  rows_in : (g : Grading) → GradingSound file g → matrix ≡ (buffers_after g before).matrix → classes ≡ (buffers_after g before).classes
      → ((counts_in g).faults ≤ length codes) × (4 * (counts_in g).faults ≤ length matrix) × ((counts_in g).faults ≤ length classes)
  unfolding GradingSound buffers_after counts_in counts_of_circuit over matrix_of padded
  rows_in (graded c) reads matrix_is classes_are = (
    omega (
      arith,
      few_rows c (accepted-is-good true file c reads),
      ap length (listed c reads),
      length-table 2048 (λ (i : ℕ). get_or (codes_of (rows_of c)) i 0),
    ),
    omega (
      arith,
      ap length matrix_is,
      length-append (matrix_of c) (drop (length (matrix_of c)) before.matrix),
      length_matrix c (rows_of c),
    ),
    omega (
      arith,
      ap length classes_are,
      length-append (classes_of (rows_of c)) (drop (length (classes_of (rows_of c))) before.classes),
      (class-numbers c).one_each,
    ),
  )
  rows_in (refused number place) low matrix_is classes_are = (omega arith, omega arith, omega arith)

module _ (file : List ℕ) (before : Buffers) (answer : Answer) (codes matrix classes : List ℕ)
    (outcome : OutcomeOf file before answer codes matrix classes) where
  abbrev g : Grading
  g = grading_of file (room_of before)

  matrix_after : matrix ≡ (buffers_after g before).matrix
  matrix_after = outcome.matrix_is ∙ matrix_at_exit _ _ _ _ outcome.promised

  classes_after : classes ≡ (buffers_after g before).classes
  classes_after = outcome.classes_are ∙ classes_at_exit _ _ _ _ outcome.promised

  held : RowsHeld answer codes matrix classes
  held =
      let sound = grading-sound file (room_of before) in
      let told = rows_in file before codes matrix classes outcome.listed g sound matrix_after classes_after in
      let counts = ap (λ (m : Counts). m.faults) outcome.promised.counts in
      record {
        codes_held = omega (arith, counts, told.0);
        words_held = omega (arith, counts, told.1);
        classes_held = omega (arith, counts, told.2);
      }

  held_is_report : held_lines answer codes matrix classes ≡ report_lines g
  held_is_report =
      let p = outcome.promised in
      held_are file before codes matrix classes outcome.listed answer g (grading-sound file (room_of before)) matrix_after classes_after
      p.is_graded_lem p.number p.place p.counts

pub rows_are_held : RowsAreHeld
rows_are_held = held

pub report_piece : (answer : Answer) (codes matrix classes : List ℕ) (from : ℕ) (buffer : List ℕ) (piece : Piece) (after : List ℕ)
    → PieceGiven (held_line answer codes matrix classes) (held_count answer) from buffer piece after
    → ReportPiece answer codes matrix classes from buffer piece after
unfolding held_line report_line line_count
report_piece answer codes matrix classes from buffer piece after given = record {
  of_held = given;
  of_report = λ file before outcome.
      subst (λ (lines : List (List ℕ)). PieceGiven (line_in lines) (length lines) from buffer piece after)
      (held_is_report file before answer codes matrix classes outcome)
      (subst (λ (n : ℕ). PieceGiven (held_line answer codes matrix classes) n from buffer piece after)
      (sym (held-count-is answer codes matrix classes)) given);
}
