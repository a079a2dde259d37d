-- The lines of what is held: how many there are, and which of them each call of the code gives. Assumes nothing.
use Prim.Native.Nat.{ℕ, suc, ◌-◌, ◌≤◌, ◌<◌}
use mathlib.Core.Path.{◌≡◌, refl, sym, ap, ◌∙◌}
use mathlib.Core.List.{List, [], ◌∷◌, ◌++◌}
use native.Mathlib.Omega.{arith}
use lib.ListN.{length, get_or, length-append, get_or-append}
use Rattle.std.specs.Prelude.{Option, Ok, Err}
use Rattle.words.specs.Tables.{table}
use Rattle.words.proofs.Tables.{length-table, get_or-table}
use Rattle.print_lines.specs.Lines.{refusal_line}
use Rattle.print_lines.specs.Pieces.{line_in}
use Rattle.print_lines.specs.Given.{LineGiven}
use Rattle.print_lines.proofs.Within.{given-line}
use Rattle.print_lines.proofs.LineList.{line-behind}
use Rattle.grading.specs.Promise.{Answer, number_why, place_why, counts_meant}
use Rattle.grading.specs.declared.Counts.{Counts as CountsRecord}
use Rattle.grading.specs.declared.Ungraded.{Ungraded}
use Rattle.print_report.specs.Lines.{first_line, rounds_line}
use Rattle.print_report.specs.Report.{counts_line}
use Rattle.print_report.specs.declared.RowHead.{RowHead}
use Rattle.print_report.specs.Held.{head_line, held_row, graded_lines, held_lines, held_line, held_count}

pub given-head : {head said : RowHead} (vectors : ℕ) (row : List ℕ) {buffer after : List ℕ} {count : Option ℕ} → head ≡ said
    → LineGiven (head_line head vectors row) buffer count after → LineGiven (head_line said vectors row) buffer count after
given-head {head} {said} vectors row e g = given-line (ap (λ (h : RowHead). head_line h vectors row) e) g

-- ---- how many lines there are

pub held-count-is : (answer : Answer) (codes matrix classes : List ℕ) → length (held_lines answer codes matrix classes) ≡ held_count answer
unfolding held_lines graded_lines
held-count-is (Ok counts) codes matrix classes =
    let row = held_row (counts_meant counts) codes matrix classes in
    omega (arith, length-append (table counts.faults row) (rounds_line counts.rounds ∷ []), length-table counts.faults row)
held-count-is (Err why) codes matrix classes = refl

-- ---- the line that a call gives

pub refused_line : (why : Ungraded) (codes matrix classes : List ℕ) (n : ℕ) → n < held_count (Err why)
    → refusal_line (number_why why) (place_why why) ≡ held_line (Err why) codes matrix classes n
unfolding held_line held_lines line_in
refused_line why codes matrix classes n inside =
    let first : n ≡ 0 = omega arith in
    ap (λ (k : ℕ). get_or (refusal_line (number_why why) (place_why why) ∷ []) k []) (sym first)

module _ (counts : CountsRecord) (codes matrix classes : List ℕ) (n : ℕ) where
  pub counts_line_lem : n ≡ 0 → first_line counts.vectors counts.faults counts.classes counts.found
      ≡ held_line (Ok counts) codes matrix classes n
  unfolding held_line held_lines graded_lines counts_line line_in
  counts_line_lem first = ap (λ (k : ℕ). get_or (graded_lines (counts_meant counts) codes matrix classes) k []) (sym first)

  abbrev rows : List (List ℕ)
  rows = table counts.faults (held_row (counts_meant counts) codes matrix classes)

  abbrev last : List (List ℕ)
  last = rounds_line counts.rounds ∷ []

  row_count : length rows ≡ counts.faults
  row_count = length-table counts.faults (held_row (counts_meant counts) codes matrix classes)

  -- a line behind the counts is one of the rows, or the last
  behind_counts : 0 < n → get_or (rows ++ last) (n - 1) [] ≡ held_line (Ok counts) codes matrix classes n
  unfolding held_line held_lines graded_lines line_in
  behind_counts later =
      let place : suc (n - 1) ≡ n = omega arith in
      ap (λ (k : ℕ). get_or (graded_lines (counts_meant counts) codes matrix classes) k []) place

  pub row_line_held : 0 < n → n ≤ counts.faults
      → held_row (counts_meant counts) codes matrix classes (n - 1) ≡ held_line (Ok counts) codes matrix classes n
  row_line_held later among =
      let row : n - 1 < counts.faults = omega arith in
      sym (get_or-table counts.faults (held_row (counts_meant counts) codes matrix classes) [] (n - 1) row)
      ∙ sym (get_or-append rows last [] (n - 1) (omega (arith, row_count)))
      ∙ behind_counts later

  pub rounds_line_held : n < held_count (Ok counts) → counts.faults < n
      → rounds_line counts.rounds ≡ held_line (Ok counts) codes matrix classes n
  rounds_line_held inside past =
      let first : n - 1 - length rows ≡ 0 = omega (arith, row_count, inside) in
      ap (λ (k : ℕ). get_or last k []) (sym first)
      ∙ sym (line-behind rows last (n - 1) (omega (arith, row_count)))
      ∙ behind_counts (omega arith)
