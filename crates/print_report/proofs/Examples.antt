-- 01, "The report": the output for the inverter, line by line and byte for byte, with 02's last line, and two refusals. Each line is
-- computed.
use mathlib.Core.Path.{◌≡◌, refl}
use mathlib.Core.List.{[], ◌∷◌}
use Prim.Native.Nat.{ℕ}
use Prim.Native.String.{String}
use Rattle.words.specs.Bits.{bit, sum_to, first_to}
use Rattle.words.specs.Rows.{mark_at, marks_of, first_mark_of}
use Rattle.words.specs.Tables.{table}
use Rattle.print_lines.specs.Ascii.{bytes_of}
use Rattle.print_lines.specs.Decimal.{digits_of, length_in, decimal}
use Rattle.print_lines.specs.Lines.{refusal_line}
use Rattle.print_report.specs.Lines.{first_line, kind_letter, digits_of_marks, row_line, rounds_line}

-- three vectors' marks stand in the row's first word, the first vector's in bit 0
row_says : ℕ → ℕ → ℕ → ℕ → ℕ → ℕ → String → Type 0
row_says instance kind first second class marks text = row_line instance kind first second class 3 (marks ∷ 0 ∷ 0 ∷ 0 ∷ []) ≡ bytes_of text

inverter-first : first_line 3 6 6 6 ≡ bytes_of "vectors 3 faults 6 classes 6 found 6\n"
unfolding first_line decimal digits_of length_in
inverter-first = refl

inverter-rows :
    row_says 1 0 0 1 1 0b111 "1 n 0 1 1 111 3 1\n"
    × row_says 1 0 0 2 2 0b001 "1 n 0 2 2 100 1 1\n"
    × row_says 1 0 1 2 3 0b010 "1 n 1 2 3 010 1 2\n"
    × row_says 1 1 0 0 4 0b010 "1 i 0 0 4 010 1 2\n"
    × row_says 1 1 1 0 5 0b001 "1 i 1 0 5 100 1 1\n"
    × row_says 1 1 2 0 6 0b011 "1 i 2 0 6 110 2 1\n"
unfolding row_says row_line decimal digits_of length_in kind_letter digits_of_marks table mark_at marks_of first_mark_of bit sum_to first_to
inverter-rows = (refl, refl, refl, refl, refl, refl)

-- the output is one edge from its rail
inverter-last : rounds_line 1 ≡ bytes_of "rounds 1\n"
unfolding rounds_line decimal digits_of length_in
inverter-last = refl

refusals : (refusal_line 14 0 ≡ bytes_of "refused 14 at 0\n") × (refusal_line 15 8192 ≡ bytes_of "refused 15 at 8192\n")
unfolding refusal_line decimal digits_of length_in
refusals = (refl, refl)
