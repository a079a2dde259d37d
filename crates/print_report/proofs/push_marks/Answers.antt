-- `print_report::push_marks` meets its contract. The loop's invariant: the digits of the vectors passed stand behind what the line had.
-- Assumes nothing.
use mathlib.Core.Path.{◌≡◌, sym, ap, ◌∙◌}
use mathlib.Core.List.{List, [], ◌∷◌, ◌++◌, append-nil, append_assoc}
use Prim.Native.Nat.{ℕ, ◌+◌, ◌/◌, ◌%◌, ◌^◌}
use native.Mathlib.Numerals.{add-one}
use native.Mathlib.Omega.{arith}
use lib.ListN.{length, get_or, length-append}
use Rattle.words.specs.Bits.{bit}
use Rattle.words.specs.Rows.{mark_at}
use Rattle.words.specs.Tables.{table}
use Rattle.words.proofs.Tables.{table_more}
use Rattle.print_report.specs.Lines.{digits_of_marks}
use Rattle.print_report.proofs.push_marks.Goals as goal

-- one vector more is one digit more
digit_more : (line row : List ℕ) (v : ℕ)
    → line ++ digits_of_marks v row ++ ((48 + get_or row (v / 64) 0 / 2 ^ (v % 64) % 2) ∷ []) ≡ line ++ digits_of_marks (v + 1) row
unfolding digits_of_marks mark_at bit
digit_more line row v = rw (add-one, table_more) (append_assoc line (digits_of_marks v row) _)

pub loop-v-init : goal.loop-v-init
unfolding digits_of_marks table
loop-v-init g c = (sym (append-nil _), omega arith)

pub loop-v-preserved : goal.loop-v-preserved
loop-v-preserved g c =
    let v = c.loop-v.v in
    let digit = 48 + get_or c.args.row (v / 64) 0 / 2 ^ (v % 64) % 2 in (
      c.push.ensures ∙ ap (λ (l : List ℕ). l ++ (digit ∷ [])) c.loop-v.invariant.0 ∙ digit_more c.args.line.now c.args.row v,
      omega (arith, ap length c.push.ensures, length-append c.loop-v.line (digit ∷ [])),
    )
