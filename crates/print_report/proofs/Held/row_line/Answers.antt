-- `print_report::Held::row_line` meets its contract: the head is that of the row's number, and the words are the row's. Assumes nothing.
use mathlib.Core.Path.{◌≡◌, ◌∙◌}
use mathlib.Core.List.{List}
use Prim.Native.Nat.{ℕ, ◌+◌, ◌*◌, ◌<◌}
use native.Mathlib.Nat.{add-zero}
use lib.ListN.{length, get_or}
use Rattle.std.proofs.Common.{rules}
use Rattle.words.specs.Tables.{table}
use Rattle.words.proofs.Tables.{is-table}
use Rattle.print_report.specs.Held.{words_at}
use Rattle.print_report.proofs.HeldLaws.{given-head}
use Rattle.print_report.proofs.Held.row_line.Goals as goal

words-are : (matrix row : List ℕ) (r : ℕ) → length row ≡ 4 → ((w : ℕ) → w < 4 → get_or row w 0 ≡ get_or matrix (4 * r + w) 0)
    → row ≡ words_at matrix r
unfolding table
words-are matrix row r size each = is-table 0 4 (λ (w : ℕ). get_or matrix (4 * r + w) 0) row size each ∙ rw add-zero

pub returns : goal.returns
returns c =
    let e = c.args in
    let made = c.from_fn-row.ensures.items in
    let words = words-are e.self.now.matrix.now c.from_fn-row.result e.r made.long (λ w l. let called = made.at w 0 l in search rules) in
    given-head e.vectors (words_at e.self.now.matrix.now e.r) c.head_of-head.ensures (rw words at c.row_line.ensures)
