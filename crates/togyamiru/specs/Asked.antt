-- What the code answers of what is asked of a file: its rows, or its grading, each in what was lent for it.
use Rattle.std.specs.Prelude.{ℕ, List, ◌⊎◌}
use Rattle.std.proofs.Common.{MutBor, inl, inr}
use Rattle.grading.specs.Buffers.{buffers_of}
use Rattle.grading.specs.Promise.{Answer, Promise}
use Rattle.togyamiru.specs.RowsModel.{RowsAnswer}
use Rattle.togyamiru.specs.declared.answering.Asked.{Asked}
use Rattle.togyamiru.specs.declared.answering.Asked.TheVariants.{Rows, Grading}

-- what is lent, as it is left: the rows, or the matrix and the classes
abbrev pub Left : Type 0
Left = (MutBor (List ℕ) × Unit {0}) ⊎ ((MutBor (List ℕ) × (MutBor (List ℕ) × Unit {0})) ⊎ ⊥)

abbrev pub AnswersAsked : List ℕ → Asked → Answer → Left → Type 0
AnswersAsked file (Rows rows) answer (inl left) = RowsAnswer file rows.now answer left.0.now
AnswersAsked file (Rows rows) answer (inr other) = ⊥
AnswersAsked file (Grading matrix classes) answer (inl other) = ⊥
AnswersAsked file (Grading matrix classes) answer (inr (inl left)) =
    Promise file (buffers_of matrix.now classes.now) answer (buffers_of left.0.now left.1.0.now)
AnswersAsked file (Grading matrix classes) answer (inr (inr other)) = ⊥
