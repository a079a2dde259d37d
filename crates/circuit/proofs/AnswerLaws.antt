-- Two answers that meet the promise of `read` are the same answer: a refusal is told by its number and its place, and the circuit beside it is stated whole.
use mathlib.Core.Path.{◌≡◌, sym, ◌∙◌}
use native.Mathlib.Omega.{arith}
use Rattle.std.specs.Prelude.{Option}
use Rattle.circuit.specs.Reading.{accepted, refusal}
use Rattle.circuit.specs.Refusals.{verdict_of}
use Rattle.circuit.specs.Answers.{Tells, Answers}
use Rattle.circuit.specs.Laws.{AnswersUnique}
use Rattle.circuit.specs.declared.Reading.{Reading as ReadingRecord}
use Rattle.circuit.specs.declared.refusal.Refusal.{Refusal}

-- number and place tell a refusal, and that there is none
pub verdict-tells : (r s : Option Refusal) → verdict_of r ≡ verdict_of s → r ≡ s
verdict-tells r s e = grind arith

same_answer : (r s : ReadingRecord) → r.refusal ≡ s.refusal → r.circuit ≡ s.circuit → r ≡ s
same_answer r s p q = λ i. record { refusal = p i; circuit = q i }

pub answers_unique : AnswersUnique
unfolding Answers Tells
answers_unique (accepted c) r s (p, q) (p', q') = same_answer r s (verdict-tells r.refusal s.refusal (p ∙ sym p')) (q ∙ sym q')
answers_unique (refusal n at) r s (p, q) (p', q') = same_answer r s (verdict-tells r.refusal s.refusal (p ∙ sym p')) (q ∙ sym q')
