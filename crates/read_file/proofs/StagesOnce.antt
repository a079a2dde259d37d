-- Two answers that meet the promise of `read_stages` are the same answer: the reading tells the refusal, and the circuit is stated whole.
use Prim.Native.Nat.{ℕ}
use mathlib.Core.Path.{◌≡◌, sym, ◌∙◌}
use mathlib.Core.Bool.{Bool}
use mathlib.Core.List.{List}
use Rattle.circuit.specs.Reading.{Reading, accepted, refusal, reading_with}
use Rattle.circuit.specs.Refusals.{verdict_of}
use Rattle.circuit.specs.Answers.{Tells}
use Rattle.circuit.specs.declared.Reading.{Reading as ReadingRecord}
use Rattle.circuit.proofs.AnswerLaws.{verdict-tells}
use Rattle.read_file.specs.ReadStages.{ReadByStages}

same_verdict : (reading : Reading) (r s : ReadingRecord) → Tells reading r → Tells reading s → verdict_of r.refusal ≡ verdict_of s.refusal
unfolding Tells
same_verdict (accepted c) r s (p, q) (p', q') = p ∙ sym p'
same_verdict (refusal number place) r s p p' = p ∙ sym p'

pub stages_once : (wanted : Bool) (file : List ℕ) (r s : ReadingRecord) → ReadByStages wanted file r → ReadByStages wanted file s → r ≡ s
stages_once wanted file r s p q =
    let why = verdict-tells r.refusal s.refusal (same_verdict (reading_with wanted file) r s p.tells q.tells) in
    let circuit = p.circuit ∙ sym q.circuit in
    λ i. record { refusal = why i; circuit = circuit i }
