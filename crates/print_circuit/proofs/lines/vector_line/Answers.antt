-- `print_circuit::lines::vector_line` meets its contract. Assumes nothing.
use mathlib.Core.Path.{◌≡◌, refl, ap, sym, ◌∙◌}
use mathlib.Core.List.{List, [], ◌∷◌, ◌++◌, append-nil, append_assoc}
use Prim.Native.Nat.{ℕ, ◌+◌}
use native.Mathlib.Numerals.{add-one}
use native.Mathlib.Omega.{arith}
use lib.ListN.{length, length-append}
use Rattle.words.specs.Tables.{table}
use Rattle.words.proofs.Tables.{table_more}
use Rattle.print_circuit.specs.Lines.{vector_line}
use Rattle.print_circuit.proofs.LineLaws.{fields_one}
use Rattle.print_circuit.proofs.TextLaws.{letter_at, letters-are}
use Rattle.print_circuit.proofs.lines.vector_line.Goals as goal

pub loop-i-init : goal.loop-i-init
unfolding table
loop-i-init c = record { text = sym (append-nil c.push.new.self); short = omega (arith, simp length-append at (ap length c.push.ensures)) }

pub loop-i-preserved : goal.loop-i-preserved
loop-i-preserved c =
    let v = c.args.v.now in
    let i : ℕ = c.loop-i.i in
    let front = c.push.new.self in
    let pushed = c.push-in-loop-i.ensures in
    let more : table i (letter_at v) ++ (c.letter.result ∷ []) ≡ table (i + 1) (letter_at v)
    = ap (λ (b : ℕ). table i (letter_at v) ++ (b ∷ [])) c.letter.ensures
    ∙ sym (table_more i (letter_at v))
    ∙ ap (λ (n : ℕ). table n (letter_at v)) (sym (add-one i)) in
    record {
      text = pushed
          ∙ ap (λ (l : List ℕ). l ++ (c.letter.result ∷ [])) c.loop-i.invariant.text
          ∙ append_assoc front (table i (letter_at v)) (c.letter.result ∷ [])
          ∙ ap (λ (l : List ℕ). front ++ l) more;
      short = omega (arith, simp length-append at (ap length pushed));
    }

pub returns : goal.returns
unfolding vector_line
returns c =
    let all : c.loop-i.i ≡ c.min-i-end.result = omega arith in
    rw (
      c.push-2.ensures,
      c.loop-i.invariant.text,
      c.push.ensures,
      c.begin-line.ensures.text,
      fields_one,
      letters-are c.args.inputs _ c.args.v.now (all ∙ c.min-i-end.ensures),
    ) refl
