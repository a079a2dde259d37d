-- `print_lines::put_number` meets its contract. The loop's invariant: the digits from i on stand in the buffer at their place and all else
-- there is as it was, and the digits before i are the last i digits of what is left of the number. Assumes nothing.
use mathlib.Core.Path.{◌≡◌, ap, sym, ◌∙◌}
use mathlib.Core.List.{List, [], ◌∷◌, ◌++◌, append-nil}
use Prim.Native.Nat.{ℕ, suc, ◌≤◌, ◌<◌, ◌-◌, ◌+◌, ◌/◌, ◌%◌}
use native.Mathlib.Nat.{add-zero, add-suc, suc-add}
use native.Mathlib.Omega.{arith}
use lib.ListN.{length, set, take, drop, length-append, length-drop, drop_of_length-le}
use lib.Seq.{drop_at, length-take-le, set-append_left, take-set-lt, take-suc-set, append_snoc}
use Rattle.words.specs.Written.{written}
use Rattle.words.proofs.WrittenLaws.{written_nothing}
use Rattle.print_lines.specs.Decimal.{digits_of, length_in, decimal}
use Rattle.print_lines.proofs.DecimalLaws.{length_digits, at_most_20}
use Rattle.print_lines.proofs.put_number.Goals as goal

-- a byte stored just before a text is the text's first
set_before : (buffer : List ℕ) (at b : ℕ) (text : List ℕ) → suc at + length text ≤ length buffer
    → set (written buffer (suc at) text) at b ≡ written buffer at (b ∷ text)
unfolding written
set_before buffer at b text fits =
    let front : length (take (suc at) buffer) ≡ suc at = length-take-le (suc at) buffer (omega arith) in
    let in_front : at < length (take (suc at) buffer) = omega arith in
    let in_text : at < length (take (suc at) buffer ++ text) = simp length-append (omega arith) in
    let inside : at < length buffer = omega arith in
    rw (
      set-append_left (take (suc at) buffer ++ text),
      set-append_left (take (suc at) buffer),
      ← take-set-lt (suc at) buffer at b (omega arith),
      take-suc-set,
      append_snoc,
      suc-add,
      add-suc,
    )

-- a turn stores the last digit of what is left just before those which stand there
turn : (buffer : List ℕ) (at i j left : ℕ) (text out : List ℕ) → i ≡ suc j → i ≤ length text → at + length text ≤ length buffer
    → out ≡ written buffer (at + i) (drop i text) → digits_of i left ++ drop i text ≡ text
    → (set out (at + j) (48 + left % 10) ≡ written buffer (at + j) (drop j text)) × (digits_of j (left / 10) ++ drop j text ≡ text)
unfolding digits_of
turn buffer at i j left text out next inside fits e same =
    let digit = 48 + left % 10 in
    let split : digits_of j (left / 10) ++ (digit ∷ drop (suc j) text) ≡ text
    = sym (append_snoc (digits_of j (left / 10)) digit (drop (suc j) text)) ∙ rw next at same in
    let rest : drop j text ≡ digit ∷ drop (suc j) text
    = ap (drop j) (sym split) ∙ drop_at (digits_of j (left / 10)) _ j (length_digits j (left / 10)) in
    let behind : out ≡ written buffer (suc (at + j)) (drop (suc j) text) = rw next at e ∙ rw add-suc in
    let stored = set_before buffer (at + j) digit (drop (suc j) text) (omega (arith, length-drop (suc j) text)) in
    (ap (λ (l : List ℕ). set l (at + j) digit) behind ∙ rw rest stored, rw rest split)

pub loop-i-init : goal.loop-i-init
unfolding decimal
loop-i-init c =
    let k = c.digits-count.result in
    let n = c.args.n in
    let none : drop k (digits_of k n) ≡ [] = drop_of_length-le (digits_of k n) (omega (arith, length_digits k n)) in
    let few = at_most_20 n c.ranges.n.fits in
    let size = length_digits (length_in 20 n) n in
    (omega (arith, c.digits-count.ensures), rw (none, written_nothing), rw (none, append-nil))

pub loop-i-preserved : goal.loop-i-preserved
loop-i-preserved c =
    let l = c.loop-i in
    let size = length_digits c.digits-count.result c.args.n in
    let text = digits_of c.digits-count.result c.args.n in
    let more = turn c.args.out.now c.args.at l.i (l.i - 1) l.left text l.out (omega arith) (omega arith) (omega arith)
    l.invariant.1 l.invariant.2 in
    (l.invariant.0, more.0, more.1)

pub returns : goal.returns
unfolding decimal
returns c =
    let n = c.args.n in
    let none : c.loop-i.i ≡ 0 = omega arith in (
      rw (c.digits-count.ensures, length_digits (length_in 20 n) n),
      c.loop-i.invariant.1 ∙ rw (none, add-zero, c.digits-count.ensures),
    )
