-- `read_fields::cursor::cut_at` meets its contract: what is left of the file decides between its end, no whole field, and a field.
-- Assumes nothing.
use Prim.Native.Nat.{ℕ, ◌+◌, ◌-◌, ◌*◌, ◌<◌, ◌≤◌}
use mathlib.Core.Path.{◌≡◌, refl, sym, ap, ◌∙◌}
use mathlib.Core.List.{List}
use native.Mathlib.Omega.{arith}
use lib.ListN.{length, get_or, take, drop, length-drop}
use lib.Seq.{get_or-drop, drop-drop, take_all}
use Rattle.std.specs.List.{slice_range}
use native.Mathlib.Numerals.{unary_clauses}
use Rattle.std.proofs.Common.{add-zero}
use denote.Ref.{Bor}
use Rattle.circuit.specs.Fields.{field, cut_from, two_bytes}
use Rattle.read_fields.specs.Steps.{field_in, FieldAt, StepIs}
use Rattle.read_fields.proofs.Cuts.{behind, cut_broken, cut_field}
use Rattle.read_fields.proofs.cursor.cut_at.Goals as goal

module _ (file : List ℕ) (at : ℕ) (before : at < length file) where
  -- what is left of the file, as the code slices it
  abbrev left : List ℕ
  left = take (length file - at) (drop at file)

  left_is : left ≡ drop at file
  left_is = take_all (length file - at) (drop at file) (omega (arith, length-drop at file))

  length_left : length left + at ≡ length file
  length_left = omega (arith, ap length left_is, length-drop at file)

  -- its bytes are the file's
  byte_is : (i : ℕ) → get_or left i 0 ≡ get_or file (at + i) 0
  byte_is i = ap (λ (l : List ℕ). get_or l i 0) left_is ∙ get_or-drop at file i 0

  -- the length that the code reads
  len_is : get_or left 1 0 * 256 + get_or left 2 0 ≡ two_bytes file (at + 1)
  unfolding two_bytes
  len_is = omega (arith, byte_is 1, byte_is 2, ap (λ (i : ℕ). get_or file i 0) (let e : at + 2 ≡ at + 1 + 1 = omega arith in e))

  rest_is : take (length left - 3) (drop 3 left) ≡ drop (at + 3) file
  rest_is = take_all (length left - 3) (drop 3 left) (omega (arith, length-drop 3 left)) ∙ ap (drop 3) left_is ∙ drop-drop 3 at file

  -- a field, with as many bytes for its body as its length says
  field_at : (len : ℕ) (body : Bor (List ℕ)) → len ≡ two_bytes file (at + 1) → at + 3 + len ≤ length file
      → body.now ≡ slice_range (take (length left - 3) (drop 3 left)) 0 len → length body.now ≡ len
      → FieldAt file at (record { at = at; tag = get_or left 0 0; body = body })
  unfolding field_in
  field_at len body e fits is long = record {
    place = refl;
    inside = omega arith;
    cut =
        let whole : behind file at ≤ length file = omega arith in
        let tags = sym (rw add-zero at (byte_is 0)) in
        let bodies = ap (λ (n : ℕ). take n (drop (at + 3) file)) (sym e) ∙ ap (take len) (sym rest_is) ∙ sym (simp unary_clauses at is) in
        let ends : behind file at ≡ at + 3 + length body.now = omega arith in
        cut_field file at whole ∙ (λ i. field (record { at = at; tag = tags i; body = bodies i }) (cut_from file (ends i)));
  }

pub returns-in-None : goal.returns-in-None
unfolding StepIs
returns-in-None c =
    let a = c.args in
    let e = len_is a.file.now a.at c.if-file-at.false in
    let left = length_left a.file.now a.at c.if-file-at.false in
    let rest = ap length (rest_is a.file.now a.at c.if-file-at.false) in
    let none = c.in-None.ensures.lookup.0 in
    cut_broken a.file.now a.at c.if-file-at.false
    (omega (arith, c.in-len3-up.len_at_least, length-drop (a.at + 3) a.file.now, none))

pub returns-in-Some : goal.returns-in-Some
unfolding StepIs
returns-in-Some c =
    let a = c.args in
    let before = c.if-file-at.false in
    let some = c.in-Some.ensures.lookup.0 in
    let rest = ap length (rest_is a.file.now a.at before) in
    field_at a.file.now a.at before c.from_be_bytes-len.result c.in-Some.body (c.from_be_bytes-len.ensures ∙ len_is a.file.now a.at before)
    (omega (arith, some, length-drop (a.at + 3) a.file.now)) some.2 (omega (arith, some.3))
