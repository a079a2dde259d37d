-- `grade_classes::write_keys` meets its contract. The loop's invariant: the keys of the rows before the present one are written, so that
-- this and later rows are as they were. Assumes nothing.
use Rattle.std.proofs.Common.{◌≡◌, ℕ, ◌+◌, ◌-◌, ◌≤◌, ◌<◌, List, ◌++◌, length, get_or, set, take, sym, ap, ◌∙◌, add-zero, arith}
use Rattle.std.proofs.lemmas.List.{length-take-le, set-append_left, set-append_right}
use Rattle.std.proofs.Math.Seq.{get_or-append-add}
use Rattle.std.proofs.Math.ListN.{get_or-append}
use borrow.Rule.Slice.PartMut.{put_mid, post_of, put_same, mid_len}
use Rattle.grading.specs.Codes.{CodesFit}
use Rattle.grade_classes.proofs.ClassLaws.{keyed_none, code_kept, keyed_more}
use Rattle.grade_classes.proofs.write_keys.Goals as goal
use Rattle.grade_classes.proofs.write_keys.Goals.{In-loop-code}

-- an element of a part that was put into a list, and one set there
module _ (a k : ℕ) (xs ys : List ℕ) (few : a ≤ length xs) (j : ℕ) (inside : j < length ys) where
  put_at : get_or (put_mid a k xs ys) (a + j) 0 ≡ get_or ys j 0
  put_at =
      ap (λ (n : ℕ). get_or (put_mid a k xs ys) (n + j) 0) (sym (length-take-le a xs few))
      ∙ get_or-append-add (take a xs) (ys ++ post_of a k xs) j 0
      ∙ get_or-append ys (post_of a k xs) 0 j inside

  put_set : (v : ℕ) → put_mid a k xs (set ys j v) ≡ set (put_mid a k xs ys) (a + j) v
  put_set v =
      let place : a + j - a ≡ j = omega arith in
      rw (set-append_right (take a xs) (ys ++ post_of a k xs) a (a + j) v (length-take-le a xs few) (omega arith), place)
      (ap (λ (l : List ℕ). take a xs ++ l) (sym (set-append_left ys (post_of a k xs) j v inside)))

-- a turn
module _ (c : In-loop-code) where
  abbrev codes : List ℕ
  codes = c.args.codes.now

  abbrev from : ℕ
  from = c.args.from

  abbrev row : ℕ
  row = from + c.loop-code.code-index

  room : (length c.loop-code.code-items ≡ c.args.to - from) × (row < c.args.to)
  room =
      let long = mid_len from c.args.to codes (omega arith) in
      (omega arith, omega arith)

  -- the row's code is as it was
  here : get_or c.loop-code.code-items c.loop-code.code-index 0 ≡ get_or codes row 0
  here =
      sym (put_at from (c.args.to - from) codes c.loop-code.code-items (omega arith) c.loop-code.code-index (omega arith))
      ∙ code_kept codes _ _ _ from row (omega arith) (omega (arith, room)) c.loop-code.invariant

pub loop-code-init : goal.loop-code-init
loop-code-init c = rw (put_same, add-zero) (sym (keyed_none _ _ _ _ _))

pub key_of-requires : goal.key_of-requires
unfolding CodesFit
key_of-requires c =
    let turn = (goal.at.key_of-requires c).In-loop-code in
    (rw (here turn) (c.requires.codes_fit (row turn) (omega arith) (room turn).1), omega arith)

pub loop-code-preserved : goal.loop-code-preserved
loop-code-preserved c =
    let turn = (goal.at.loop-code-preserved c).In-loop-code in
    let part = c.loop-code.code-items in
    let index : ℕ = c.loop-code.code-index in
    let few : from turn ≤ length (codes turn) = omega arith in
    let inside : index < length part = omega arith in
    let next : from turn + (index + 1) ≡ row turn + 1 = omega arith in
    rw (
      put_set (from turn) (c.args.to - from turn) (codes turn) part few index inside c.key_of.result,
      next,
      c.key_of.ensures,
      ← put_at (from turn) (c.args.to - from turn) (codes turn) part few index inside,
    )
    (keyed_more (codes turn) _ _ _ (from turn) (row turn) (omega arith) (omega (arith, room turn)) c.loop-code.invariant)

pub returns : goal.returns
returns c =
    let few = mid_len c.args.from c.args.to c.args.codes.now (omega arith) in
    let last : c.args.from + c.loop-code.code-index ≡ c.args.to = omega arith in
    rw (← c.label_wires-labels.ensures) (rw last at c.loop-code.invariant)
