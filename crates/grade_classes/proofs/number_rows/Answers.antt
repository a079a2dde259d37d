-- `grade_classes::number_rows` meets its contract. The outer loop's invariant: the rows so far are numbered, and their first rows chained
-- (`Numbered`). The inner loop's: every first row with the key is below the pointer (`Seeks`), which falls. Assumes nothing.
use Rattle.std.proofs.Common.{◌≡◌, ℕ, suc, ◌-◌, ◌<◌, eqb, length, get_or, take, ◌∙◌, add-one, arith}
use Rattle.std.proofs.lemmas.List.{length-replicate, get_or-replicate}
use Rattle.grading.proofs.ClassLists.{class_of}
use Rattle.grade_classes.proofs.Chains.{numbers_to, numbered_none, count_few}
use Rattle.grade_classes.proofs.Chains.{yields_new, yields_old, numbered_new, numbered_old}
use Rattle.grade_classes.proofs.number_rows.Goals as goal
use Rattle.grade_classes.proofs.number_rows.Goals.{then-next-eq0, else-next-eq0+then-keys-j, then-count-class, else-count-class}

pub loop-r-init : goal.loop-r-init
loop-r-init c =
    numbered_none _ _ _ _ (length-replicate {A = ℕ} 251 0) (length-replicate {A = ℕ} 2048 0) (λ b h. get_or-replicate {A = ℕ} 251 b 0 0 h)

pub overflow_add-class : goal.overflow_add-class
overflow_add-class c = omega (arith, count_few c.args.keys.now c.loop-r.invariant (omega arith) (omega arith))

pub loop-r-preserved : goal.loop-r-preserved
loop-r-preserved c =
    let keys = c.args.keys.now in
    let row : ℕ = c.loop-r.r in
    let key : ℕ = get_or keys row 0 in
    let so_far = c.loop-r.invariant in
    let keyed : row < length keys = omega arith in
    let classed : row < length c.args.classes.now = omega arith in
    let inside : row < 2048 = omega arith in
    let p : ℕ = c.loop-next.next in
    let s = c.loop-next.invariant in
    let class_is : c.if-next-eq0.class ≡ class_of eqb key (take row keys) (numbers_to keys row) =
    elim c.if-next-eq0.branch [
      | then-next-eq0 w ↦ w.class-is ∙ add-one c.loop-r.count ∙ yields_new keys so_far keyed classed p s w.if-next-eq0.true
      | else-next-eq0+then-keys-j w ↦
          let there : p ≡ suc (p - 1) = omega arith in
          w.class-is ∙ yields_old keys so_far keyed classed p (p - 1) s there w.if-keys-j.true
    ]
    in
    elim c.if-count-class.branch [
      | then-count-class w ↦
          numbered_new keys so_far keyed classed c.if-next-eq0.class class_is _ c.bucket_of-bucket.ensures _ _ _
          w.heads-is w.nexts-is w.count-is w.if-count-class.true inside
      | else-count-class w ↦
          numbered_old keys so_far keyed classed c.if-next-eq0.class class_is _ _ _ w.heads-is w.nexts-is w.count-is w.if-count-class.false
    ]
