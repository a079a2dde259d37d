-- An array that a closure makes, which stays as it is: the table of what the closure answers. Assumes nothing.
use Rattle.std.proofs.Common.{◌≡◌, ℕ, zero, suc, ◌+◌, ◌<◌, List, get_or, ◌∙◌, subst, add-zero, zero-add, arith}
use Rattle.std.specs.Fn.{Called}
use Rattle.std.specs.Array.{IsFromFnResult, IsFromFnResultFrom}
use denote.Param.Members.{Mut}
use Rattle.words.specs.Tables.{table}
use Rattle.words.proofs.Tables.{is-table}

module _ {F B : Type 0} (g : Mut F (ℕ × Unit {0}) B) (f : F) (h : ℕ → B)
    (same : (i : ℕ) (y : B) (q : F) → Called g f (i, tt) y q → (y ≡ h i) × (q ≡ f)) where
  element : (n i : ℕ) (ys : List B) → IsFromFnResultFrom g f ys i n → (j : ℕ) (d : B) → j < n → get_or ys (i + j) d ≡ h (i + j)
  element zero i ys all j d k = absurd (omega arith)
  element (suc n) i ys all zero d k = rw add-zero (all.2.1 d ∙ (same i all.1 all.0 all.3).0)
  element (suc n) i ys all (suc j) d k =
      let rest = subst (λ (q : F). IsFromFnResultFrom g q ys (i + 1) n) (same i all.1 all.0 all.3).1 all.4 in
      let e : i + suc j ≡ i + 1 + j = omega arith in
      rw e (element n (i + 1) ys rest j d (omega arith))

  pub table_made : B → (n : ℕ) (ys : List B) → IsFromFnResult g f ys n → ys ≡ table n h
  table_made d n ys all = is-table d n h ys all.long (λ i k. simp zero-add at (element n 0 ys all.each i d k))
